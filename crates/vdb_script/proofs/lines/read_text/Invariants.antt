use Rattle.std.proofs.Common.{◌≡◌, ℕ, ◌+◌, ◌≤◌, List, true}
use Rattle.vdb_scene.specs.Watched.{bytes_given, empty_reads, has_failed, source}
use Rattle.vdb_script.specs.Reading.{budget, ahead, end_count, EndsWith, KeepsText}
use Rattle.vdb_script.proofs.Reading.{Takes}
use Rattle.vdb_script.proofs.lines.read_text.Given as goal

-- the bytes of the line so far
abbrev pub invariant-loop-stock : goal.invariant-loop-stock
invariant-loop-stock g l = record {
  line : List ℕ;
  taken : Takes (ahead l.fn.stock (g.R.Read.remaining (source l.fn.reader))) (ahead l.stock (g.R.Read.remaining (source l.reader))) l.fn.stock l.stock line;
  kept : KeepsText l.fits l.text line;
  failed : has_failed l.reader ≡ has_failed l.fn.reader;
  ends : EndsWith l.stock (g.R.Read.remaining (source l.reader));
  quiet : l.fn.stock.ended ≡ true → l.reader ≡ l.fn.reader;
  stays : l.fn.stock.ended ≡ true → l.stock.ended ≡ true;
  given : bytes_given l.reader + l.stock.left ≤ bytes_given l.fn.reader + l.fn.stock.left;
  empty : empty_reads l.reader + end_count l.fn.stock ≤ empty_reads l.fn.reader + end_count l.stock;
}

-- each piece uses up a part of the budget
abbrev pub decreases-loop-stock : goal.decreases-loop-stock
decreases-loop-stock g l = budget l.stock
