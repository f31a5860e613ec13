use Rattle.vdb_tree.proofs.Common.{◌≤◌, ◌∙◌, ℕ, arith, refl, Lower, Upper, bits_of}
use Rattle.vdb_tree.proofs.Passes.{passes_join, passes_none, root_entry_same}
use Rattle.vdb_tree.proofs.tree.TreeOf.prune_lowers.Goals as goal

least : (n : ℕ) → 0 ≤ n
least n = omega arith

pub loop-next-init : goal.loop-next-init
loop-next-init g c =
    record { within = least _; above = refl; node = c.requires; passes = passes_none (bits_of g.row.U g.row.L g.row.F) Upper Lower c.args.p c.args.self.now }

pub loop-next-preserved : goal.loop-next-preserved
loop-next-preserved g c =
    let bits = bits_of g.row.U g.row.L g.row.F in
    let mid = c.loop-next.self in
    let new = c.prune_next_lower.new.self in
    let made = c.in-Some.ensures in
    record {
      within = made.further.1;
      above = made.above ∙ c.loop-next.invariant.above;
      node = root_entry_same bits mid new made.passes.keeps.head made.above c.args.p ∙ c.loop-next.invariant.node;
      passes = passes_join bits Upper Lower c.args.p c.args.self.now mid new 0 c.loop-next.from c.in-Some.next (least c.loop-next.from) c.loop-next.invariant.passes made.passes;
    }

pub returns-clause-done : goal.returns-clause-done
returns-clause-done g c =
    passes_join (bits_of g.row.U g.row.L g.row.F) Upper Lower c.args.p c.args.self.now c.loop-next.self c.prune_next_lower.new.self 0 c.loop-next.from _ (least c.loop-next.from) c.loop-next.invariant.passes
    c.in_default.ensures.passes

pub returns-clause-upper : goal.returns-clause-upper
returns-clause-upper g c =
    root_entry_same (bits_of g.row.U g.row.L g.row.F) c.loop-next.self c.prune_next_lower.new.self c.in_default.ensures.passes.keeps.head c.in_default.ensures.above c.args.p ∙ c.loop-next.invariant.node
