use Rattle.vdb_file.proofs.Common.{ap, refl, rules, subst, sym, ℕ, ◌+◌, ◌∙◌, err_from_is_err_and, on_ok_weaker, to_be_bytes, w16, None, Some, fits_everywhere, block_around, entries, vdb, Box, Upper, level_body, HasCapacityAt, KeptOutside, ShowsIn, entry_box, IsIndex, Reads, ahead, exact_by, cell_at, field_of}
use Rattle.vdb_file.proofs.BlockLoops.{entries_loadable, more_entries, no_entries, no_next_entry}
use Rattle.vdb_file.proofs.BlockReads.{no_block_head, no_mixed, no_mixed_list}
use Rattle.vdb_file.proofs.BlockResults.{node_result, one_result}
use Rattle.vdb_file.proofs.HeadCodes.{voxel_values}
use Rattle.vdb_file.proofs.Levels.{is_level_row}
use Rattle.vdb_file.proofs.ListedEntries.{entry_block}
use Rattle.vdb_file.proofs.LoadedBlocks.{fill_keeps}
use Rattle.vdb_file.proofs.Moves.{memory_moves, moves_err, moves_failed, moves_ok, moves_then}
use Rattle.vdb_file.proofs.NextReads.{both_next, index_says, no_block_next, no_number_next}
use Rattle.vdb_file.proofs.RowLoops.{all_underway}
use Rattle.vdb_file.proofs.Standard.{standard_bits}
use Rattle.vdb_file.proofs.loading.blocks.+blocks.Goals as goal

pub take_block-returns-in-Leaf-clause-reads : goal.take_block-returns-in-Leaf-clause-reads
take_block-returns-in-Leaf-clause-reads g below c = rw c.in-Leaf.is c.take_leaf_block.ensures.reads

pub take_block-returns-in-Leaf-clause-kept : goal.take_block-returns-in-Leaf-clause-kept
take_block-returns-in-Leaf-clause-kept g below c = rw c.in-Leaf.is c.take_leaf_block.ensures.kept

pub take_block-returns-in-Lower-clause-reads : goal.take_block-returns-in-Lower-clause-reads
take_block-returns-in-Lower-clause-reads g below c = rw c.in-Lower.is c.take_inner.ensures.reads

pub take_block-returns-in-Lower-clause-kept : goal.take_block-returns-in-Lower-clause-kept
take_block-returns-in-Lower-clause-kept g below c = rw c.in-Lower.is c.take_inner.ensures.kept

pub take_block-returns-in-Upper-clause-reads : goal.take_block-returns-in-Upper-clause-reads
take_block-returns-in-Upper-clause-reads g below c = rw c.in-Upper.is c.take_inner-in-Upper.ensures.reads

pub take_block-returns-in-Upper-clause-kept : goal.take_block-returns-in-Upper-clause-kept
take_block-returns-in-Upper-clause-kept g below c = rw c.in-Upper.is c.take_inner-in-Upper.ensures.kept

pub take_entry-returns-clause-reads : goal.take_entry-returns-clause-reads
take_entry-returns-clause-reads g below c =
    let corner = c.entry_corner-corner.ensures in
    let at = ap (block_around vdb c.args.below) corner ∙ entry_block vdb c.args.p c.args.level c.args.below c.requires.levels c.args.i c.requires.within in
    let old = ahead c.args.input.now (g.S.Source.state c.args.reader.now) in
    let new = ahead c.take_block.new.input (g.S.Source.state c.take_block.new.reader) in
    subst
    (λ (b : Box). Reads (λ _. field_of vdb c.take_block.new.tree) (ShowsIn g.V.PartialEq.eq g.V.Voxel.is_value c.args.tree.now.background b) (λ f. level_body g.V.PartialEq.eq g.V.Voxel.bytes_of vdb c.args.below f b) c.take_block.result old new)
    at c.take_block.ensures.reads

pub take_entry-returns-clause-kept : goal.take_entry-returns-clause-kept
take_entry-returns-clause-kept g below c =
    let corner = c.entry_corner-corner.ensures in
    let at = ap (block_around vdb c.args.below) corner ∙ entry_block vdb c.args.p c.args.level c.args.below c.requires.levels c.args.i c.requires.within in
    on_ok_weaker c.take_block.result (λ k. subst (λ (b : Box). KeptOutside b (field_of vdb c.args.tree.now) (field_of vdb c.take_block.new.tree)) at k) c.take_block.ensures.kept

pub take_next-returns-in_err-i-clause-reads : goal.take_next-returns-in_err-i-clause-reads
take_next-returns-in_err-i-clause-reads g below c =
    let e = err_from_is_err_and c.from_residual.result c.from_residual.ensures.1 in
    rw (e.1, e.2) (no_number_next g.V.PartialEq.eq g.V.Voxel.is_value c.args.tree.now.background (IsIndex (entries vdb c.args.level) c.args.before) (to_be_bytes w16) (entry_box vdb c.args.level c.args.p) (level_body g.V.PartialEq.eq g.V.Voxel.bytes_of vdb c.args.below) c.in_err-i.field-0.0 _ (c.in_err-i.ensures.reads))

pub take_next-returns-in_err-take_entry-clause-reads : goal.take_next-returns-in_err-take_entry-clause-reads
take_next-returns-in_err-take_entry-clause-reads g below c =
    let index = c.in_ok-i.ensures.reads in
    let e = err_from_is_err_and c.from_residual-in_err-take_entry.result c.from_residual-in_err-take_entry.ensures.1 in
    rw (e.1, e.2)
    (no_block_next g.V.PartialEq.eq g.V.Voxel.is_value c.args.tree.now.background (IsIndex (entries vdb c.args.level) c.args.before) (to_be_bytes w16) (entry_box vdb c.args.level c.args.p) (level_body g.V.PartialEq.eq g.V.Voxel.bytes_of vdb c.args.below) c.in_err-take_entry.field-0.0 _ (index_says vdb c.requires.loadable.configured c.args.level c.args.before) c.in_ok-i.i index.0 _ index.1
    c.in_err-take_entry.ensures.reads)

pub take_next-returns-clause-reads : goal.take_next-returns-clause-reads
take_next-returns-clause-reads g below c =
    let index = c.in_ok-i.ensures.reads in
    let read = c.in_ok-take_entry.ensures.reads in (
      record { key = index.0; shows = read.0 },
      both_next (to_be_bytes w16) (entry_box vdb c.args.level c.args.p) (level_body g.V.PartialEq.eq g.V.Voxel.bytes_of vdb c.args.below) c.in_ok-i.i (field_of vdb c.take_entry.new.tree) _ _ _ index.1 read.1,
    )

pub take_next-returns-in_err-take_entry-clause-moves : goal.take_next-returns-in_err-take_entry-clause-moves
take_next-returns-in_err-take_entry-clause-moves g below c =
    let e = err_from_is_err_and c.from_residual-in_err-take_entry.result c.from_residual-in_err-take_entry.ensures.1 in
    rw (e.1, e.2) (moves_err (moves_then c.in_ok-i.ensures.moves c.in_err-take_entry.ensures.moves))

pub take_next-returns-clause-moves : goal.take_next-returns-clause-moves
take_next-returns-clause-moves g below c = moves_ok (moves_then c.in_ok-i.ensures.moves c.in_ok-take_entry.ensures.moves)

pub take_entries-loop-init : goal.take_entries-loop-init
take_entries-loop-init g below c =
    let exact = exact_by g.V.PartialEq.eq g.V.Ord.cmp g.met.V.Ord.matches_eq g.met.V.Voxel.exact in
    let values = voxel_values g.V.PartialEq.eq g.V.Voxel.bytes_of g.V.Voxel.is_value g.V.Voxel.KIND exact g.met.V.Eq.laws.refl g.met.V.Voxel.bytes_known g.met.V.Voxel.bytes_exact in
    let p = c.args.p in
    let t = c.args.tree.now in
    let f = field_of vdb t in
    let old = ahead c.args.input.now (g.S.Source.state c.args.reader.now) in
    let configured = c.requires.loadable.configured in
    let row = is_level_row values vdb configured p c.args.level c.args.below c.requires.levels in
    let under = no_entries values vdb c.args.level p (level_body g.V.PartialEq.eq g.V.Voxel.bytes_of vdb c.args.below) t.background row f old c.requires.loadable.values c.requires.loadable.clear in
    record {
      underway = under;
      loadable = entries_loadable values vdb c.args.level p (level_body g.V.PartialEq.eq g.V.Voxel.bytes_of vdb c.args.below) t.background row f old 0 None f old under configured c.args.below (entry_block vdb p c.args.level c.args.below c.requires.levels) t.limit c.requires.loadable.capacity;
      ends = c.requires.ends;
      total = λ n h. h;
      given = λ n m h. h;
      limit = refl;
      failed = refl;
    }

pub take_entries-returns-in_err-i-clause-reads : goal.take_entries-returns-in_err-i-clause-reads
take_entries-returns-in_err-i-clause-reads g below c =
    let exact = exact_by g.V.PartialEq.eq g.V.Ord.cmp g.met.V.Ord.matches_eq g.met.V.Voxel.exact in
    let values = voxel_values g.V.PartialEq.eq g.V.Voxel.bytes_of g.V.Voxel.is_value g.V.Voxel.KIND exact g.met.V.Eq.laws.refl g.met.V.Voxel.bytes_known g.met.V.Voxel.bytes_exact in
    let p = c.args.p in
    let t = c.args.tree.now in
    let f = field_of vdb t in
    let old = ahead c.args.input.now (g.S.Source.state c.args.reader.now) in
    let configured = c.requires.loadable.configured in
    let row = is_level_row values vdb configured p c.args.level c.args.below c.requires.levels in
    let s = field_of vdb c.loop.tree in
    let now = ahead c.loop.input (g.S.Source.state c.loop.reader) in
    let e = err_from_is_err_and c.from_residual.result c.from_residual.ensures.1 in
    rw (e.1, e.2) (no_next_entry values vdb c.args.level p (level_body g.V.PartialEq.eq g.V.Voxel.bytes_of vdb c.args.below) t.background row f old c.loop.counter c.loop.before s now c.loop.invariant.underway c.args.count c.loop-test.true c.in_err-i.field-0.0 c.in_err-i.ensures.reads)

pub take_entries-loop-preserved : goal.take_entries-loop-preserved
take_entries-loop-preserved g below c =
    let exact = exact_by g.V.PartialEq.eq g.V.Ord.cmp g.met.V.Ord.matches_eq g.met.V.Voxel.exact in
    let values = voxel_values g.V.PartialEq.eq g.V.Voxel.bytes_of g.V.Voxel.is_value g.V.Voxel.KIND exact g.met.V.Eq.laws.refl g.met.V.Voxel.bytes_known g.met.V.Voxel.bytes_exact in
    let p = c.args.p in
    let t = c.args.tree.now in
    let f = field_of vdb t in
    let old = ahead c.args.input.now (g.S.Source.state c.args.reader.now) in
    let configured = c.requires.loadable.configured in
    let row = is_level_row values vdb configured p c.args.level c.args.below c.requires.levels in
    let s = field_of vdb c.loop.tree in
    let now = ahead c.loop.input (g.S.Source.state c.loop.reader) in
    let read = c.in_ok-i.ensures.reads in
    let after = field_of vdb c.take_next.new.tree in
    let next = ahead c.take_next.new.input (g.S.Source.state c.take_next.new.reader) in
    let under = more_entries values vdb c.args.level p (level_body g.V.PartialEq.eq g.V.Voxel.bytes_of vdb c.args.below) t.background row f old c.loop.counter c.loop.before s now c.loop.invariant.underway c.in_ok-i.i next after read.0 read.1 c.in_ok-i.ensures.kept in
    let limit = c.in_ok-i.ensures.limit ∙ c.loop.invariant.limit in
    let capacity = subst (λ (n : ℕ). HasCapacityAt g.V.PartialEq.eq vdb n (block_around vdb Upper p) f) (sym limit) c.requires.loadable.capacity in
    record {
      underway = under;
      loadable = entries_loadable values vdb c.args.level p (level_body g.V.PartialEq.eq g.V.Voxel.bytes_of vdb c.args.below) t.background row f old (c.loop.counter + 1) (Some c.in_ok-i.i) after next under configured c.args.below (entry_block vdb p c.args.level c.args.below c.requires.levels) c.take_next.new.tree.limit capacity;
      ends = c.in_ok-i.ensures.moves.ends;
      total = λ n h. c.in_ok-i.ensures.moves.total n (c.loop.invariant.total n h);
      given = λ n m h. c.in_ok-i.ensures.moves.given n m (c.loop.invariant.given n m h);
      limit = limit;
      failed = moves_failed c.in_ok-i.ensures.moves ∙ c.loop.invariant.failed;
    }

pub take_entries-returns-clause-reads : goal.take_entries-returns-clause-reads
take_entries-returns-clause-reads g below c =
    let exact = exact_by g.V.PartialEq.eq g.V.Ord.cmp g.met.V.Ord.matches_eq g.met.V.Voxel.exact in
    let values = voxel_values g.V.PartialEq.eq g.V.Voxel.bytes_of g.V.Voxel.is_value g.V.Voxel.KIND exact g.met.V.Eq.laws.refl g.met.V.Voxel.bytes_known g.met.V.Voxel.bytes_exact in
    let p = c.args.p in
    let t = c.args.tree.now in
    let f = field_of vdb t in
    let old = ahead c.args.input.now (g.S.Source.state c.args.reader.now) in
    let configured = c.requires.loadable.configured in
    let row = is_level_row values vdb configured p c.args.level c.args.below c.requires.levels in
    let s = field_of vdb c.loop.tree in
    let now = ahead c.loop.input (g.S.Source.state c.loop.reader) in
    all_underway values row t.background (block_around vdb c.args.level p) f old c.loop.counter c.loop.before s now c.loop.invariant.underway c.args.count (search rules)

pub take_node-returns-in_err-take_entries-clause-reads : goal.take_node-returns-in_err-take_entries-clause-reads
take_node-returns-in_err-take_entries-clause-reads g below c =
    let exact = exact_by g.V.PartialEq.eq g.V.Ord.cmp g.met.V.Ord.matches_eq g.met.V.Voxel.exact in
    let values = voxel_values g.V.PartialEq.eq g.V.Voxel.bytes_of g.V.Voxel.is_value g.V.Voxel.KIND exact g.met.V.Eq.laws.refl g.met.V.Voxel.bytes_known g.met.V.Voxel.bytes_exact in
    let e = err_from_is_err_and c.from_residual.result c.from_residual.ensures.1 in
    rw (e.1, e.2)
    (no_mixed_list values vdb c.requires.loadable.configured c.args.level c.args.p (level_body g.V.PartialEq.eq g.V.Voxel.bytes_of vdb c.args.below) c.args.tree.now.background c.args.count c.in_err-take_entries.field-0.0 _ c.in_err-take_entries.ensures.reads)

pub take_node-returns-then-is_some-clause-reads : goal.take_node-returns-then-is_some-clause-reads
take_node-returns-then-is_some-clause-reads g below c =
    let exact = exact_by g.V.PartialEq.eq g.V.Ord.cmp g.met.V.Ord.matches_eq g.met.V.Voxel.exact in
    let values = voxel_values g.V.PartialEq.eq g.V.Voxel.bytes_of g.V.Voxel.is_value g.V.Voxel.KIND exact g.met.V.Eq.laws.refl g.met.V.Voxel.bytes_known g.met.V.Voxel.bytes_exact in
    let p = c.args.p in
    let configured = c.requires.loadable.configured in
    let read = c.in_ok-take_entries.ensures.reads in
    no_mixed values vdb configured c.args.level p (level_body g.V.PartialEq.eq g.V.Voxel.bytes_of vdb c.args.below) c.args.tree.now.background (is_level_row values vdb configured p c.args.level c.args.below c.requires.levels) c.args.count (field_of vdb c.take_entries.new.tree) _ _ _ read.0 (search rules) read.1

pub take_node-returns-clause-reads : goal.take_node-returns-clause-reads
take_node-returns-clause-reads g below c = ((c.in_ok-take_entries.ensures.reads.0, search rules), c.in_ok-take_entries.ensures.reads.1)

pub take_inner-returns-in_err-cell-clause-reads : goal.take_inner-returns-in_err-cell-clause-reads
take_inner-returns-in_err-cell-clause-reads g below c =
    let exact = exact_by g.V.PartialEq.eq g.V.Ord.cmp g.met.V.Ord.matches_eq g.met.V.Voxel.exact in
    let values = voxel_values g.V.PartialEq.eq g.V.Voxel.bytes_of g.V.Voxel.is_value g.V.Voxel.KIND exact g.met.V.Eq.laws.refl g.met.V.Voxel.bytes_known g.met.V.Voxel.bytes_exact in
    let p = c.args.p in
    let t = c.args.tree.now in
    let configured = standard_bits in
    let e = err_from_is_err_and c.from_residual.result c.from_residual.ensures.1 in
    rw (e.1, e.2) (no_block_head values vdb configured c.args.level p (level_body g.V.PartialEq.eq g.V.Voxel.bytes_of vdb c.args.below) t.background c.in_err-cell.field-0.0 _ (rw (c.background.ensures, c.entries-most.ensures) at c.in_err-cell.ensures.reads))

pub take_inner-returns-in-One-clause-reads : goal.take_inner-returns-in-One-clause-reads
take_inner-returns-in-One-clause-reads g below c =
    let exact = exact_by g.V.PartialEq.eq g.V.Ord.cmp g.met.V.Ord.matches_eq g.met.V.Voxel.exact in
    let values = voxel_values g.V.PartialEq.eq g.V.Voxel.bytes_of g.V.Voxel.is_value g.V.Voxel.KIND exact g.met.V.Eq.laws.refl g.met.V.Voxel.bytes_known g.met.V.Voxel.bytes_exact in
    let p = c.args.p in
    let t = c.args.tree.now in
    let configured = standard_bits in
    let inside = fits_everywhere c.args.p (search rules) (search rules) (search rules) in
    let head = rw (c.in-One.is, c.background.ensures) at c.in_ok-cell.ensures.reads in
    one_result values vdb configured c.args.level p (level_body g.V.PartialEq.eq g.V.Voxel.bytes_of vdb c.args.below) t.background inside (cell_at vdb t) c.requires.loadable.values c.in-One.cell head.0 _ _ head.1 (field_of vdb c.fill_block.new.tree) c.fill_block.result c.fill_block.ensures.memory c.fill_block.ensures.field

pub take_inner-returns-in-One-clause-kept : goal.take_inner-returns-in-One-clause-kept
take_inner-returns-in-One-clause-kept g below c =
    let t = c.args.tree.now in
    let b = block_around vdb c.args.level c.args.p in
    on_ok_weaker c.fill_block.result (λ e. subst (KeptOutside b (field_of vdb t)) (sym e) (fill_keeps b t.background (cell_at vdb t) c.in-One.cell)) c.fill_block.ensures.field

pub take_inner-returns-in-Node-clause-reads : goal.take_inner-returns-in-Node-clause-reads
take_inner-returns-in-Node-clause-reads g below c =
    let exact = exact_by g.V.PartialEq.eq g.V.Ord.cmp g.met.V.Ord.matches_eq g.met.V.Voxel.exact in
    let values = voxel_values g.V.PartialEq.eq g.V.Voxel.bytes_of g.V.Voxel.is_value g.V.Voxel.KIND exact g.met.V.Eq.laws.refl g.met.V.Voxel.bytes_known g.met.V.Voxel.bytes_exact in
    let p = c.args.p in
    let t = c.args.tree.now in
    let configured = standard_bits in
    let head = rw (c.in-Node.is, c.entries-most.ensures) at c.in_ok-cell.ensures.reads in
    node_result values vdb configured c.args.level p (level_body g.V.PartialEq.eq g.V.Voxel.bytes_of vdb c.args.below) t.background c.in-Node.count head.0 _ _ _ head.1 (field_of vdb c.take_node.new.tree) c.take_node.result c.take_node.ensures.reads

pub take_inner-returns-in-One-clause-moves : goal.take_inner-returns-in-One-clause-moves
take_inner-returns-in-One-clause-moves g below c = memory_moves c.in_ok-cell.ensures.moves c.fill_block.result c.fill_block.ensures.memory
