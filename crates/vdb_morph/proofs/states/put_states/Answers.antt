-- A leaf of the states is written, or its tile exists already.
use Rattle.vdb_morph.proofs.Common.{◌∙◌, refl, vdb, entry_count, cell_at, field_of, with_leaf}
use Rattle.vdb_morph.proofs.BlockStates.{false_values, leaf_taken, tile_taken}
use Rattle.vdb_morph.proofs.Marks.{changed_if_ok}
use Rattle.vdb_morph.proofs.states.put_states.Goals as goal

pub returns-then-is_tile : goal.returns-then-is_tile
returns-then-is_tile c = λ _.
    let old = c.args.states.now in
    let leaf = c.set_states.new.self in
    let values = false_values (entry_count 3) c.in_ok-leaf.leaf leaf c.in_ok-leaf.ensures.cells c.set_states.ensures.values in
    tile_taken vdb c.args.p leaf c.args.marks.now values c.set_states.ensures.states old.background (cell_at vdb old) c.in-Some.cell ((c.in-Some.ensures c.in-Some.cell).0 refl) (c.is_tile.ensures c.if-is_tile.true)

pub returns : goal.returns
returns c = λ ok.
    let old = field_of vdb c.args.states.now in
    let leaf = c.set_states.new.self in
    let values = false_values (entry_count 3) c.in_ok-leaf.leaf leaf c.in_ok-leaf.ensures.cells c.set_states.ensures.values in
    changed_if_ok old (with_leaf vdb c.args.p leaf old) (field_of vdb c.write_leaf.new.self) c.write_leaf.result ok c.write_leaf.ensures.outcome.0
    ∙ leaf_taken vdb c.args.p leaf c.args.marks.now values c.set_states.ensures.states old
