use Rattle.std.proofs.Common.{◌<◌, length, subst}
use Rattle.vdb_coord.specs.Blocks.{vdb}
use Rattle.vdb_tree.specs.Field.{written}
use Rattle.vdb_tree.specs.Layout.{field_of}
use Rattle.vdb_tree.specs.Leaves.{IsVoxelWritten}
use Rattle.vdb_grid.specs.Grid.{GridOf}
use Rattle.vdb_grid.proofs.EachAccessor.{near_kept, unused_set, whole_set}
use Rattle.vdb_grid.proofs.grid.Grid.write_in_lower.Goals as goal

pub invariant_of-self : goal.invariant_of-self
invariant_of-self g c =
    let b : c.args.k < length c.self.inside.coords = rw c.self.told c.requires in
    let d : c.args.k < length c.self.inside.paths = rw c.self.told2 c.requires in
    (whole_set _ _ _ _ _ _ b d (λ j r e. c.write_in_lower-written.ensures.paths _ _ (c.self.invariant.0 j r e)) (c.write_in_lower-written.ensures.whole c.if-written.true), unused_set _ _ _ _ _ b c.self.invariant.1, near_kept _ _ _ _ c.write_in_lower-written.ensures.paths c.self.invariant.2)

pub invariant_of-self-else-written : goal.invariant_of-self-else-written
invariant_of-self-else-written g c = (λ k p e. c.write_in_lower-written.ensures.paths _ _ (c.self.invariant.0 k p e), c.self.invariant.1, near_kept _ _ _ _ c.write_in_lower-written.ensures.paths c.self.invariant.2)

pub returns-then-written-clause-alone : goal.returns-then-written-clause-alone
returns-then-written-clause-alone g c = λ _.
    subst (λ (grid : GridOf g.row.V.Denot). IsVoxelWritten vdb grid.tree c.write_in_lower-written.new.self c.args.p (written c.args.change ((field_of vdb grid.tree).cell c.args.p)))
    c.self.view_is (c.write_in_lower-written.ensures.alone c.if-written.true)

pub returns-then-written-clause-elsewhere : goal.returns-then-written-clause-elsewhere
returns-then-written-clause-elsewhere g c = rw (← c.self.view_is) c.write_in_lower-written.ensures.elsewhere
