use Rattle.vdb_c.proofs.Common.{◌∙◌, sym, inr, refl, rules, w32, to_z, of_z, SFits, to_z-of_z, change_at, voxel_at}
use Rattle.vdb_c.specs.Many.{WritesFirstIn}
use Rattle.vdb_c.proofs.ManyWrites.{one_done, one_refused}
use Rattle.vdb_c.proofs.voxels.many.write_voxels.Goals as goal

pub loop-k-preserved : goal.loop-k-preserved
loop-k-preserved g c =
    let inv = c.loop-k.invariant in
    let made = c.write_element-outcome.ensures in
    record {
      limit = made.limit ∙ inv.limit;
      field =
          one_done (voxel_at c.args.at.now) (change_at g.V.Voxel.KIND c.args.values.now c.args.states.now) c.loop-k.k c.coord.result c.coord.ensures _ refl _ _ _ inv.field c.loop-k.grid.tree.limit c.write_element-outcome.result
          (sym c.is_err.ensures.value ∙ c.if-is_err.false) (made.outcome (c.requires.given c.loop-k.k c.loop-k-test.true));
    }

pub returns-then-is_err : goal.returns-then-is_err
unfolding WritesFirstIn
returns-then-is_err g c =
    let inv = c.loop-k.invariant in
    let made = c.write_element-outcome.ensures in
    let fits : SFits w32 c.tree_code.result = search rules in
    let refused =
    one_refused (voxel_at c.args.at.now) (change_at g.V.Voxel.KIND c.args.values.now c.args.states.now) c.loop-k.k c.coord.result c.coord.ensures _ refl _ _ _ inv.field c.loop-k.grid.tree.limit c.write_element-outcome.result
    (sym c.is_err.ensures.value ∙ c.if-is_err.true) (to_z w32 (of_z w32 c.tree_code.result)) (to_z-of_z w32 c.tree_code.result fits ∙ c.tree_code.ensures) (made.outcome (c.requires.given c.loop-k.k c.loop-k-test.true)) c.write_element-outcome.new.grid.tree.limit made.limit in
    (made.limit ∙ inv.limit, refused.0, inr (c.loop-k-test.true, refused.1))
