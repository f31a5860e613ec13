use Rattle.vdb_morph.proofs.Common.{◌≡◌, ap, arith, refl, rules, ◌∙◌, Some, true, vdb, Box, everywhere, cell_at, field_of, internal_small, leaf_small}
use Rattle.vdb_morph.proofs.TreeSizes.{tree_small}
use Rattle.vdb_morph.proofs.Eroding.{part_within, underway_all, underway_first, underway_more}
use Rattle.vdb_morph.proofs.eroded.eroded.Goals as goal

pub parts-walk-requires : goal.parts-walk-requires
parts-walk-requires g c =
    let small = g.met.V.Voxel.small in
    let upper = g.met.V.Stored-1.row_small in
    let lower = g.met.V.Stored-2.row_small in
    let leaf = g.met.V.Stored-3.row_small in (
      tree_small _ _ _ small.1 small.1 small.0,
      (
        internal_small _ _ 512 _ (omega arith) upper.1 upper.1 upper.0,
        (internal_small _ _ 64 _ (omega arith) lower.1 lower.1 lower.0, leaf_small _ _ 8 _ (omega arith) leaf.1 leaf.1 leaf.0),
      ),
    )

pub parts-init : goal.parts-init
parts-init g c =
    let at : c.parts-walk.result.at ≡ Some everywhere.min = c.parts-walk.ensures.at ∙ ap (λ (b : Box). Some b.min) c.all.ensures in
    record {
      walk = c.parts-walk.ensures.walk;
      skip = c.parts-walk.ensures.skip;
      box = c.parts-walk.ensures.bounds ∙ c.all.ensures;
      underway = underway_first vdb c.args.tree.now (field_of vdb c.in_ok-states.states) c.in_ok-states.ensures c.parts-walk.result.at at;
    }

pub parts-preserved : goal.parts-preserved
parts-preserved g c =
    let had = c.parts.invariant in
    let yields = c.in-Some.ensures.part in
    let done = c.in_ok-erode_part.ensures in
    record {
      walk = c.next_part.ensures.walk;
      skip = yields.passes.skip ∙ had.skip;
      box = yields.passes.box ∙ had.box;
      underway =
          underway_more vdb c.args.tree.now c.parts.walk c.next_part.new.walk had.box had.skip c.in-Some.part.bounds yields (field_of vdb c.parts.states) (field_of vdb c.erode_part.new.states) had.underway (done.erodes (refl {a = true}))
          (λ q i. done.here (refl {a = true}) q i (had.underway.either q (part_within vdb c.args.tree.now c.parts.walk c.next_part.new.walk had.box c.in-Some.part.bounds yields q i)));
    }

pub returns : goal.returns
returns g c =
    let had = c.parts.invariant in
    let states = c.parts.states in
    underway_all vdb c.args.tree.now c.parts.walk c.next_part.new.walk had.box had.skip c.in_default.ensures.end c.in_default.ensures.none_left states.background (cell_at vdb states) had.underway
