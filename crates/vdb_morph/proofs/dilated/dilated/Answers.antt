use Rattle.vdb_morph.proofs.Common.{◌≡◌, ap, arith, refl, rules, subst, sym, ◌∙◌, IsTrue, Some, Option, vdb, Box, everywhere, is_inside, Coord, field_of, internal_small, leaf_small}
use Rattle.vdb_morph.proofs.TreeSizes.{tree_small}
use Rattle.vdb_morph.proofs.Spreading.{IsPartly, leaf_more, of_leaf, of_tile, partly_first, partly_last, partly_values, tile_kept, tile_more, tree_cut}
use Rattle.vdb_morph.proofs.dilated.dilated.Goals as goal

pub parts-walk-requires : goal.parts-walk-requires
parts-walk-requires g c =
    let small = g.met.V.Voxel.small in
    let upper = g.met.V.Stored-1.row_small in
    let lower = g.met.V.Stored-2.row_small in
    let leaf = g.met.V.Stored-3.row_small in (
      tree_small _ _ _ small.1 small.1 small.0,
      (
        internal_small _ _ 512 _ (omega arith) upper.1 upper.1 upper.0,
        (internal_small _ _ 64 _ (omega arith) lower.1 lower.1 lower.0, leaf_small _ _ 8 _ (omega arith) leaf.1 leaf.1 leaf.0),
      ),
    )

pub parts-init : goal.parts-init
parts-init g c =
    let at : c.parts-walk.result.at ≡ Some everywhere.min = c.parts-walk.ensures.at ∙ ap (λ (b : Box). Some b.min) c.all.ensures in
    record {
      walk = c.parts-walk.ensures.walk;
      skip = c.parts-walk.ensures.skip;
      box = c.parts-walk.ensures.bounds ∙ c.all.ensures;
      partly = subst (λ (o : Option Coord). IsPartly vdb (field_of vdb c.args.tree.now) o (field_of vdb c.in_ok-states.states)) (sym at) (partly_first vdb c.args.tree.now (field_of vdb c.in_ok-states.states) c.in_ok-states.ensures);
    }

pub spread_tile-requires : goal.spread_tile-requires
spread_tile-requires g c =
    let had = c.parts.invariant in
    let tile : (q : Coord) → IsTrue (is_inside c.in-Some.part.bounds q) → (field_of vdb c.args.tree.now).cell q ≡ c.in-Tile.cell = of_tile c.in-Some.part.content c.in-Tile.cell _ c.in-Tile.is c.in-Some.ensures.tile in
    record {
      on = λ on q i. tile_kept vdb c.args.tree.now c.parts.walk c.next_part.new.walk had.box had.skip (field_of vdb c.parts.states) had.partly c.in-Some.part.bounds c.in-Some.ensures.part c.in-Tile.cell tile on q i;
      values = partly_values vdb (field_of vdb c.args.tree.now) c.parts.walk.at (field_of vdb c.parts.states) (tree_cut vdb c.parts.states) had.partly;
    }

pub parts-preserved-in-Continue-branch-2 : goal.parts-preserved-in-Continue-branch-2
parts-preserved-in-Continue-branch-2 g c =
    let had = c.parts.invariant in
    let yields = c.in-Some.ensures.part in
    let tile : (q : Coord) → IsTrue (is_inside c.in-Some.part.bounds q) → (field_of vdb c.args.tree.now).cell q ≡ c.in-Tile.cell = of_tile c.in-Some.part.content c.in-Tile.cell _ c.in-Tile.is c.in-Some.ensures.tile in
    record {
      walk = c.next_part.ensures.walk;
      skip = yields.passes.skip ∙ had.skip;
      box = yields.passes.box ∙ had.box;
      partly = tile_more vdb c.args.tree.now c.parts.walk c.next_part.new.walk had.box had.skip (field_of vdb c.parts.states) had.partly c.in-Some.part.bounds yields c.in-Tile.cell tile (field_of vdb c.spread_tile.new.states)
          (c.in_ok-spread_tile-in-Tile.ensures refl);
    }

pub parts-preserved : goal.parts-preserved
parts-preserved g c =
    let had = c.parts.invariant in
    let yields = c.in-Some.ensures.part in
    let leaf = of_leaf c.in-Some.part.content c.in-Leaf.field-0 _ c.in-Leaf.is c.in-Some.ensures.leaf in
    record {
      walk = c.next_part.ensures.walk;
      skip = yields.passes.skip ∙ had.skip;
      box = yields.passes.box ∙ had.box;
      partly = leaf_more vdb c.args.tree.now c.parts.walk c.next_part.new.walk had.box had.skip (field_of vdb c.parts.states) had.partly c.in-Some.part.bounds yields leaf.block c.min.result c.min.ensures.corner (field_of vdb c.spread_leaf.new.states)
          (c.in_ok-spread_leaf-in-Leaf.ensures refl);
    }

pub returns : goal.returns
returns g c =
    let had = c.parts.invariant in
    partly_last vdb c.args.tree.now c.parts.walk c.next_part.new.walk had.box had.skip c.in_default.ensures.end c.in_default.ensures.none_left (field_of vdb c.parts.states) had.partly (tree_cut vdb c.parts.states)
