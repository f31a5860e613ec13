use Rattle.vdb_walk.proofs.Common.{◌≡◌, arith, rules, subst, sym, ◌∙◌, Option, Coord, bits_of, field_of, count, internal_small, leaf_small}
use Rattle.vdb_walk.proofs.PartCounts.{active_left, all_few, counted_all, counted_few, counted_more, left_first}
use Rattle.vdb_walk.proofs.active_count.count_in.Goals as goal

pub parts-walk-requires : goal.parts-walk-requires
parts-walk-requires g c =
    let upper = g.met.V.Stored-1.row_small in
    let lower = g.met.V.Stored-2.row_small in
    let leaf = g.met.V.Stored-3.row_small in (
      search rules,
      (
        internal_small _ _ g.row.WU _ c.mask_words.ensures.upper upper.1 upper.1 upper.0,
        (internal_small _ _ g.row.WL _ c.mask_words.ensures.lower lower.1 lower.1 lower.0, leaf_small _ _ g.row.WF _ c.mask_words.ensures.leaf leaf.1 leaf.1 leaf.0),
      ),
    )

pub parts-init : goal.parts-init
parts-init g c =
    let bits = bits_of g.row.U g.row.L g.row.F in
    record {
      walk = c.parts-walk.ensures.walk;
      skip = c.parts-walk.ensures.skip;
      box = c.parts-walk.ensures.bounds;
      counted =
          let all = subst (λ (o : Option Coord). active_left bits c.args.tree.now o c.args.bounds ≡ count (field_of bits c.args.tree.now) c.args.bounds) (sym c.parts-walk.ensures.at) (left_first bits c.args.tree.now c.args.bounds) in
          omega (arith, all);
    }

pub overflow_add-total : goal.overflow_add-total
overflow_add-total g c =
    let had = c.parts.invariant in
    let few =
    counted_few (bits_of g.row.U g.row.L g.row.F) c.args.tree.now c.parts.walk c.next_part.new.walk had.skip c.args.bounds had.box c.parts.total had.counted c.in-Some.part.bounds c.in-Some.ensures.part c.count_tile-total.result c.count_tile-total.ensures c.min.ensures.bounds in
    omega (arith, few)

pub overflow_add-total-in-Leaf : goal.overflow_add-total-in-Leaf
overflow_add-total-in-Leaf g c =
    let had = c.parts.invariant in
    let few =
    counted_few (bits_of g.row.U g.row.L g.row.F) c.args.tree.now c.parts.walk c.next_part.new.walk had.skip c.args.bounds had.box c.parts.total had.counted c.in-Some.part.bounds c.in-Some.ensures.part c.count_leaf-total.result c.count_leaf-total.ensures c.min.ensures.bounds in
    omega (arith, few)

pub parts-preserved-in-Tile : goal.parts-preserved-in-Tile
parts-preserved-in-Tile g c =
    let had = c.parts.invariant in
    let yields = c.in-Some.ensures.part in
    record {
      walk = c.next_part.ensures.walk;
      skip = yields.passes.skip ∙ had.skip;
      box = yields.passes.box ∙ had.box;
      counted =
          counted_more (bits_of g.row.U g.row.L g.row.F) c.args.tree.now c.parts.walk c.next_part.new.walk had.skip c.args.bounds had.box c.parts.total had.counted c.in-Some.part.bounds yields c.count_tile-total.result c.count_tile-total.ensures;
    }

pub parts-preserved : goal.parts-preserved
parts-preserved g c =
    let had = c.parts.invariant in
    let yields = c.in-Some.ensures.part in
    record {
      walk = c.next_part.ensures.walk;
      skip = yields.passes.skip ∙ had.skip;
      box = yields.passes.box ∙ had.box;
      counted =
          counted_more (bits_of g.row.U g.row.L g.row.F) c.args.tree.now c.parts.walk c.next_part.new.walk had.skip c.args.bounds had.box c.parts.total had.counted c.in-Some.part.bounds yields c.count_leaf-total.result c.count_leaf-total.ensures;
    }

pub returns-clause-value : goal.returns-clause-value
returns-clause-value g c =
    let had = c.parts.invariant in
    counted_all (bits_of g.row.U g.row.L g.row.F) c.args.tree.now c.parts.walk c.next_part.new.walk had.skip c.args.bounds had.box c.parts.total had.counted c.in_default.ensures.end c.in_default.ensures.none_left

pub returns-clause-bound : goal.returns-clause-bound
returns-clause-bound g c =
    let had = c.parts.invariant in
    all_few (bits_of g.row.U g.row.L g.row.F) c.args.tree.now c.parts.walk c.next_part.new.walk had.skip c.args.bounds had.box c.parts.total had.counted c.in_default.ensures.end c.in_default.ensures.none_left c.min.ensures.bounds
