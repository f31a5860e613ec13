use Rattle.vdb_walk.proofs.Common.{◌≡◌, rules, ◌∙◌, everywhere, is_box, is_within, both, bits_of, internal_small, leaf_small}
use Rattle.vdb_walk.proofs.Surrounds.{found_all, found_from, found_more, found_past}
use Rattle.vdb_walk.proofs.bounding_box.around_from.Goals as goal

pub parts_from-walk-requires : goal.parts_from-walk-requires
parts_from-walk-requires g c =
    let upper = g.met.V.Stored-1.row_small in
    let lower = g.met.V.Stored-2.row_small in
    let leaf = g.met.V.Stored-3.row_small in (
      search rules,
      (
        internal_small _ _ g.row.WU _ c.mask_words.ensures.upper upper.1 upper.1 upper.0,
        (internal_small _ _ g.row.WL _ c.mask_words.ensures.lower lower.1 lower.1 lower.0, leaf_small _ _ g.row.WF _ c.mask_words.ensures.leaf leaf.1 leaf.1 leaf.0),
      ),
    )

pub parts-init : goal.parts-init
parts-init g c =
    let bits = bits_of g.row.U g.row.L g.row.F in
    let box : c.parts_from-walk.result.box ≡ everywhere = c.parts_from-walk.ensures.bounds ∙ c.all.ensures in
    record {
      walk = c.parts_from-walk.ensures.walk;
      skip = c.parts_from-walk.ensures.skip;
      box = box;
      found = found_from bits c.args.tree.now c.args.start c.parts_from-walk.result.at c.args.found (rw c.all.ensures at c.parts_from-walk.ensures.earlier) c.requires.found;
    }

pub parts-preserved-in-Tile : goal.parts-preserved-in-Tile
parts-preserved-in-Tile g c =
    let bits = bits_of g.row.U g.row.L g.row.F in
    let had = c.parts.invariant in
    let yields = c.in-Some.ensures.part in
    record {
      walk = c.next_part.ensures.walk;
      skip = yields.passes.skip ∙ had.skip;
      box = yields.passes.box ∙ had.box;
      found =
          found_more bits c.args.tree.now c.parts.walk c.next_part.new.walk had.box had.skip c.in-Some.part.bounds yields c.parts.around had.found c.around_tile-around.result c.around_tile-around.ensures.least c.around_tile-around.ensures.order;
    }

pub parts-preserved : goal.parts-preserved
parts-preserved g c =
    let bits = bits_of g.row.U g.row.L g.row.F in
    let had = c.parts.invariant in
    let yields = c.in-Some.ensures.part in
    record {
      walk = c.next_part.ensures.walk;
      skip = yields.passes.skip ∙ had.skip;
      box = yields.passes.box ∙ had.box;
      found =
          found_more bits c.args.tree.now c.parts.walk c.next_part.new.walk had.box had.skip c.in-Some.part.bounds yields c.parts.around had.found c.around_leaf-around.result c.around_leaf-around.ensures.least c.around_leaf-around.ensures.order;
    }

pub returns-clause-found : goal.returns-clause-found
returns-clause-found g c =
    let had = c.parts.invariant in
    found_all (bits_of g.row.U g.row.L g.row.F) c.args.tree.now c.parts.walk c.next_part.new.walk had.box had.skip c.in_default.ensures.end c.in_default.ensures.none_left c.parts.around had.found

pub returns-in-Some-past_found-clause-found : goal.returns-in-Some-past_found-clause-found
returns-in-Some-past_found-clause-found g c =
    let had = c.parts.invariant in
    let part = c.in-Some.part.bounds in
    found_past (bits_of g.row.U g.row.L g.row.F) c.args.tree.now c.parts.walk c.next_part.new.walk had.box had.skip part c.in-Some.ensures.part c.parts.around had.found
    (both (is_box part) (is_within part everywhere) c.min.ensures.bounds).0 c.in-Some-past_found.next (rw c.bits-bits.ensures.value at c.in-Some-past_found.ensures.covered)

pub returns-in-Some-past_found-clause-nearer : goal.returns-in-Some-past_found-clause-nearer
returns-in-Some-past_found-clause-nearer g c = rw c.bits-bits.ensures.value at c.in-Some-past_found.ensures.nearer
