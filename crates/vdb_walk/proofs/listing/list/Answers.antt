use Rattle.vdb_walk.proofs.Common.{◌∙◌, ap, arith, rules, List, Box, Coord, bits_of, field_of, internal_small, leaf_small, active}
use Rattle.vdb_walk.proofs.InOrder.{all_left}
use Rattle.vdb_walk.proofs.PartSeeks.{listing_all}
use Rattle.vdb_walk.proofs.listing.list.Goals as goal

pub parts-requires : goal.parts-requires
parts-requires g c =
    let upper = g.met.V.Stored-1.row_small in
    let lower = g.met.V.Stored-2.row_small in
    let leaf = g.met.V.Stored-3.row_small in (
      search rules,
      (
        internal_small _ _ g.row.WU _ c.mask_words.ensures.upper upper.1 upper.1 upper.0,
        (internal_small _ _ g.row.WL _ c.mask_words.ensures.lower lower.1 lower.1 lower.0, leaf_small _ _ g.row.WF _ c.mask_words.ensures.leaf leaf.1 leaf.1 leaf.0),
      ),
    )

pub invariant_of-result : goal.invariant_of-result
invariant_of-result g c =
    (listing_all (bits_of g.row.U g.row.L g.row.F) c.args.tree.now c.parts.result c.args.bounds c.parts.ensures.walk c.parts.ensures.skip c.parts.ensures.bounds c.parts.ensures.at, λ some. let none = c.empty.ensures in absurd (omega (arith, some, none)))

pub returns : goal.returns
returns g c =
    let bits = bits_of g.row.U g.row.L g.row.F in
    ap (λ (l : List (Coord × g.row.V.Denot)). record { rest = l; left = c.args.limit }) (all_left (active bits (field_of bits c.args.tree.now) c.parts.result.box) ∙ ap (λ (b : Box). active bits (field_of bits c.args.tree.now) b) c.parts.ensures.bounds)
