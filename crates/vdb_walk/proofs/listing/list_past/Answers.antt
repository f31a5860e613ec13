use Rattle.vdb_walk.proofs.Common.{ap, arith, rules, Box, bits_of, field_of, internal_small, leaf_small, active, past}
use Rattle.vdb_walk.proofs.listing.list_past.Goals as goal

pub begun-requires : goal.begun-requires
begun-requires g c =
    let upper = g.met.V.Stored-1.row_small in
    let lower = g.met.V.Stored-2.row_small in
    let leaf = g.met.V.Stored-3.row_small in (
      search rules,
      (
        internal_small _ _ g.row.WU _ c.mask_words.ensures.upper upper.1 upper.1 upper.0,
        (internal_small _ _ g.row.WL _ c.mask_words.ensures.lower lower.1 lower.1 lower.0, leaf_small _ _ g.row.WF _ c.mask_words.ensures.leaf leaf.1 leaf.1 leaf.0),
      ),
    )

pub invariant_of-result : goal.invariant_of-result
invariant_of-result g c = (c.begun.ensures.listing, λ some. let none = c.empty.ensures in absurd (omega (arith, some, none)))

pub returns : goal.returns
returns g c =
    let bits = bits_of g.row.U g.row.L g.row.F in
    ap (λ (b : Box). record { rest = past bits c.args.last (active bits (field_of bits c.args.tree.now) b); left = c.args.limit }) c.begun.ensures.bounds
