use Rattle.vdb_walk.proofs.Common.{rules, internal_small, leaf_small}
use Rattle.vdb_walk.proofs.uniform_box.parts_are.Goals as goal

pub parts-walk-requires : goal.parts-walk-requires
parts-walk-requires g c =
    let upper = g.met.V.Stored-1.row_small in
    let lower = g.met.V.Stored-2.row_small in
    let leaf = g.met.V.Stored-3.row_small in (
      search rules,
      (
        internal_small _ _ g.row.WU _ c.mask_words.ensures.upper upper.1 upper.1 upper.0,
        (internal_small _ _ g.row.WL _ c.mask_words.ensures.lower lower.1 lower.1 lower.0, leaf_small _ _ g.row.WF _ c.mask_words.ensures.leaf leaf.1 leaf.1 leaf.0),
      ),
    )

pub returns-clause-same : goal.returns-clause-same
returns-clause-same g c = rw (← c.parts-walk.ensures.bounds, ← c.parts-walk.ensures.skip) c.rest_is.ensures.same

pub returns-clause-differs : goal.returns-clause-differs
returns-clause-differs g c = rw (← c.parts-walk.ensures.bounds) c.rest_is.ensures.differs
