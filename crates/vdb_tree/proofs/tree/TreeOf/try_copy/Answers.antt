use Rattle.vdb_tree.proofs.Common.{refl, bits_of}
use Rattle.vdb_tree.proofs.Equations.{keeps_field}
use Rattle.vdb_tree.proofs.Sizes.{internal_small}
use Rattle.vdb_tree.proofs.Rooted.{same_size}
use Rattle.vdb_tree.proofs.Splits.{alike_keeps, alike_sound, alike_tree}
use Rattle.vdb_tree.proofs.SweptTables.{kept_swept}
use Rattle.vdb_tree.proofs.tree.TreeOf.try_copy.Goals as goal

pub drop-lowers-requires-room-T-Destruct : goal.drop-lowers-requires-room-T-Destruct
drop-lowers-requires-room-T-Destruct g c κs within =
    let small = g.met.V.Stored-2.row_small in
    internal_small _ _ g.row.WL _ c.self.invariant.0.few_lower_words small.1 small.1 small.0

pub drop-uppers-requires-in_err-leaves-room-T-Destruct : goal.drop-uppers-requires-in_err-leaves-room-T-Destruct
drop-uppers-requires-in_err-leaves-room-T-Destruct g c κs within =
    let small = g.met.V.Stored-1.row_small in
    internal_small _ _ g.row.WU _ c.self.invariant.0.few_upper_words small.1 small.1 small.0

pub invariant_of-result : goal.invariant_of-result
invariant_of-result g c = (
  c.self.invariant.0,
  alike_sound _ _ _ refl c.in_ok-root.ensures.entries c.in_ok-uppers.ensures.nodes c.in_ok-lowers.ensures.nodes c.in_ok-leaves.ensures.nodes refl c.self.invariant.1
      c.in_ok-root.ensures.size c.in_ok-root.ensures.apart,
  λ known. kept_swept _ _ _ (λ k h. let e = c.in_ok-root.ensures.entries k in rw e at h)
      (alike_keeps _ _ _ refl c.in_ok-root.ensures.entries c.in_ok-uppers.ensures.nodes c.in_ok-lowers.ensures.nodes c.in_ok-leaves.ensures.nodes refl) (c.self.invariant.2 known),
)

pub returns-clause-field : goal.returns-clause-field
returns-clause-field g c =
    rw (← c.self.view_is)
    (keeps_field (bits_of g.row.U g.row.L g.row.F) _ _
    (alike_keeps _ _ _ refl c.in_ok-root.ensures.entries c.in_ok-uppers.ensures.nodes c.in_ok-lowers.ensures.nodes c.in_ok-leaves.ensures.nodes refl))

pub returns-clause-same : goal.returns-clause-same
returns-clause-same g c =
    rw (← c.self.view_is)
    (alike_tree (bits_of g.row.U g.row.L g.row.F) _ _ refl c.in_ok-root.ensures.entries c.in_ok-uppers.ensures.nodes c.in_ok-lowers.ensures.nodes c.in_ok-leaves.ensures.nodes refl
    (same_size _ _ c.self.invariant.1.apart c.in_ok-root.ensures.entries c.in_ok-root.ensures.size))
