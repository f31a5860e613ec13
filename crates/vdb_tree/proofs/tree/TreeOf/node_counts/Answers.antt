use Rattle.vdb_tree.proofs.Common.{◌≡◌, ◌∙◌, sym, subst, bits_of, field_of, IsAtMost, least_counts, counts_of}
use Rattle.vdb_tree.proofs.Census.{counts_at_least, counts_least}
use Rattle.vdb_tree.proofs.Needed.{has_needed}
use Rattle.vdb_tree.proofs.Uniform.{exact_by}
use Rattle.vdb_tree.proofs.tree.TreeOf.node_counts.Goals as goal

pub returns-clause-sound : goal.returns-clause-sound
returns-clause-sound g c = rw (← c.self.view_is) c.self.invariant.1

pub returns-clause-needed : goal.returns-clause-needed
returns-clause-needed g c =
    let exact = exact_by g.V.PartialEq.eq g.V.Ord.cmp g.met.V.Ord.matches_eq g.met.V.Voxel.exact in
    has_needed g.V.PartialEq.eq exact g.met.V.Eq.laws.refl _ c.self.invariant.0.bits c.args.self.now

pub returns-clause-at_least : goal.returns-clause-at_least
returns-clause-at_least g c =
    let bits = bits_of g.row.U g.row.L g.row.F in
    let exact = exact_by g.V.PartialEq.eq g.V.Ord.cmp g.met.V.Ord.matches_eq g.met.V.Voxel.exact in
    let same : counts_of c.args.self.now ≡ (record { entries = c.len.result; upper = c.len-2.result; lower = c.len-3.result; leaf = c.len-4.result }) =
    rw (← c.self.view_is) (λ i. record { entries = sym c.len.ensures i; upper = sym c.len-2.ensures.count i; lower = sym c.len-3.ensures.count i; leaf = sym c.len-4.ensures.count i }) in
    subst (λ n. IsAtMost (least_counts g.V.PartialEq.eq bits (field_of bits c.args.self.now)) n) same
    (counts_at_least g.V.PartialEq.eq exact g.met.V.Eq.laws.refl bits c.self.invariant.0.bits c.args.self.now (rw (← c.self.view_is) c.self.invariant.1))

pub returns-clause-least : goal.returns-clause-least
returns-clause-least g c = λ least.
    let bits = bits_of g.row.U g.row.L g.row.F in
    let exact = exact_by g.V.PartialEq.eq g.V.Ord.cmp g.met.V.Ord.matches_eq g.met.V.Voxel.exact in
    let same : counts_of c.args.self.now ≡ (record { entries = c.len.result; upper = c.len-2.result; lower = c.len-3.result; leaf = c.len-4.result }) =
    rw (← c.self.view_is) (λ i. record { entries = sym c.len.ensures i; upper = sym c.len-2.ensures.count i; lower = sym c.len-3.ensures.count i; leaf = sym c.len-4.ensures.count i }) in
    sym same ∙ counts_least g.V.PartialEq.eq exact g.met.V.Eq.laws.refl bits c.self.invariant.0.bits c.args.self.now (rw (← c.self.view_is) c.self.invariant.1) least
