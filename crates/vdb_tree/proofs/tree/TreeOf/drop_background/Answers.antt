use Rattle.vdb_tree.proofs.Common.{◌≡◌, refl, sym, ◌∙◌, None, Option, Some, bits_of}
use Rattle.vdb_tree.proofs.RootSweeps.{equal_tile, other_key, that_key, non_background_keeps, non_background_same, non_background_sound}
use Rattle.vdb_tree.proofs.SweptTables.{kept_swept, not_known, updated_held}
use Rattle.vdb_tree.proofs.Uniform.{exact_by}
use Rattle.vdb_tree.proofs.tree.TreeOf.drop_background.Goals as goal

none_some : {A : Type 0} (o : Option A) (x : A) → o ≡ None → o ≡ Some x → ⊥
none_some None x e f = cc
none_some (Some y) x e f = cc

pub returns-then-eq-clause-table : goal.returns-then-eq-clause-table
returns-then-eq-clause-table g c = rw (← c.self.view_is) (λ k d. other_key c.self.inside.root c.remove.new.self _ k None (rw c.key-key.ensures.value at c.remove.ensures.updates) d)

pub invariant_of-self : goal.invariant_of-self
invariant_of-self g c =
    let exact = exact_by g.V.PartialEq.eq g.V.Ord.cmp g.met.V.Ord.matches_eq g.met.V.Voxel.exact in
    let found = sym c.get.ensures ∙ equal_tile g.V.PartialEq.eq exact g.met.V.Eq.laws.refl _ (λ s d. refl) (λ d e. refl) c.get.result _ (sym c.eq.ensures ∙ c.if-eq.true) in (
      c.self.invariant.0,
      non_background_sound _ _ c.args.p _ (rw c.key-key.ensures.value at c.remove.ensures.updates) (rw c.key-key.ensures.value at found) c.self.invariant.1 c.remove.ensures.size c.remove.ensures.apart,
      λ known. kept_swept _ _ _ (updated_held _ _ _ None (rw c.key-key.ensures.value at c.remove.ensures.updates) not_known)
          (non_background_keeps _ _ c.args.p _ (rw c.key-key.ensures.value at c.remove.ensures.updates) (rw c.key-key.ensures.value at found)) (c.self.invariant.2 known),
    )

pub returns-then-eq-clause-keeps : goal.returns-then-eq-clause-keeps
returns-then-eq-clause-keeps g c =
    let exact = exact_by g.V.PartialEq.eq g.V.Ord.cmp g.met.V.Ord.matches_eq g.met.V.Voxel.exact in
    let found = sym c.get.ensures ∙ equal_tile g.V.PartialEq.eq exact g.met.V.Eq.laws.refl _ (λ s d. refl) (λ d e. refl) c.get.result _ (sym c.eq.ensures ∙ c.if-eq.true) in
    rw (← c.self.view_is) (non_background_keeps (bits_of g.row.U g.row.L g.row.F) _ c.args.p _ (rw c.key-key.ensures.value at c.remove.ensures.updates) (rw c.key-key.ensures.value at found))

pub returns-then-eq-clause-same : goal.returns-then-eq-clause-same
returns-then-eq-clause-same g c =
    let exact = exact_by g.V.PartialEq.eq g.V.Ord.cmp g.met.V.Ord.matches_eq g.met.V.Voxel.exact in
    let found = sym c.get.ensures ∙ equal_tile g.V.PartialEq.eq exact g.met.V.Eq.laws.refl _ (λ s d. refl) (λ d e. refl) c.get.result _ (sym c.eq.ensures ∙ c.if-eq.true) in
    rw (← c.self.view_is) (non_background_same (bits_of g.row.U g.row.L g.row.F) _ c.args.p _ (rw c.key-key.ensures.value at c.remove.ensures.updates) (rw c.key-key.ensures.value at found))

pub returns-then-eq-clause-gone : goal.returns-then-eq-clause-gone
returns-then-eq-clause-gone g c = λ some. none_some _ _ (that_key c.self.inside.root c.remove.new.self _ None (rw c.key-key.ensures.value at c.remove.ensures.updates)) some
