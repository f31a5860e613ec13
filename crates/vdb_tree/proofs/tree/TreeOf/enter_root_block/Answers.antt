use Rattle.vdb_tree.proofs.Common.{◌⊎◌, inl, inr, ℕ, ◌+◌, ◌<◌, ◌≤◌, arith, refl, Option, Some, None, IsSome, is_some, Upper, if◌then◌else◌}
use Rattle.vdb_tree.proofs.Splits.{with_entry_keeps, with_entry_adds, with_entry_same, with_entry_sound}
use Rattle.vdb_tree.proofs.RootSweeps.{other_key}
use Rattle.vdb_tree.proofs.SweptTables.{not_known}
use Rattle.vdb_tree.proofs.tree.TreeOf.enter_root_block.Goals as goal

no_some : (A : Type 0) → IsSome {T = A} None → ⊥
no_some A x = cc

one_more : {A : Type 0} (n o l : ℕ) (e : Option A) → n ≤ o + (if is_some e then 0 else 1) → o ≤ l → IsSome e ⊎ (o < l) → n ≤ l
one_more {A = A} n o l None a b h = elim h [ inl x ↦ absurd (no_some A x) | inr c ↦ omega (arith, a, c) ]
one_more n o l (Some x) a b h = omega (arith, a, b)

pub invariant_of-self-2 : goal.invariant_of-self-2
invariant_of-self-2 g c = (
  c.self.invariant.0,
  with_entry_sound _ _ c.self.invariant.1 c.args.p _ _ refl (rw (c.key-key.ensures.value, c.background_cell.ensures, ← c.self.view_is) at c.in_ok-enter.ensures.ok) c.key-key.ensures.within
      (one_more _ _ _ _ (rw c.key-key.ensures.value at c.in_ok-enter.ensures.size) c.self.invariant.1.limit (rw (← c.self.view_is) at c.requires)) c.in_ok-enter.ensures.apart,
  not_known,
)

pub returns-clause-keeps : goal.returns-clause-keeps
returns-clause-keeps g c =
    rw (← c.self.view_is)
    (with_entry_keeps _ _ c.self.invariant.1 c.args.p _ _ refl (rw (c.key-key.ensures.value, c.background_cell.ensures, ← c.self.view_is) at c.in_ok-enter.ensures.ok))

pub returns-clause-adds : goal.returns-clause-adds
returns-clause-adds g c =
    rw (← c.self.view_is)
    (with_entry_adds _ _ c.self.invariant.1 c.args.p _ _ refl (rw (c.key-key.ensures.value, c.background_cell.ensures, ← c.self.view_is) at c.in_ok-enter.ensures.ok))

pub returns-clause-table : goal.returns-clause-table
returns-clause-table g c = rw (← c.self.view_is) (λ k d. other_key _ _ _ k _ (rw c.key-key.ensures.value at c.in_ok-enter.ensures.ok) d)

pub returns-clause-same : goal.returns-clause-same
returns-clause-same g c =
    rw (← c.self.view_is)
    (with_entry_same _ _ c.self.invariant.1 c.args.p _ _ refl (rw (c.key-key.ensures.value, c.background_cell.ensures, ← c.self.view_is) at c.in_ok-enter.ensures.ok))

pub returns-clause-entry : goal.returns-clause-entry
returns-clause-entry g c =
    rw (← c.self.view_is)
    (with_entry_same _ _ c.self.invariant.1 c.args.p _ _ refl (rw (c.key-key.ensures.value, c.background_cell.ensures, ← c.self.view_is) at c.in_ok-enter.ensures.ok) c.args.p Upper)
