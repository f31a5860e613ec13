-- Leaves in arrays, before and after values are mapped to those of any type.
use Rattle.std.proofs.Common.{refl}
use Rattle.vdb_scene.specs.declared.scalar.Scalar.TheVariants as scalars
use Rattle.vdb_c.proofs.Common.{◌≡◌, sym, ap, ◌∙◌, ℕ, ℤ, List, vdb, Coord, Cell, as_cell_of, as_field_of, Layout, cell_at, field_of, as_field_of_cell, Scalar, HasRows, IsValueOf, IsWordOf, voxel_at, value_number, Corner}
use Rattle.vdb_c.specs.Many.{number_at}
use Rattle.vdb_c.proofs.LeafRows.{rows_as}
use Rattle.vdb_c.proofs.leaves.copy.Goals as goal

module _ {V : Type 0} (make : V → Scalar) (t : Layout V) (n : ℕ) (at : List Corner) where
  made_cell : (q : Coord) → (as_field_of make (field_of vdb t)).cell q ≡ as_cell_of make ((field_of vdb t).cell q)
  made_cell q = as_field_of_cell make t.background (cell_at vdb t) q

  made_values : (of : V → ℤ) → ((v : V) → of v ≡ value_number (make v)) → (xs ys : List ℤ) → HasRows 512 n (λ k. IsValueOf (λ q. of ((field_of vdb t).cell q).value) (voxel_at at k)) xs ys
      → HasRows 512 n (λ k. IsValueOf (number_at (as_field_of make (field_of vdb t))) (voxel_at at k)) xs ys
  made_values of same xs ys h = rows_as 512 n _ (λ k. IsValueOf (number_at (as_field_of make (field_of vdb t))) (voxel_at at k)) xs ys
      (λ k i x l is q inside place. is q inside place ∙ same ((field_of vdb t).cell q).value ∙ ap (λ (c : Cell Scalar). value_number c.value) (sym (made_cell q))) h

  made_states : (xs ys : List ℕ) → HasRows 8 n (λ k. IsWordOf (λ q. ((field_of vdb t).cell q).on) (voxel_at at k)) xs ys
      → HasRows 8 n (λ k. IsWordOf (λ q. ((as_field_of make (field_of vdb t)).cell q).on) (voxel_at at k)) xs ys
  made_states xs ys h = rows_as 8 n _ (λ k. IsWordOf (λ q. ((as_field_of make (field_of vdb t)).cell q).on) (voxel_at at k)) xs ys
      (λ k i x l is q j inside below place. is q j inside below place ∙ ap (λ (c : Cell Scalar). c.on) (sym (made_cell q))) h

pub returns-in-Bool-clause-leaves : goal.returns-in-Bool-clause-leaves
returns-in-Bool-clause-leaves c = rw (c.in-Bool.is, ← c.tree.ensures) c.copy_leaves.ensures.leaves

pub returns-in-Bool-clause-values : goal.returns-in-Bool-clause-values
returns-in-Bool-clause-values c = rw (c.in-Bool.is, ← c.tree.ensures) (made_values scalars.Bool c.tree.result.now _ _ _ (λ v. refl) _ _ c.copy_leaves.ensures.values)

pub returns-in-Bool-clause-states : goal.returns-in-Bool-clause-states
returns-in-Bool-clause-states c = rw (c.in-Bool.is, ← c.tree.ensures) (made_states scalars.Bool c.tree.result.now _ _ _ _ c.copy_leaves.ensures.states)

pub returns-in-I32-clause-leaves : goal.returns-in-I32-clause-leaves
returns-in-I32-clause-leaves c = rw (c.in-I32.is, ← c.tree-in-I32.ensures) c.copy_leaves-in-I32.ensures.leaves

pub returns-in-I32-clause-values : goal.returns-in-I32-clause-values
returns-in-I32-clause-values c = rw (c.in-I32.is, ← c.tree-in-I32.ensures) (made_values scalars.I32 c.tree-in-I32.result.now _ _ _ (λ v. refl) _ _ c.copy_leaves-in-I32.ensures.values)

pub returns-in-I32-clause-states : goal.returns-in-I32-clause-states
returns-in-I32-clause-states c = rw (c.in-I32.is, ← c.tree-in-I32.ensures) (made_states scalars.I32 c.tree-in-I32.result.now _ _ _ _ c.copy_leaves-in-I32.ensures.states)

pub returns-in-I64-clause-leaves : goal.returns-in-I64-clause-leaves
returns-in-I64-clause-leaves c = rw (c.in-I64.is, ← c.tree-in-I64.ensures) c.copy_leaves-in-I64.ensures.leaves

pub returns-in-I64-clause-values : goal.returns-in-I64-clause-values
returns-in-I64-clause-values c = rw (c.in-I64.is, ← c.tree-in-I64.ensures) (made_values scalars.I64 c.tree-in-I64.result.now _ _ _ (λ v. refl) _ _ c.copy_leaves-in-I64.ensures.values)

pub returns-in-I64-clause-states : goal.returns-in-I64-clause-states
returns-in-I64-clause-states c = rw (c.in-I64.is, ← c.tree-in-I64.ensures) (made_states scalars.I64 c.tree-in-I64.result.now _ _ _ _ c.copy_leaves-in-I64.ensures.states)
