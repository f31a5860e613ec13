-- Grids that a call makes of an array's elements.
use Rattle.vdb_c.proofs.Common.{◌≡◌, ◌<◌, ◌⊎◌, inl, inr, refl, sym, ap, ◌∙◌, subst, ℕ, ℤ, Bool, true, false, not, cond, List, length, slice_get, Option, Some, None, Err, ⊤, vdb, Box, is_inside, Kind, Field, as_cell_of, as_field_of, field, off, Layout, field_of, cell_inside, same_cells, TreeRefusal, AnyGrid, Scalar, done, tree_code, place, Strides}
use Rattle.std.specs.Option.{option_map_or}
use Rattle.vdb_tree.specs.ConstantBlocks.{roots}
use Rattle.vdb_tree.specs.declared.refusal.TreeRefusal.TheVariants.{Memory, RootLimit}
use Rattle.vdb_tree.proofs.AsFieldOf.{as_field_of_roots}
use Rattle.vdb_scene.specs.Grids.{IsPruned, grid_field, grid_root_limit}
use Rattle.vdb_scene.specs.Scalars.{scalar_eq}
use Rattle.vdb_tree.specs.Smallest.{IsLeast}
use Rattle.vdb_c.specs.BoxWrites.{box_written}
use Rattle.vdb_c.specs.Calls.{OnValid}
use Rattle.vdb_c.specs.Codes.{memory, out_of_range}
use Rattle.vdb_c.specs.FromBox.{IsBuilt, IsGridOf, IsTreeOf, Makes, background_given, cell_given, cell_of_element, field_given}
use Rattle.vdb_c.specs.declared.values.Corners.{Corners}

-- ---- values as those of any type

module _ {V U X : Type 0} (make : V → U) (eq : V → V → Bool) (made_eq : U → U → Bool) (same : (v w : V) → made_eq (make v) (make w) ≡ eq v w) (value : X → V) (background : V) where
  as_given_at : (i : Bool) (o : Option X)
      → as_cell_of make (cond i (option_map_or (cell_of_element eq value background) o (off background)) (off background))
      ≡ cond i (option_map_or (cell_of_element made_eq (λ x. make (value x)) (make background)) o (off (make background))) (off (make background))
  as_given_at false o = refl
  as_given_at true None = refl
  as_given_at true (Some x) = ap (λ (b : Bool). record { value = make (value x); on = not b }) (sym (same (value x) background))

  module _ (b : Box) (s : Strides) (values : List X) where
    -- the field of an array
    pub as_field_given : as_field_of make (field_given eq value background b s values) ≡ field_given made_eq (λ x. make (value x)) (make background) b s values
    as_field_given =
        same_cells (make background) (λ p. as_cell_of make ((field_given eq value background b s values).cell p))
        (λ p. cond (is_inside b p) (cell_given made_eq (λ x. make (value x)) (make background) b s values p) (off (make background)))
        (λ p range. ap (as_cell_of make) (cell_inside background (λ q. cond (is_inside b q) (cell_given eq value background b s values q) (off background)) p range) ∙ as_given_at (is_inside b p) (slice_get values (place b s p)))

    -- its number of roots
    pub as_given_roots : roots made_eq vdb (field_given made_eq (λ x. make (value x)) (make background) b s values) ≡ roots eq vdb (field_given eq value background b s values)
    as_given_roots =
        ap (roots made_eq vdb) (sym as_field_given)
        ∙ as_field_of_roots make background (λ p. cond (is_inside b p) (cell_given eq value background b s values p) (off background)) eq made_eq same vdb

-- ---- the ways of the call

-- an error of the tree
pub refused : (limit : ℕ) (f : Field Scalar) (g : Option AnyGrid) (r : TreeRefusal) → (r ≡ RootLimit → limit < roots scalar_eq vdb f) → Makes limit f g g (tree_code (Err r))
refused limit f g RootLimit h = inr (inr (refl, refl, h refl))
refused limit f g Memory h = inr (inl (refl, refl))

-- a grid that is held, or for which there is no memory
pub held : (limit : ℕ) (f : Field Scalar) (g : AnyGrid) (old new : Option AnyGrid) (code : ℤ) → IsGridOf limit f (Some g) → ((code ≡ done) × (new ≡ Some g)) ⊎ ((code ≡ memory) × (new ≡ old)) → Makes limit f old new code
held limit f g old new code h (inl k) = inl (k.0, subst (IsGridOf limit f) (sym k.1) h)
held limit f g old new code h (inr k) = inr (inl k)

module _ {X : Type 0} (kind : Kind) (value : X → Scalar) (background : ℤ) (limit : ℕ) (c : Corners) (s : Strides) (values : List X) (old new : Option AnyGrid) (code : ℤ) where
  pub no_background : background_given kind background limit ≡ None → code ≡ out_of_range → new ≡ old → IsBuilt kind value background limit c s values old new code
  unfolding IsBuilt
  no_background e is same =
      subst (λ (o : Option Scalar). OnValid o old new code ⊤ (λ v. OnValid (box_written c s (length values) 0) old new code ⊤ (λ box. Makes limit (field_given scalar_eq value v box s values) old new code))) (sym e) (is, same, tt)

  module _ (v : Scalar) (given : background_given kind background limit ≡ Some v) where
    pub no_box : box_written c s (length values) 0 ≡ None → code ≡ out_of_range → new ≡ old → IsBuilt kind value background limit c s values old new code
    unfolding IsBuilt
    no_box e is same =
        subst (λ (o : Option Scalar). OnValid o old new code ⊤ (λ w. OnValid (box_written c s (length values) 0) old new code ⊤ (λ box. Makes limit (field_given scalar_eq value w box s values) old new code))) (sym given)
        (subst (λ (o : Option Box). OnValid o old new code ⊤ (λ box. Makes limit (field_given scalar_eq value v box s values) old new code)) (sym e) (is, same, tt))

    pub built : (b : Box) → box_written c s (length values) 0 ≡ Some b → Makes limit (field_given scalar_eq value v b s values) old new code → IsBuilt kind value background limit c s values old new code
    unfolding IsBuilt
    built b e h =
        subst (λ (o : Option Scalar). OnValid o old new code ⊤ (λ w. OnValid (box_written c s (length values) 0) old new code ⊤ (λ box. Makes limit (field_given scalar_eq value w box s values) old new code))) (sym given)
        (subst (λ (o : Option Box). OnValid o old new code ⊤ (λ box. Makes limit (field_given scalar_eq value v box s values) old new code)) (sym e) h)

  -- the grid of a tree
  pub built_of : {V : Type 0} (eq : V → V → Bool) (make : V → Scalar) (t : Layout V) → IsTreeOf kind eq make value background limit c s values t → (g : AnyGrid) → grid_field g ≡ as_field_of make (field_of vdb t) → grid_root_limit g ≡ t.limit
      → (IsLeast eq vdb t → IsPruned g) → ((code ≡ done) × (new ≡ Some g)) ⊎ ((code ≡ memory) × (new ≡ old)) → IsBuilt kind value background limit c s values old new code
  built_of eq make t h g f l p way =
      built h.base h.base_is h.box h.box_is (held limit (field_given scalar_eq value h.base h.box s values) g old new code (f ∙ h.field_is, l ∙ h.limit_is, p h.least) way)
