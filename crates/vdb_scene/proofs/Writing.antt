-- The outcome of a write of a voxel, from facts about the grid and the command.
use Rattle.vdb_scene.proofs.Common.{◌≡◌, refl, sym, ap, ◌∙◌, subst, ◌⊎◌, inl, inr, ◌≤◌, ℕ, Bool, true, false, not, ◌&&◌, nat_lt, List, [], ◌∷◌, Option, Some, None, is_none, Ok, Err, IsTrue, le-ltb, lt-ltb, lookup, vdb, Coord, Kind, Field, as_write_of, write, IsOutcome, roots, Write, TreeRefusal, Memory, RootLimit, CarriesOut, grid_field, grid_root_limit, grid_of, scene_over, has_form, has_value, kind_of, scalar, scalar_eq, Grid, Scene, field_at, grid_at, is_named, kind_at, limit_at, is_accessor, is_coord, coord_of, first_of_all, of_tree, other_form, out_of_range, refused_if, IsReply, after, changed, first_refusal, passes, refusal, takes_memory, tried_write, write_at, write_command, write_takes_memory, GridEntry, Done, Refusal, Command, Literal, Num, Point, Scalar}
use Rattle.std.proofs.Common.{IsOk}
use Rattle.vdb_tree.specs.declared.Write.TheVariants as writes
use Rattle.vdb_scene.specs.Replies as replies
use Rattle.vdb_scene.specs.Step.{after_write, line_takes_memory}
use Rattle.vdb_scene.specs.declared.answer.Refusal.TheVariants as refusals
use Rattle.vdb_scene.proofs.Borrowed.{found, missing}
use Rattle.vdb_scene.proofs.Steps.{grid_found, kind_found, refused, value_first}

-- ---- the command of a write

module _ (s : Scene) (name : List ℕ) (k : Option Num) (p : Point) where
  tried_for : (w : Write Literal) → refusal s (write_command name k p w) ≡ first_of_all (tried_write s name k p w)
  tried_for (writes.On v) = refl
  tried_for (writes.Off v) = refl
  tried_for (writes.State on) = refl
  tried_for (writes.Value v) = refl

  after_for : (w : Write Literal) → after s (write_command name k p w) ≡ after_write s name p w
  after_for (writes.On v) = refl
  after_for (writes.Off v) = refl
  after_for (writes.State on) = refl
  after_for (writes.Value v) = refl

  answer_for : (w : Write Literal) → IsReply s (write_command name k p w) replies.Done
  answer_for (writes.On v) = refl
  answer_for (writes.Off v) = refl
  answer_for (writes.State on) = refl
  answer_for (writes.Value v) = refl

  memory_for : (w : Write Literal) → takes_memory s (write_command name k p w) ≡ line_takes_memory s name p w
  memory_for (writes.On v) = refl
  memory_for (writes.Off v) = refl
  memory_for (writes.State on) = refl
  memory_for (writes.Value v) = refl

  -- after the other errors only an allocation failure can come
  first_for : (w : Write Literal) → first_refusal s (write_command name k p w) ≡ refusal s (write_command name k p w)
  first_for (writes.On v) = refl
  first_for (writes.Off v) = refl
  first_for (writes.State on) = refl
  first_for (writes.Value v) = refl

-- ---- the first of five errors

abbrev tests : Bool → Bool → Bool → Bool → Bool → List (Option Refusal)
tests absent fits in_range named over =
    refused_if absent refusals.NoGrid ∷ refused_if (not fits) refusals.Kind ∷ refused_if (not in_range) refusals.ValueRange ∷ refused_if (not named) refusals.NoAccessor ∷ refused_if over refusals.RootLimit ∷ []

module _ (absent fits in_range named over : Bool) where
  first_absent : absent ≡ true → first_of_all (tests absent fits in_range named over) ≡ Some refusals.NoGrid
  first_absent a = rw a refl

  first_range : absent ≡ false → fits ≡ true → in_range ≡ false → first_of_all (tests absent fits in_range named over) ≡ Some refusals.ValueRange
  first_range a f r = rw (a, f, r) refl

  first_accessor : absent ≡ false → fits ≡ true → in_range ≡ true → named ≡ false → first_of_all (tests absent fits in_range named over) ≡ Some refusals.NoAccessor
  first_accessor a f r n = rw (a, f, r, n) refl

  first_over : absent ≡ false → fits ≡ true → in_range ≡ true → named ≡ true → over ≡ true → first_of_all (tests absent fits in_range named over) ≡ Some refusals.RootLimit
  first_over a f r n o = rw (a, f, r, n, o) refl

  first_none : absent ≡ false → fits ≡ true → in_range ≡ true → named ≡ true → over ≡ false → first_of_all (tests absent fits in_range named over) ≡ None
  first_none a f r n o = rw (a, f, r, n, o) refl

-- a first error that doesn't apply
pub passed_over : (absent : Bool) (rest : List (Option Refusal)) → absent ≡ false → first_of_all (refused_if absent refusals.NoGrid ∷ rest) ≡ first_of_all rest
passed_over absent rest a = rw a refl

-- both of two tests
both : (a b : Bool) → a ≡ true → b ≡ true → (a && b) ≡ true
both a b h k = rw (h, k) refl

first_fails : (a b : Bool) → a ≡ false → (a && b) ≡ false
first_fails a b h = rw h refl

-- a test that would make a failed call succeed
not_free : (free : Bool) → (free ≡ false → false ≡ true) → IsTrue free
not_free true h = refl
not_free false h = h refl

-- if a write allocates nothing, its voxel has that cell already or the cells around it aren't all equal
pub no_memory : (stands constant : Bool) → (not stands && constant) ≡ false → (stands ≡ true) ⊎ (constant ≡ false)
no_memory true constant h = inl refl
no_memory false constant h = inr h

-- ---- the write

module _ (grids : List (List ℕ × GridEntry)) (name : List ℕ) (k : Option Num) (p : Point) (w : Write Literal) (next : Scene) where
  abbrev scene : Scene
  scene = scene_over grids

  abbrev command : Command
  command = write_command name k p w

  abbrev absent : Bool
  absent = is_none (grid_at scene name)

  abbrev fits : Bool
  fits = passes (has_form (kind_at scene name)) w

  abbrev in_range : Bool
  in_range = is_coord p && passes (has_value (kind_at scene name)) w

  abbrev over : Bool
  over = nat_lt (limit_at scene name) (roots scalar_eq vdb (write (coord_of p) (write_at scene name w) (field_at scene name)))

  -- no grid of that name
  pub write_missing : lookup (is_named name) grids ≡ None → next ≡ scene → CarriesOut scene command (Err refusals.NoGrid) next
  write_missing none same = (tried_for scene name k p w ∙ first_absent absent fits in_range (is_accessor k) over (ap is_none (missing grids name none)), same)

  module _ (entry : GridEntry) (there : lookup (is_named name) grids ≡ Some entry) (kind : Kind) (is_kind : kind ≡ kind_of (grid_field entry.grid).background) where
    is_there : absent ≡ false
    is_there = ap is_none (found grids name entry there)

    kind_here : kind ≡ kind_at scene name
    kind_here = is_kind ∙ sym (kind_found scene name (grid_of entry) (found grids name entry there))

    -- a value outside the type
    pub write_value_refused : (r : Refusal) → first_of_all (other_form (passes (has_form kind) w) ∷ out_of_range (passes (has_value kind) w) ∷ []) ≡ Some r → next ≡ scene
        → CarriesOut scene command (Err r) next
    write_value_refused r is same =
        let h = value_first fits (passes (has_value (kind_at scene name)) w) (is_coord p) (refused_if (not (is_accessor k)) refusals.NoAccessor ∷ refused_if over refusals.RootLimit ∷ []) r
        (subst (λ h. first_of_all (other_form (passes (has_form h) w) ∷ out_of_range (passes (has_value h) w) ∷ []) ≡ Some r) kind_here is) in
        refused scene command r next (tried_for scene name k p w ∙ passed_over absent _ is_there ∙ h.0) h.1 same

    module _ (form : passes (has_form kind) w ≡ true) (value : passes (has_value kind) w ≡ true) where
      fits_here : fits ≡ true
      fits_here = subst (λ h. passes (has_form h) w ≡ true) kind_here form

      value_here : passes (has_value (kind_at scene name)) w ≡ true
      value_here = subst (λ h. passes (has_value h) w ≡ true) kind_here value

      -- a point that is not a coordinate
      pub write_coord_refused : is_coord p ≡ false → next ≡ scene → CarriesOut scene command (Err refusals.ValueRange) next
      write_coord_refused nowhere same =
          (tried_for scene name k p w ∙ first_range absent fits in_range (is_accessor k) over is_there fits_here (first_fails (is_coord p) _ nowhere), same)

      -- no such accessor
      pub write_accessor_refused : is_coord p ≡ true → is_accessor k ≡ false → next ≡ scene → CarriesOut scene command (Err refusals.NoAccessor) next
      write_accessor_refused at none same =
          (tried_for scene name k p w ∙ first_accessor absent fits in_range (is_accessor k) over is_there fits_here (both (is_coord p) _ at value_here) none, same)

      module _ (at : is_coord p ≡ true) (accessor : is_accessor k ≡ true) (q : Coord) (is_q : coord_of p ≡ q) (change : Write Scalar) (is_change : change ≡ as_write_of (scalar kind) w) where
        change_here : write_at scene name w ≡ change
        change_here = ap (λ h. as_write_of (scalar h) w) (sym kind_here) ∙ sym is_change

        -- facts about the scene's grid hold for the grid that was found
        over_is : over ≡ nat_lt (grid_root_limit entry.grid) (roots scalar_eq vdb (write q change (grid_field entry.grid)))
        over_is =
            ap (λ (g : Grid). nat_lt g.limit (roots scalar_eq vdb (write (coord_of p) (write_at scene name w) g.field))) (grid_found scene name (grid_of entry) (found grids name entry there))
            ∙ ap (λ r. nat_lt (grid_root_limit entry.grid) (roots scalar_eq vdb (write r (write_at scene name w) (grid_field entry.grid)))) is_q
            ∙ ap (λ c. nat_lt (grid_root_limit entry.grid) (roots scalar_eq vdb (write q c (grid_field entry.grid)))) change_here

        memory_is : takes_memory scene command ≡ write_takes_memory (grid_field entry.grid) q change
        memory_is =
            memory_for scene name k p w
            ∙ ap (λ (g : Grid). write_takes_memory g.field (coord_of p) (write_at scene name w)) (grid_found scene name (grid_of entry) (found grids name entry there))
            ∙ ap (λ r. write_takes_memory (grid_field entry.grid) r (write_at scene name w)) is_q
            ∙ ap (λ c. write_takes_memory (grid_field entry.grid) q c) change_here

        accepted : roots scalar_eq vdb (write q change (grid_field entry.grid)) ≤ grid_root_limit entry.grid → refusal scene command ≡ None
        accepted few =
            tried_for scene name k p w
            ∙ first_none absent fits in_range (is_accessor k) over is_there fits_here (both (is_coord p) _ at value_here) accessor (over_is ∙ le-ltb _ _ few)

        -- the voxel is written
        pub write_done : roots scalar_eq vdb (write q change (grid_field entry.grid)) ≤ grid_root_limit entry.grid → next ≡ changed scene name (write q change) → CarriesOut scene command (Ok Done) next
        write_done few is = (
          accepted few,
          (replies.Done, refl, answer_for scene name k p w),
          is ∙ ap (λ c. changed scene name (write q c)) (sym change_here) ∙ ap (λ r. changed scene name (write r (write_at scene name w))) (sym is_q) ∙ sym (after_for scene name k p w),
        )

        -- the grid's tree fails
        pub write_refused : (e : TreeRefusal) (after : Field Scalar) → IsOutcome scalar_eq vdb (grid_root_limit entry.grid) (grid_field entry.grid) (write q change (grid_field entry.grid)) after (Err e)
            → (write_takes_memory (grid_field entry.grid) q change ≡ false → IsOk {T = Unit {0}} (Err e)) → next ≡ scene → CarriesOut scene command (Err (of_tree e)) next
        write_refused RootLimit after h free same = (
          tried_for scene name k p w
              ∙ first_over absent fits in_range (is_accessor k) over is_there fits_here (both (is_coord p) _ at value_here) accessor (over_is ∙ lt-ltb _ _ h.1),
          same,
        )
        write_refused Memory after h free same = (first_for scene name k p w ∙ accepted h.1, subst IsTrue (sym memory_is) (not_free _ free), same)
