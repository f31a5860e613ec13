-- The upper extents that hold anything but the background, counted against the keys of the root table.
use Rattle.vdb_tree.proofs.Common.{◌≡◌, ◌≢◌, ◌⊎◌, inl, inr, ◌<◌, ◌≤◌, Bool, true, false, not, ◌||◌, List, [], ◌∷◌, length, refl, sym, ap, subst, ◌∙◌, arith, IsTrue, Some, None, is_some, IsSome, AllByRecursion, keys_of, is_member, length-keys_of, length-le_from_is_member, block, block_number, block_numbers, key, AreBits, coord_eq, everywhere, is_inside, Bits, Coord, Level, Upper, not_true, count_at_least, count_at_most, corner_in_range, number_in_range, number_of_corner, numbered_in_range, coord_equiv, coord_exact, Entry, Cell, IsConstantBlock, Field, off, write, written, Layout, cell_at, field_of, background_cell, root_at, is_background, is_uniform, roots, IsSound, AreSameCells, IsAlteredIn, HasCapacity, Write}
use Rattle.std.specs.List.{IsDistinct}
use Rattle.std.proofs.lemmas.Map.Made.{is_some-lookup}
use Rattle.vdb_tree.proofs.Blocks.{never, uniform_block, uniform_block_from}
use Rattle.vdb_tree.proofs.Fields.{cell_inside}
use Rattle.vdb_tree.proofs.Levels.{coord_cases, unlike_coords}
use Rattle.vdb_tree.proofs.Needed.{absent_block, has_needed, some_or_none}

pub was_false : (b : Bool) → not b ≡ true → b ≡ false
was_false true h = cc
was_false false h = refl

pub not_from : (b : Bool) → b ≡ false → not b ≡ true
not_from b h = ap not h

pub or_cases : (a b : Bool) → (a || b) ≡ true → (a ≡ true) ⊎ (b ≡ true)
or_cases true b h = inl refl
or_cases false b h = inr h

pub or_first : (a b : Bool) → a ≡ true → (a || b) ≡ true
or_first a b h = rw h refl

pub or_second : (a b : Bool) → b ≡ true → (a || b) ≡ true
or_second true b h = refl
or_second false b h = h

-- a list of distinct keys stays distinct with a key before it that it doesn't have
all_apart : (k : Coord) (keys : List Coord) → is_member coord_eq keys k ≡ false → AllByRecursion (λ j. coord_eq k j ≡ false) keys
all_apart k [] h = tt
all_apart k (j ∷ keys) h =
    let first : coord_eq k j ≡ false = not_true (coord_eq k j) (λ e. never h (or_first (coord_eq k j) (is_member coord_eq keys k) e)) in
    let rest : is_member coord_eq keys k ≡ false = not_true (is_member coord_eq keys k) (λ e. never h (or_second (coord_eq k j) (is_member coord_eq keys k) e)) in
    (first, all_apart k keys rest)

pub one_more : (k : Coord) (keys : List Coord) → IsDistinct coord_eq keys → is_member coord_eq keys k ≡ false → IsDistinct coord_eq (k ∷ keys)
unfolding IsDistinct
one_more k keys distinct h = (all_apart k keys h, distinct)

module _ {V : Type 0} (eq : V → V → Bool) (bits : Bits) (f : Field V) where
  -- the upper extents that hold anything but the background are at most as many as these keys, if all their keys are among these
  pub roots_at_most : (keys : List Coord) → ((k : Coord) → IsTrue (is_inside (block_numbers bits Upper) k) → is_background eq f (block bits Upper k) ≡ false → is_member coord_eq keys k ≡ true)
      → roots eq bits f ≤ length keys
  roots_at_most keys h = count_at_most (block_numbers bits Upper) (λ n. not (is_background eq f (block bits Upper n))) keys (λ k i n. h k i (was_false _ n))

  -- the upper extents that hold anything but the background are at least as many as distinct keys of such extents
  pub roots_at_least : (keys : List Coord) → IsDistinct coord_eq keys
      → ((k : Coord) → is_member coord_eq keys k ≡ true → IsTrue (is_inside (block_numbers bits Upper) k) × (is_background eq f (block bits Upper k) ≡ false)) → length keys ≤ roots eq bits f
  roots_at_least keys distinct h =
      count_at_least (block_numbers bits Upper) (λ n. not (is_background eq f (block bits Upper n))) keys distinct (λ k m. let hs = h k m in (hs.0, not_from _ hs.1))

-- ---- a write to one voxel

module _ {V : Type 0} (p : Coord) (w : Write V) (f : Field V) where
  pub write_here : IsTrue (is_inside everywhere p) → (write p w f).cell p ≡ written w (f.cell p)
  write_here inside = let e = coord_equiv.refl p in rw (inside, e) refl

  pub write_there : (q : Coord) → IsTrue (is_inside everywhere q) → q ≢ p → (write p w f).cell q ≡ f.cell q
  write_there q inside d = let e = unlike_coords p q (λ s. d (sym s)) in rw (inside, e) refl

  -- a write changes only the upper extent around the voxel
  pub write_altered : (bits : Bits) → IsAlteredIn bits (key bits p) f (write p w f)
  write_altered bits = record { background = refl; elsewhere = λ q inside d. write_there q inside (λ e. d (ap (key bits) e)) }

  -- a write that changes the voxel's cell changes the field
  pub write_differs : IsTrue (is_inside everywhere p) → written w (f.cell p) ≢ f.cell p → AreSameCells f (write p w f) → ⊥
  write_differs inside differs same = differs (sym (write_here inside) ∙ same p inside)

-- ---- the table

module _ {V : Type 0} (t : Layout V) where
  -- the keys of a table are those that have an entry
  pub key_member : (k : Coord) → IsSome (root_at t.root k) → is_member coord_eq (keys_of t.root) k ≡ true
  key_member k h = sym (is_some-lookup (coord_eq k) t.root) ∙ h

  pub member_entry : (k : Coord) → is_member coord_eq (keys_of t.root) k ≡ true → IsSome (root_at t.root k)
  member_entry k h = is_some-lookup (coord_eq k) t.root ∙ h

  pub absent_key : (k : Coord) → root_at t.root k ≡ None → is_member coord_eq (keys_of t.root) k ≡ false
  absent_key k h = sym (is_some-lookup (coord_eq k) t.root) ∙ rw h refl

-- tables of distinct keys with the same entries have one size
pub same_size : {V : Type 0} (old new : List (Coord × Entry V)) → IsDistinct coord_eq (keys_of old) → ((k : Coord) → root_at new k ≡ root_at old k) → length new ≤ length old → length new ≡ length old
same_size old new apart same size =
    let each : (k : Coord) → is_member coord_eq (keys_of old) k ≡ true → is_member coord_eq (keys_of new) k ≡ true = λ k h. sym (is_some-lookup (coord_eq k) new) ∙ ap is_some (same k) ∙ is_some-lookup (coord_eq k) old ∙ h in
    let more = length-le_from_is_member coord_equiv (keys_of old) (keys_of new) apart each in
    omega (arith, size, more, length-keys_of old, length-keys_of new)

module _ {V : Type 0} (eq : V → V → Bool) (exact : (x y : V) → eq x y ≡ true → x ≡ y) (itself : (x : V) → eq x x ≡ true) (bits : Bits) (configured : AreBits bits) where
  -- if fields have the same cells in a block, it is uniform in both or in neither
  uniform_as : (level : Level) (f g : Field V) (n : Coord) (c : Cell V) → ((q : Coord) → block_number bits level q ≡ n → g.cell q ≡ f.cell q)
      → is_uniform eq f (block bits level n) c ≡ true → is_uniform eq g (block bits level n) c ≡ true
  uniform_as level f g n c same h = uniform_block_from eq exact itself bits level g n c (λ q e. same q e ∙ uniform_block eq exact itself bits level f n c h q e)

  module _ (t : Layout V) where
    -- an upper extent that holds anything but the background has an entry
    pub rooted : (k : Coord) → IsTrue (is_inside (block_numbers bits Upper) k) → is_background eq (field_of bits t) (block bits Upper k) ≡ false → IsSome (root_at t.root k)
    rooted k inside h =
        let corner = (block bits Upper k).min in
        let number = number_of_corner bits Upper k in
        subst (λ (n : Coord). is_background eq (field_of bits t) (block bits Upper n) ≡ false → IsSome (root_at t.root n)) number
        ((has_needed eq exact itself bits configured t).entries corner (corner_in_range bits Upper configured k inside)) h

    -- a table has at least as many entries as there are upper extents that hold anything but the background
    pub roots_within : roots eq bits (field_of bits t) ≤ length t.root
    roots_within =
        subst (λ n. roots eq bits (field_of bits t) ≤ n) (length-keys_of t.root)
        (roots_at_most eq bits (field_of bits t) (keys_of t.root) (λ k inside h. key_member t k (rooted k inside h)))

    -- upper extents that hold anything but the background keep to the limit
    pub roots_limit : IsSound bits t → roots eq bits (field_of bits t) ≤ t.limit
    roots_limit sound = let a = roots_within in let b = sound.limit in omega (arith, a, b)

    module _ (p : Coord) (changed : Field V) (altered : IsAlteredIn bits (key bits p) (field_of bits t) changed) where
      -- in a field that differs from the tree's only in p's upper extent, the other upper extents stay
      altered_there : (k : Coord) → IsTrue (is_inside (block_numbers bits Upper) k) → k ≢ key bits p → (q : Coord) → block_number bits Upper q ≡ k → changed.cell q ≡ (field_of bits t).cell q
      altered_there k inside d q e =
          altered.elsewhere q (numbered_in_range bits Upper configured q (subst (λ (n : Coord). is_inside (block_numbers bits Upper) n ≡ true) (sym e) inside))
          (λ s. d (sym e ∙ s))

      -- a background extent of the changed field has the tree's background cells
      altered_cells : (k : Coord) → is_background eq changed (block bits Upper k) ≡ true → (q : Coord) → block_number bits Upper q ≡ k → changed.cell q ≡ background_cell t
      altered_cells k u q e =
          uniform_block eq exact itself bits Upper changed k (background_cell t)
          (subst (λ (v : V). is_uniform eq changed (block bits Upper k) (off v) ≡ true) altered.background u) q e

      -- an upper extent of the changed field that holds anything but the background has an entry or is p's
      altered_rooted : (k : Coord) → IsTrue (is_inside (block_numbers bits Upper) k) → is_background eq changed (block bits Upper k) ≡ false → k ≢ key bits p → IsSome (root_at t.root k)
      altered_rooted k within h d =
          rooted k within
          (not_true _
          (λ u.
          never h
          (subst (λ (v : V). is_uniform eq changed (block bits Upper k) (off v) ≡ true) (sym altered.background)
          (uniform_as Upper (field_of bits t) changed k (background_cell t) (altered_there k within d) u))))

      -- if p's upper extent has capacity, the changed field keeps to the limit
      pub altered_within : IsSound bits t → HasCapacity t (key bits p) → roots eq bits changed ≤ t.limit
      altered_within sound capacity =
          elim capacity [
            | inl held ↦
                let a = roots_at_most eq bits changed (keys_of t.root)
                (λ k within h. elim (coord_cases k (key bits p)) [
                  | inl e ↦ key_member t k (subst (λ (n : Coord). IsSome (root_at t.root n)) (sym e) held)
                  | inr d ↦ key_member t k (altered_rooted k within h d)
                ]) in
                omega (arith, a, length-keys_of t.root, sound.limit)
            | inr more ↦
                let a = roots_at_most eq bits changed (key bits p ∷ keys_of t.root)
                (λ k within h. elim (coord_cases k (key bits p)) [
                  | inl e ↦ or_first _ _ (subst (λ (n : Coord). coord_eq k n ≡ true) e (coord_equiv.refl k))
                  | inr d ↦ or_second _ _ (key_member t k (altered_rooted k within h d))
                ]) in
                omega (arith, a, length-keys_of t.root, more)
          ]

      -- if p's upper extent has no capacity and the table is swept, a changed field that differs exceeds the limit
      pub altered_exceeds : IsTrue (is_inside everywhere p) → IsSound bits t
          → ((q : Coord) (entry : Entry V) → root_at t.root (key bits q) ≡ Some entry → IsConstantBlock bits Upper t q (background_cell t) → ⊥)
          → root_at t.root (key bits p) ≡ None → length t.root ≡ t.limit → (AreSameCells (field_of bits t) changed → ⊥) → t.limit < roots eq bits changed
      altered_exceeds inside sound entries none full differs =
          let a = roots_at_least eq bits changed (key bits p ∷ keys_of t.root) (one_more (key bits p) (keys_of t.root) sound.apart (absent_key t (key bits p) none)) each in
          omega (arith, a, length-keys_of t.root, full)
        where
          -- p's extent was all background, and isn't now
          here : is_background eq changed (block bits Upper (key bits p)) ≡ false
          here = not_true _ (λ u. differs (λ q range. elim (coord_cases (key bits q) (key bits p)) [
            | inl e ↦ altered_cells (key bits p) u q e ∙ sym (cell_inside t.background (cell_at bits t) q range ∙ absent_block bits t p none q e)
            | inr d ↦ altered.elsewhere q range d
          ]))

          -- the extent of another key isn't all background, as before
          there : (k : Coord) → IsTrue (is_inside (block_numbers bits Upper) k) → k ≢ key bits p → IsSome (root_at t.root k) → is_background eq changed (block bits Upper k) ≡ false
          there k within d held = not_true _ (λ u.
              let corner = (block bits Upper k).min in
              let number : key bits corner ≡ k = number_of_corner bits Upper k in
              elim (some_or_none (root_at t.root (key bits corner))) [
                | inl entry ↦ entries corner entry.0 entry.1 (λ q e.
                    let at : key bits q ≡ k = e ∙ number in
                    let range : IsTrue (is_inside everywhere q) = numbered_in_range bits Upper configured q (subst (λ (n : Coord). is_inside (block_numbers bits Upper) n ≡ true) (sym at) within) in
                    sym (cell_inside t.background (cell_at bits t) q range) ∙ sym (altered_there k within d q at) ∙ altered_cells k u q at)
                | inr empty ↦ never (rw (← number, empty) refl) held
              ])

          each : (k : Coord) → is_member coord_eq (key bits p ∷ keys_of t.root) k ≡ true → IsTrue (is_inside (block_numbers bits Upper) k) × (is_background eq changed (block bits Upper k) ≡ false)
          each k m =
              elim (coord_cases k (key bits p)) [
                | inl e ↦ (
                  subst (λ (n : Coord). is_inside (block_numbers bits Upper) n ≡ true) (sym e) (number_in_range bits Upper p inside),
                  subst (λ (n : Coord). is_background eq changed (block bits Upper n) ≡ false) (sym e) here,
                )
                | inr d ↦ elim (or_cases (coord_eq k (key bits p)) (is_member coord_eq (keys_of t.root) k) m) [
                  | inl s ↦ absurd (d (coord_exact k (key bits p) s))
                  | inr s ↦
                      let held = member_entry t k s in
                      let within = sound.keys k held in
                      (within, there k within d held)
                ]
              ]
