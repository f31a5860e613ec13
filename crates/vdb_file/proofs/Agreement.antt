-- When the cells of two fields are the same in a box.
use Rattle.vdb_file.proofs.Common.{◌≡◌, ℕ, Bool, true, false, not, List, [], ◌∷◌, ◌++◌, length, refl, sym, ap, subst, ◌∙◌, inl, inr, if◌then◌else◌, AllByRecursion, Contains, filter, flat_map, cases_Bool, Box, is_inside, Coord, Cell, is_background, is_uniform, Field, off, uniform_cells, cell_bytes}
use Rattle.std.proofs.Math.Bool.{not-not}
use Rattle.vdb_file.proofs.Unambiguous.{IsCode, Says, says_behind, says_byte, says_each, says_map, says_then}
use Rattle.vdb_file.proofs.Kept.{all_kept, at_kept, same_tests}

-- values that a test tells apart, and their bytes if they have P
pub record AreValues {V : Type 0} (eq : V → V → Bool) (value_bytes : V → List ℕ) (P : V → Type 0) : Type 0 where
  pub exact : (x y : V) → eq x y ≡ true → x ≡ y
  pub itself : (x : V) → eq x x ≡ true
  pub code : IsCode P value_bytes

-- two fields with one background whose values have P
pub record AreAlike {V : Type 0} (P : V → Type 0) (f g : Field V) : Type 0 where
  pub background : f.background ≡ g.background
  pub left : (p : Coord) → P (f.cell p).value
  pub right : (p : Coord) → P (g.cell p).value

-- both have the same cells in a box
pub record Agree {V : Type 0} (f g : Field V) (b : Box) : Type 0 where
  pub same : (p : Coord) → is_inside b p ≡ true → f.cell p ≡ g.cell p

-- ---- cells

-- the tags of the two states differ
state_exact : (s t : Bool) → ◌≡◌ {A = ℕ} (if s then 2 else 1) (if t then 2 else 1) → s ≡ t
state_exact true true e = refl
state_exact false false e = refl
state_exact s t e = cc

-- the tag of a cell determines its state
pub says_state : (s t : Bool) → Says ((if s then 2 else 1) ∷ []) ((if t then 2 else 1) ∷ []) (s ≡ t)
says_state s t = says_map (state_exact s t) (says_byte (if s then 2 else 1) (if t then 2 else 1))

module _ {V : Type 0} {eq : V → V → Bool} {value_bytes : V → List ℕ} {P : V → Type 0} (values : AreValues eq value_bytes P) where
  -- the bytes of a cell determine it
  pub says_cell : IsCode (λ (c : Cell V). P c.value) (cell_bytes eq value_bytes)
  says_cell c d pc pd = says_map (λ r. λ j. record { value = r.1 j; on = r.0 j }) (says_then (says_state c.on d.on) (λ _. values.code c.value d.value pc pd))

  -- two boxes with the same one cell
  pub both_uniform : (f g : Field V) (b : Box) (c d : Cell V) → c ≡ d → is_uniform eq f b c ≡ true → is_uniform eq g b d ≡ true → Agree f g b
  both_uniform f g b c d e of_c of_d = record {
    same = λ p inside. uniform_cells eq values.exact values.itself f b c of_c p inside ∙ e ∙ sym (uniform_cells eq values.exact values.itself g b d of_d p inside);
  }

-- ---- boxes, listed if they hold anything but the background

-- whether the box of a number is listed
abbrev pub is_held : {V K : Type 0} → (V → V → Bool) → (K → Box) → Field V → K → Bool
is_held eq box f k = not (is_background eq f (box k))

-- a test whose negation fails passes
not_false : (b : Bool) → not b ≡ false → b ≡ true
not_false b e = sym (not-not b) ∙ ap not e

-- each box has a number with a code, and on either side a text that determines its cells
module _ {V K : Type 0} {eq : V → V → Bool} {value_bytes : V → List ℕ} {P : V → Type 0} (values : AreValues eq value_bytes P) (f g : Field V) (alike : AreAlike P f g) (box : K → Box) (Q : K → Type 0) (code : K → List ℕ) (is_code : IsCode Q code)
    (left right : Box → List ℕ) (each : (k : K) → Q k → Says (left (box k)) (right (box k)) (Agree f g (box k))) where
  -- the text of one box, after its number
  pub says_one : (k l : K) → Q k → Q l → Says (code k ++ left (box k)) (code l ++ right (box l)) ((k ≡ l) × Agree f g (box k))
  says_one k l qk ql = says_then (is_code k l qk ql) (λ e. subst (λ t. Says (left (box k)) (right (box t)) (Agree f g (box k))) e (each k qk))

  -- boxes that are listed on neither side are background on both
  agree_each : (ks : List K) → filter (is_held eq box f) ks ≡ filter (is_held eq box g) ks → AllByRecursion (λ k. Agree f g (box k)) (filter (is_held eq box f) ks) → (k : K) → Contains ks k → Agree f g (box k)
  agree_each ks e all k member =
      let same : is_held eq box f k ≡ is_held eq box g k = same_tests (is_held eq box f) (is_held eq box g) ks e k member in
      elim (cases_Bool (is_held eq box f k)) [
        | inl held ↦ at_kept (λ k. Agree f g (box k)) (is_held eq box f) ks all k member held
        | inr none ↦
            both_uniform values f g (box k) (off f.background) (off g.background) (ap off alike.background) (not_false (is_background eq f (box k)) none) (not_false (is_background eq g (box k)) (sym same ∙ none))
      ]

  -- the count of the listed boxes, and then their texts, each after its number
  pub says_listed : {m n : List ℕ} (ks : List K) → AllByRecursion Q ks → Says m n (length (filter (is_held eq box f) ks) ≡ length (filter (is_held eq box g) ks))
      → Says (m ++ flat_map (λ k. code k ++ left (box k)) (filter (is_held eq box f) ks)) (n ++ flat_map (λ k. code k ++ right (box k)) (filter (is_held eq box g) ks)) ((k : K) → Contains ks k → Agree f g (box k))
  says_listed ks qs count =
      says_map (λ r. agree_each ks r.0 r.1)
      (says_behind count (λ l. says_each Q (λ k. Agree f g (box k)) (λ k. code k ++ left (box k)) (λ k. code k ++ right (box k)) says_one (filter (is_held eq box f) ks) (filter (is_held eq box g) ks) l
      (all_kept Q (is_held eq box f) ks qs) (all_kept Q (is_held eq box g) ks qs)))
