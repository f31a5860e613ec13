-- Texts that determine their meaning, whatever follows them, and how such texts combine.
use Rattle.vdb_file.proofs.Common.{◌≡◌, ℕ, Bool, true, false, cond, List, [], ◌∷◌, ◌++◌, length, take, drop, refl, sym, ◌∙◌, append_assoc, append-nil, arith, AllByRecursion, flat_map}
use Rattle.std.proofs.Math.Seq.{drop-append_seam, take-append_seam}

-- if two texts begin one text, C holds, and what follows them is equal
pub record Says (left right : List ℕ) (C : Type 0) : Type 0 where
  pub same : (x y : List ℕ) → left ++ x ≡ right ++ y → C × (x ≡ y)

-- a code of the items that have P: its text determines the item
abbrev pub IsCode : {A : Type 0} → (A → Type 0) → (A → List ℕ) → Type 0
IsCode P code = (a b : _) → P a → P b → Says (code a) (code b) (a ≡ b)

-- if the text of one item begins the text of another, C holds and nothing is left over
pub says_whole : {C : Type 0} {p q : List ℕ} (bytes rest : List ℕ) → Says p q C → bytes ≡ p → bytes ++ rest ≡ q → C × (rest ≡ [])
says_whole {p = p} {q = q} bytes rest s e f = s.same rest [] ((λ j. sym e j ++ rest) ∙ f ∙ sym (append-nil q))

-- ---- single texts

-- C may be replaced by what follows from it
pub says_map : {C D : Type 0} {p q : List ℕ} → (C → D) → Says p q C → Says p q D
says_map f s = record { same = λ x y e. let r = s.same x y e in (f r.0, r.1) }

-- two texts of one length are equal
pub says_fixed : (p q : List ℕ) → length p ≡ length q → Says p q (p ≡ q)
says_fixed p q l = record {
  same = λ x y e.
      (sym (take-append_seam p x) ∙ (λ j. take (l j) (e j)) ∙ take-append_seam q y, sym (drop-append_seam p x) ∙ (λ j. drop (l j) (e j)) ∙ drop-append_seam q y);
}

-- a code determines its item if its texts have one length and no two are equal
pub says_apart : {A : Type 0} (P : A → Type 0) (code : A → List ℕ) → ((a b : A) → length (code a) ≡ length (code b)) → ((a b : A) → P a → P b → code a ≡ code b → a ≡ b) → IsCode P code
says_apart P code l exact a b pa pb = says_map (exact a b pa pb) (says_fixed (code a) (code b) (l a b))

-- a byte determines itself
pub says_byte : (a b : ℕ) → Says (a ∷ []) (b ∷ []) (a ≡ b)
says_byte a b = record { same = λ x y e. (cc, cc) }

-- one text never begins with two different bytes
pub says_never : {C : Type 0} (a b : ℕ) (r s : List ℕ) → (a ≡ b → ⊥) → Says (a ∷ r) (b ∷ s) C
says_never a b r s differ = record { same = λ x y e. let heads : a ≡ b = cc in absurd (differ heads) }

-- ---- texts one after another

-- the first text may help to understand the second
pub says_then : {C D : Type 0} {p q r s : List ℕ} → Says p q C → (C → Says r s D) → Says (p ++ r) (q ++ s) (C × D)
says_then {p = p} {q = q} {r = r} {s = s} first second = record {
  same = λ x y e.
      let a = first.same (r ++ x) (s ++ y) (sym (append_assoc p r x) ∙ e ∙ append_assoc q s y) in
      let b = (second a.0).same x y a.1 in
      ((a.0, b.0), b.1);
}

-- the first text only helps, as a count does
pub says_behind : {C D : Type 0} {p q r s : List ℕ} → Says p q C → (C → Says r s D) → Says (p ++ r) (q ++ s) D
says_behind first second = says_map (λ c. c.1) (says_then first second)

-- both texts begin with the same byte
pub says_after : {C : Type 0} {r s : List ℕ} (n : ℕ) → Says r s C → Says (n ∷ r) (n ∷ s) C
says_after {r = r} {s = s} n h = record { same = λ x y e. let tails : r ++ x ≡ s ++ y = cc in h.same x y tails }

-- ---- texts of lists and of two forms

-- as many items on both sides, each with its own text on either side: Q is what both sides then share
pub says_each : {A : Type 0} (P Q : A → Type 0) (left right : A → List ℕ) → ((a b : A) → P a → P b → Says (left a) (right b) ((a ≡ b) × Q a)) → (xs ys : List A) → length xs ≡ length ys
    → AllByRecursion P xs → AllByRecursion P ys → Says (flat_map left xs) (flat_map right ys) ((xs ≡ ys) × AllByRecursion Q xs)
says_each P Q left right one [] [] l ps qs = record { same = λ x y e. ((refl, tt), e) }
says_each P Q left right one [] (b ∷ ys) l ps qs = absurd (omega arith)
says_each P Q left right one (a ∷ xs) [] l ps qs = absurd (omega arith)
says_each P Q left right one (a ∷ xs) (b ∷ ys) l ps qs =
    says_map (λ r. ((λ j. r.0.0 j ∷ r.1.0 j), (r.0.1, r.1.1)))
    (says_then (one a b ps.0 qs.0) (λ _. says_each P Q left right one xs ys (omega arith) ps.1 qs.1))

-- the same for items with one code
pub says_all : {A : Type 0} (P : A → Type 0) (code : A → List ℕ) → IsCode P code → (xs ys : List A) → length xs ≡ length ys → AllByRecursion P xs → AllByRecursion P ys
    → Says (flat_map code xs) (flat_map code ys) (xs ≡ ys)
says_all P code is xs ys l ps qs = says_map (λ r. r.0) (says_each P (λ _. Unit {0}) code code (λ a b p q. says_map (λ e. (e, tt)) (is a b p q)) xs ys l ps qs)

-- two forms, told apart by what each says against the other
pub says_cases : {C : Type 0} (s t : Bool) (a b c d : List ℕ) → (s ≡ true → t ≡ true → Says a b C) → (s ≡ true → t ≡ false → Says a d C) → (s ≡ false → t ≡ true → Says c b C) → (s ≡ false → t ≡ false → Says c d C)
    → Says (cond s a c) (cond t b d) C
says_cases true true a b c d both first second none = both refl refl
says_cases true false a b c d both first second none = first refl refl
says_cases false true a b c d both first second none = second refl refl
says_cases false false a b c d both first second none = none refl refl
