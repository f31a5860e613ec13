-- The bytes of values, cells, heads and numbers determine them.
use Rattle.vdb_file.proofs.Common.{◌≡◌, ℕ, ◌<◌, ◌≤◌, ◌^◌, Bool, true, false, List, [], ◌∷◌, ◌++◌, refl, sym, ap, subst, ◌∙◌, arith, append-nil, if◌then◌else◌, IsTrue, ⊤, w16, to_be_bytes, are_bytes_of, Cell, Kind, off, cell_same, cell_bytes, LoadFault, Head, Node, IsHead, IsSpelled, Fails, Position, Took}
use Rattle.vdb_file.specs.declared.loading.block_head.Head.TheVariants.{One}
use Rattle.vdb_file.specs.internal.Loading.{head_bytes}
use Rattle.vdb_file.proofs.Unambiguous.{IsCode, Says, says_after, says_map, says_never}
use Rattle.vdb_file.proofs.Agreement.{AreValues, says_cell}
use Rattle.vdb_file.proofs.Numbers.{says_u16}
use Rattle.vdb_file.proofs.ValueCodes.{value_code}
use Rattle.vdb_file.proofs.Fronts.{fails_after, fails_none, fails_turn}

-- ---- values

-- values of one type, told apart by their bytes and by a test
pub voxel_values : {V : Type 0} (eq : V → V → Bool) (value_bytes : V → List ℕ) (is_value : V → Type 0) (kind : Kind) → ((x y : V) → eq x y ≡ true → x ≡ y) → ((x : V) → eq x x ≡ true)
    → ((x : V) → is_value x → IsTrue (are_bytes_of kind (value_bytes x))) → ((x y : V) → is_value x → is_value y → value_bytes x ≡ value_bytes y → x ≡ y) → AreValues eq value_bytes is_value
voxel_values eq value_bytes is_value kind exact itself known bytes_exact = record {
  exact = exact;
  itself = itself;
  code = value_code value_bytes is_value kind known bytes_exact;
}

module _ {V : Type 0} {eq : V → V → Bool} {value_bytes : V → List ℕ} {P : V → Type 0} (values : AreValues eq value_bytes P) (background : V) where
  -- an inactive cell of the background's value was read
  pub no_state : (on : Bool) (value : V) → on ≡ false → eq value background ≡ true → P value → (old mid : Position) → Took old mid (value_bytes value)
      → (fault : LoadFault) → Fails (λ (c : Cell V). IsSpelled eq P background c × (c.on ≡ on)) (λ c. value_bytes c.value) fault old
  no_state on value is_off same pv old mid took fault =
      fails_after (λ (c : Cell V). IsSpelled eq P background c × (c.on ≡ on)) (λ c. value_bytes c.value) (value_bytes value) (λ c. value ≡ c.value) (λ c. value_bytes c.value) (λ c. []) fault old mid took
      (λ c p. values.code value c.value pv p.0.value) (λ c p. sym (append-nil (value_bytes c.value)))
      (fails_none (λ (c : Cell V). (IsSpelled eq P background c × (c.on ≡ on)) × (value ≡ c.value)) (λ c. []) fault mid
      (λ c p.
      let is : c ≡ off background = λ j. record { value = (sym p.1 ∙ values.exact value background same) j; on = (p.0.1 ∙ is_off) j } in
      let never : true ≡ false = sym (cell_same eq values.exact values.itself c (off background) is) ∙ p.0.0.other in cc))

  -- ---- cells and heads

  -- the first byte of a cell
  abbrev tag : Bool → ℕ
  tag on = if on then 2 else 1

  -- the tag was read, and no value is ahead
  pub no_cell : (on : Bool) (fault : LoadFault) (old mid : Position) → Took old mid (tag on ∷ []) → Fails (λ (c : Cell V). IsSpelled eq P background c × (c.on ≡ on)) (λ c. value_bytes c.value) fault mid
      → Fails (IsSpelled eq P background) (cell_bytes eq value_bytes) fault old
  no_cell on fault old mid took h =
      fails_after (IsSpelled eq P background) (cell_bytes eq value_bytes) (tag on ∷ []) (λ c. on ≡ c.on) (λ c. tag c.on ∷ []) (λ c. value_bytes c.value) fault old mid took
      (λ c p. says_state on c.on) (λ c p. refl)
      (fails_turn (λ c. IsSpelled eq P background c × (on ≡ c.on)) (λ c. value_bytes c.value) (λ (c : Cell V). IsSpelled eq P background c × (c.on ≡ on)) (λ c. value_bytes c.value) (λ c. c) fault mid
      (λ c p. (p.0, sym p.1)) (λ c p. refl) h)
    where
      says_state : (s t : Bool) → Says (tag s ∷ []) (tag t ∷ []) (s ≡ t)
      says_state true true = record { same = λ x y e. (refl, cc) }
      says_state false false = record { same = λ x y e. (refl, cc) }
      says_state true false = record { same = λ x y e. cc }
      says_state false true = record { same = λ x y e. cc }

  -- the byte was no tag of a cell
  pub no_tag : (n : ℕ) → (n ≡ 1 → ⊥) → (n ≡ 2 → ⊥) → (fault : LoadFault) (old mid : Position) → Took old mid (n ∷ []) → Fails (IsSpelled eq P background) (cell_bytes eq value_bytes) fault old
  no_tag n one two fault old mid took =
      fails_after (IsSpelled eq P background) (cell_bytes eq value_bytes) (n ∷ []) (λ c. ⊥) (λ c. tag c.on ∷ []) (λ c. value_bytes c.value) fault old mid took
      (λ c p. says_never n (tag c.on) [] [] (apart c.on)) (λ c p. refl)
      (fails_none (λ c. IsSpelled eq P background c × ⊥) (λ c. value_bytes c.value) fault mid (λ c p. p.1))
    where
      apart : (on : Bool) → n ≡ tag on → ⊥
      apart true e = two e
      apart false e = one e

  module _ (most : ℕ) where
    -- the tag of one cell was read, and no value is ahead
    pub no_one : (on : Bool) (fault : LoadFault) (old mid : Position) → Took old mid (tag on ∷ []) → Fails (λ (c : Cell V). IsSpelled eq P background c × (c.on ≡ on)) (λ c. value_bytes c.value) fault mid
        → Fails (IsHead eq P background most) (head_bytes eq value_bytes) fault old
    no_one on fault old mid took h =
        fails_after (IsHead eq P background most) (head_bytes eq value_bytes) (tag on ∷ []) (has on) (front on) (behind on) fault old mid took (says on) (split on)
        (fails_turn (λ x. IsHead eq P background most x × has on x) (behind on) (λ (c : Cell V). IsSpelled eq P background c × (c.on ≡ on)) (λ c. value_bytes c.value) cell fault mid (spelled on) (same on) h)
      where
        cell : Head V → Cell V
        cell (One c) = c
        cell (Node n) = off background

        has : Bool → Head V → Type 0
        has on (One c) = c.on ≡ on
        has on (Node n) = ⊥

        front : Bool → Head V → List ℕ
        front on (One c) = tag c.on ∷ []
        front on (Node n) = 3 ∷ []

        behind : Bool → Head V → List ℕ
        behind on (One c) = value_bytes c.value
        behind on (Node n) = to_be_bytes w16 n

        says_state : (s t : Bool) → Says (tag s ∷ []) (tag t ∷ []) (t ≡ s)
        says_state true true = record { same = λ x y e. (refl, cc) }
        says_state false false = record { same = λ x y e. (refl, cc) }
        says_state true false = record { same = λ x y e. cc }
        says_state false true = record { same = λ x y e. cc }

        no_three : (s : Bool) → tag s ≡ 3 → ⊥
        no_three true e = cc
        no_three false e = cc

        says : (on : Bool) (x : Head V) → IsHead eq P background most x → Says (tag on ∷ []) (front on x) (has on x)
        says on (One c) p = says_state on c.on
        says on (Node n) p = says_never (tag on) 3 [] [] (no_three on)

        split : (on : Bool) (x : Head V) → IsHead eq P background most x → head_bytes eq value_bytes x ≡ front on x ++ behind on x
        split on (One c) p = refl
        split on (Node n) p = refl

        spelled : (on : Bool) (x : Head V) → IsHead eq P background most x × has on x → IsSpelled eq P background (cell x) × ((cell x).on ≡ on)
        spelled on (One c) p = (p.0, p.1)
        spelled on (Node n) p = absurd p.1

        same : (on : Bool) (x : Head V) → IsHead eq P background most x × has on x → behind on x ≡ value_bytes (cell x).value
        same on (One c) p = refl
        same on (Node n) p = absurd p.1

    -- the tag of a node was read, and no count is ahead
    pub no_node : (fault : LoadFault) (old mid : Position) → Took old mid (3 ∷ []) → Fails (λ n. (1 ≤ n) × (n ≤ most)) (to_be_bytes w16) fault mid → Fails (IsHead eq P background most) (head_bytes eq value_bytes) fault old
    no_node fault old mid took h =
        fails_after (IsHead eq P background most) (head_bytes eq value_bytes) (3 ∷ []) has front behind fault old mid took says split
        (fails_turn (λ x. IsHead eq P background most x × has x) behind (λ n. (1 ≤ n) × (n ≤ most)) (to_be_bytes w16) count fault mid counted same h)
      where
        count : Head V → ℕ
        count (One c) = 0
        count (Node n) = n

        has : Head V → Type 0
        has (One c) = ⊥
        has (Node n) = ⊤

        front : Head V → List ℕ
        front (One c) = tag c.on ∷ []
        front (Node n) = 3 ∷ []

        behind : Head V → List ℕ
        behind (One c) = value_bytes c.value
        behind (Node n) = to_be_bytes w16 n

        no_three : (s : Bool) → 3 ≡ tag s → ⊥
        no_three true e = cc
        no_three false e = cc

        says : (x : Head V) → IsHead eq P background most x → Says (3 ∷ []) (front x) (has x)
        says (One c) p = says_never 3 (tag c.on) [] [] (no_three c.on)
        says (Node n) p = record { same = λ x y e. (tt, cc) }

        split : (x : Head V) → IsHead eq P background most x → head_bytes eq value_bytes x ≡ front x ++ behind x
        split (One c) p = refl
        split (Node n) p = refl

        counted : (x : Head V) → IsHead eq P background most x × has x → (1 ≤ count x) × (count x ≤ most)
        counted (One c) p = absurd p.1
        counted (Node n) p = p.0

        same : (x : Head V) → IsHead eq P background most x × has x → behind x ≡ to_be_bytes w16 (count x)
        same (One c) p = absurd p.1
        same (Node n) p = refl

    -- the bytes of a head determine it
    pub says_head : most < 2 ^ 16 → IsCode (IsHead eq P background most) (head_bytes eq value_bytes)
    says_head few (One c) (One d) pc pd = says_map (ap One) (says_cell values c d pc.value pd.value)
    says_head few (Node m) (Node n) pm pn = says_after 3 (says_map (ap Node) (says_u16 m n (let h = pm.1 in omega (arith, h, few)) (let h = pn.1 in omega (arith, h, few))))
    says_head few (One c) (Node n) pc pn = says_never (tag c.on) 3 (value_bytes c.value) (to_be_bytes w16 n) (no_three c.on)
      where
        no_three : (s : Bool) → tag s ≡ 3 → ⊥
        no_three true e = cc
        no_three false e = cc
    says_head few (Node m) (One d) pm pd = says_never 3 (tag d.on) (to_be_bytes w16 m) (value_bytes d.value) (no_three d.on)
      where
        no_three : (s : Bool) → 3 ≡ tag s → ⊥
        no_three true e = cc
        no_three false e = cc

-- ---- numbers

-- a number was read that doesn't have P
pub no_number : (P : ℕ → Type 0) (fault : LoadFault) (old mid : Position) (n : ℕ) → n < 2 ^ 16 → Took old mid (to_be_bytes w16 n) → ((m : ℕ) → P m → m < 2 ^ 16) → (P n → ⊥) → Fails P (to_be_bytes w16) fault old
no_number P fault old mid n small took few none =
    fails_after P (to_be_bytes w16) (to_be_bytes w16 n) (λ m. n ≡ m) (to_be_bytes w16) (λ m. []) fault old mid took (λ m p. says_u16 n m small (few m p)) (λ m p. sym (append-nil (to_be_bytes w16 m)))
    (fails_none (λ m. P m × (n ≡ m)) (λ m. []) fault mid (λ m p. none (subst P (sym p.1) p.0)))

-- no number is ahead
pub no_u16 : (P : ℕ → Type 0) (fault : LoadFault) (old : Position) → ((m : ℕ) → P m → m < 2 ^ 16) → Fails (λ n. n < 2 ^ 16) (to_be_bytes w16) fault old → Fails P (to_be_bytes w16) fault old
no_u16 P fault old few h = fails_turn P (to_be_bytes w16) (λ n. n < 2 ^ 16) (to_be_bytes w16) (λ n. n) fault old few (λ n p. refl) h
