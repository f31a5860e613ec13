-- Rows: keys in strict order, each with a box and a code. A row lists the keys whose box holds anything but the background of a field.
use Rattle.vdb_file.proofs.Common.{◌≡◌, ℕ, Bool, true, false, not, List, [], ◌∷◌, ◌++◌, refl, sym, ap, subst, ◌∙◌, append-nil, inl, inr, Some, None, AllByRecursion, Contains, filter, flat_map, IsStrictlySortedBy-filter, IsTotalOrder, Ordering, Less, cases_Bool, flat_map-append, not_true, Box, is_inside, Coord, is_background, Field, Follows, HasValues}
use Rattle.std.specs.List.Sorted.{IsStrictlySortedBy}
use Rattle.vdb_file.proofs.Unambiguous.{IsCode, Says}
use Rattle.vdb_file.proofs.Agreement.{Agree, AreAlike, AreValues, is_held}
use Rattle.vdb_file.proofs.Kept.{all_kept, at_kept}
use Rattle.vdb_file.proofs.Ordered.{at_member, by_member, last_of, not_before, one_kept_more}
use Rattle.vdb_file.proofs.RowFrames.{background_same, filter_same}

-- the keys of a row in their order, the box and the code of each, and the text of a field in a box
pub record Row (V K : Type 0) : Type 0 where
  pub keys : List K
  pub cmp : K → K → Ordering
  pub box : K → Box
  pub code : K → List ℕ
  pub body : Field V → Box → List ℕ

-- a key, and then one text
abbrev pub behind_key : {V K : Type 0} → Row V K → Field V → K → List ℕ
behind_key row f k = row.code k ++ row.body f (row.box k)

module _ {V K : Type 0} (eq : V → V → Bool) (row : Row V K) where
  -- the keys that the row lists
  abbrev pub held : Field V → List K
  held f = filter (is_held eq row.box f) row.keys

  -- the text of each listed key, after the key
  abbrev pub texts : Field V → List ℕ
  texts f = flat_map (behind_key row f) (held f)

-- keys in order, with codes that tell them apart and with disjoint boxes; a text depends on the cells of its box alone and determines
-- them
pub record IsRow {V K : Type 0} (P : V → Type 0) (Q : K → Type 0) (row : Row V K) : Type 0 where
  pub total : IsTotalOrder row.cmp
  pub sorted : IsStrictlySortedBy row.cmp row.keys
  pub fits : (k : K) → Contains row.keys k → Q k
  pub is_code : IsCode Q row.code
  pub apart : (k l : K) (p : Coord) → Contains row.keys k → Contains row.keys l → is_inside (row.box k) p ≡ true → is_inside (row.box l) p ≡ true → k ≡ l
  pub same : (f g : Field V) (k : K) → Contains row.keys k → f.background ≡ g.background → Agree f g (row.box k) → row.body f (row.box k) ≡ row.body g (row.box k)
  pub says : (f g : Field V) → AreAlike P f g → (k : K) → Contains row.keys k → Says (row.body f (row.box k)) (row.body g (row.box k)) (Agree f g (row.box k))

-- two such fields are alike
pub are_alike : {V : Type 0} {P : V → Type 0} {background : V} {f g : Field V} → HasValues P background f → HasValues P background g → AreAlike P f g
are_alike hf hg = record { background = hf.same ∙ sym hg.same; left = hf.values; right = hg.values }

-- the new field holds anything but the background in the box of a key, and is the old one in the boxes of the others
pub record Adds {V K : Type 0} (eq : V → V → Bool) (row : Row V K) (old new : Field V) (k : K) : Type 0 where
  pub background : old.background ≡ new.background
  pub others : (l : K) → Contains row.keys l → (l ≡ k → ⊥) → Agree old new (row.box l)
  pub held : is_background eq new (row.box k) ≡ false

-- if the fields agree outside the key's box, they agree in the boxes of all other keys
pub adds_outside : {V K : Type 0} {eq : V → V → Bool} {P : V → Type 0} {Q : K → Type 0} {row : Row V K} (is : IsRow P Q row) (old new : Field V) (k : K) → Contains row.keys k → old.background ≡ new.background
    → ((p : Coord) → is_inside (row.box k) p ≡ false → old.cell p ≡ new.cell p) → is_background eq new (row.box k) ≡ false → Adds eq row old new k
adds_outside {row = row} is old new k member e outside h = record {
  background = e;
  others = λ l m differs. record {
    same = λ p inside. elim (cases_Bool (is_inside (row.box k) p)) [
      | inl here ↦ absurd (differs (is.apart l k p m member inside here))
      | inr out ↦ outside p out
    ];
  };
  held = h;
}

-- the texts of some keys are the same if the fields agree in their boxes
pub texts_of_same : {V K : Type 0} {P : V → Type 0} {Q : K → Type 0} {row : Row V K} (is : IsRow P Q row) (f g : Field V) → f.background ≡ g.background → (ks : List K) → AllByRecursion (λ k. Contains row.keys k × Agree f g (row.box k)) ks
    → flat_map (behind_key row f) ks ≡ flat_map (behind_key row g) ks
texts_of_same is f g e [] all = refl
texts_of_same {row = row} is f g e (k ∷ ks) all =
    let here = is.same f g k all.0.0 e all.0.1 in
    let rest = texts_of_same is f g e ks all.1 in
    λ j. (row.code k ++ here j) ++ rest j

-- if a key follows the last member of a sorted list that isn't empty, each member comes before it
each_before : {K : Type 0} {cmp : K → K → Ordering} (total : IsTotalOrder cmp) (k x : K) (xs : List K) → IsStrictlySortedBy cmp (x ∷ xs) → Follows cmp (last_of (Some x) xs) k → AllByRecursion (λ l. cmp l k ≡ Less) (x ∷ xs)
unfolding IsStrictlySortedBy
each_before total k x [] s f = (f, tt)
each_before total k x (y ∷ ys) s f = let r = each_before total k y ys s.1 f in (total.trans x y k s.0.0 r.0, r)

-- if a key follows the last member of a sorted list, each member comes before it
pub all_before : {K : Type 0} {cmp : K → K → Ordering} (total : IsTotalOrder cmp) (k : K) (xs : List K) → IsStrictlySortedBy cmp xs → Follows cmp (last_of None xs) k → AllByRecursion (λ l. cmp l k ≡ Less) xs
all_before total k [] s f = tt
all_before total k (x ∷ xs) s f = each_before total k x xs s f

-- the listed keys are some of all keys
pub held_members : {V K : Type 0} (eq : V → V → Bool) (row : Row V K) (f : Field V) → AllByRecursion (Contains row.keys) (held eq row f)
held_members eq row f = all_kept (Contains row.keys) (is_held eq row.box f) row.keys (by_member (Contains row.keys) row.keys (λ k member. member))

module _ {V K : Type 0} {eq : V → V → Bool} {value_bytes : V → List ℕ} {P : V → Type 0} {Q : K → Type 0} {row : Row V K} (values : AreValues eq value_bytes P) (is : IsRow P Q row) where
  -- if the fields agree in all boxes, the same keys are listed with the same texts
  module _ (f g : Field V) (e : f.background ≡ g.background) (agree : (k : K) → Contains row.keys k → Agree f g (row.box k)) where
    pub held_same : held eq row f ≡ held eq row g
    held_same =
        filter_same (is_held eq row.box f) (is_held eq row.box g) row.keys
        (by_member (λ k. is_held eq row.box f k ≡ is_held eq row.box g k) row.keys (λ k member. ap not (background_same values f g e (row.box k) (agree k member))))

    -- and all texts are the same
    pub texts_same : texts eq row f ≡ texts eq row g
    texts_same =
        texts_of_same is f g e (held eq row f)
        (all_kept (λ k. Contains row.keys k × Agree f g (row.box k)) (is_held eq row.box f) row.keys (by_member (λ k. Contains row.keys k × Agree f g (row.box k)) row.keys (λ k member. (member, agree k member))))
        ∙ ap (flat_map (behind_key row g)) held_same

  module _ (old new : Field V) (k : K) (member : Contains row.keys k) (follows : Follows row.cmp (last_of None (held eq row old)) k) (adds : Adds eq row old new k) where
    -- all listed keys come before the new key
    before : AllByRecursion (λ l. row.cmp l k ≡ Less) (held eq row old)
    before = all_before is.total k (held eq row old) (IsStrictlySortedBy-filter row.cmp (is_held eq row.box old) row.keys is.sorted) follows

    -- each listed key comes before the new key
    held_before : (l : K) → Contains row.keys l → is_held eq row.box old l ≡ true → row.cmp l k ≡ Less
    held_before l m h = at_kept (λ l. row.cmp l k ≡ Less) (is_held eq row.box old) row.keys before l m h

    -- one more key past all others is listed
    pub held_more : held eq row new ≡ held eq row old ++ k ∷ []
    held_more =
        one_kept_more is.total (is_held eq row.box old) (is_held eq row.box new) k row.keys is.sorted member.0 member.1 member.2
        (λ l m differs. ap not (sym (background_same values old new adds.background (row.box l) (adds.others l m differs))))
        (ap not adds.held)
        (not_true (is_held eq row.box old k) (λ h. not_before is.total k (held_before k member h)))
        (λ l m less. not_true (is_held eq row.box old l) (λ h. not_before is.total k (is.total.trans k l k less (held_before l m h))))

    -- the fields agree in their boxes
    others_same : AllByRecursion (λ l. Contains row.keys l × Agree old new (row.box l)) (held eq row old)
    others_same =
        by_member (λ l. Contains row.keys l × Agree old new (row.box l)) (held eq row old)
        (λ l m. let within = at_member (Contains row.keys) (held eq row old) l (held_members eq row old) m in
        let less = at_member (λ l. row.cmp l k ≡ Less) (held eq row old) l before m in
        (within, adds.others l within (λ e. not_before is.total k (subst (λ x. row.cmp x k ≡ Less) e less))))

    -- the new key's text comes last
    pub texts_more : texts eq row new ≡ texts eq row old ++ behind_key row new k
    texts_more =
        ap (flat_map (behind_key row new)) held_more
        ∙ flat_map-append (behind_key row new) (held eq row old) (k ∷ [])
        ∙ ap (λ l. flat_map (behind_key row new) (held eq row old) ++ l) (append-nil (behind_key row new k))
        ∙ ap (λ l. l ++ behind_key row new k) (sym (texts_of_same is old new adds.background (held eq row old) others_same))
