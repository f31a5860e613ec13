-- Lists of coordinates in block order: the first that passes a test, and those past it.
use Rattle.vdb_walk.proofs.Common.{◌≡◌, ◌⊎◌, inl, inr, sym, ap, ◌∙◌, refl, subst, Bool, true, false, ◌&&◌, ◌||◌, List, [], ◌∷◌, IsTrue, ◌↔◌, Option, Some, None, IfSome, is_some, option_map, find, is_member, is_lt, Ordering, Less, Equal, Greater, block_cmp, is_past, Box, coord_eq, coordinates, is_inside, Bits, Coord, and_true, both, member_passing, coord_exact, block_total, or_cases, or_first, or_second, Field, IsActivePast, IsFirst, active, past}
use Rattle.std.specs.Prelude.{⊤, ◌≢◌, map, filter, fold}
use Rattle.std.specs.BTreeSet.{insert_key}
use Rattle.std.specs.Ordering.{ordering_reverse}
use Rattle.vdb_coord.proofs.Nesting.{block_exact}
use Rattle.vdb_tree.proofs.Levels.{like_coords}
use Rattle.vdb_walk.specs.Reports.{in_block_order}
use Rattle.vdb_walk.proofs.Firsts.{comes_on, never_back, never_itself}

false_true : false ≡ true → ⊥
false_true e = cc

same_some : {A : Type 0} (x y : A) → ◌≡◌ {A = Option A} (Some x) (Some y) → x ≡ y
same_some x y e = cc

or_same : (a m : Bool) → (a || m) ≡ (a || (a || m))
or_same true m = refl
or_same false m = refl

or_swap : (a b m : Bool) → (a || (b || m)) ≡ (b || (a || m))
or_swap true true m = refl
or_swap true false m = refl
or_swap false b m = refl

or_none : (a : Bool) → (a || false) ≡ a
or_none true = refl
or_none false = refl

module _ (bits : Bits) where
  -- k comes before each of the others
  abbrev pub Below : Coord → List Coord → Type 0
  Below k [] = ⊤
  Below k (x ∷ xs) = (is_lt (block_cmp bits k x) ≡ true) × Below k xs

  -- each coordinate comes before those after it
  abbrev pub Rises : List Coord → Type 0
  Rises [] = ⊤
  Rises (k ∷ ks) = Below k ks × Rises ks

  below_on : (k x : Coord) (xs : List Coord) → is_lt (block_cmp bits k x) ≡ true → Below x xs → Below k xs
  below_on k x [] h b = tt
  below_on k x (y ∷ ys) h b = (comes_on bits k x y h b.0, below_on k x ys h b.1)

  below_member : (k q : Coord) (ks : List Coord) → Below k ks → is_member coord_eq ks q ≡ true → is_lt (block_cmp bits k q) ≡ true
  below_member k q [] b m = cc
  below_member k q (x ∷ xs) b m =
      elim (or_cases (coord_eq q x) (is_member coord_eq xs q) m) [
        | inl e ↦ subst (λ (c : Coord). is_lt (block_cmp bits k c) ≡ true) (sym (coord_exact q x e)) b.0
        | inr l ↦ below_member k q xs b.1 l
      ]

  -- ---- one more

  turned : (k x : Coord) → block_cmp bits k x ≡ Greater → is_lt (block_cmp bits x k) ≡ true
  turned k x e = ap is_lt ((block_total bits).antisymm x k ∙ ap ordering_reverse e)

  below_insert : (x k : Coord) (ks : List Coord) → Below x ks → is_lt (block_cmp bits x k) ≡ true → Below x (insert_key (block_cmp bits) ks k)
  below_insert x k [] b h = (h, tt)
  below_insert x k (y ∷ ys) b h = by (block_cmp bits k y) refl (below_insert x k ys b.1 h)
    where
      by : (o : Ordering) → block_cmp bits k y ≡ o → Below x (insert_key (block_cmp bits) ys k) → Below x (insert_key (block_cmp bits) (y ∷ ys) k)
      by Less e l = rw e (h, b)
      by Equal e l = rw e b
      by Greater e l = rw e (b.0, l)

  rises_insert : (k : Coord) (ks : List Coord) → Rises ks → Rises (insert_key (block_cmp bits) ks k)
  rises_insert k [] r = (tt, tt)
  rises_insert k (y ∷ ys) r = by (block_cmp bits k y) refl (rises_insert k ys r.1)
    where
      by : (o : Ordering) → block_cmp bits k y ≡ o → Rises (insert_key (block_cmp bits) ys k) → Rises (insert_key (block_cmp bits) (y ∷ ys) k)
      by Less e l = let h = ap is_lt e in let b = below_on k y ys h r.0 in rw e ((h, b), r)
      by Equal e l = rw e r
      by Greater e l = rw e (below_insert y k ys r.0 (turned k y e), l)

  member_insert : (q k : Coord) (ks : List Coord) → is_member coord_eq (insert_key (block_cmp bits) ks k) q ≡ (coord_eq q k || is_member coord_eq ks q)
  member_insert q k [] = refl
  member_insert q k (y ∷ ys) = by (block_cmp bits k y) refl (member_insert q k ys)
    where
      by : (o : Ordering) → block_cmp bits k y ≡ o → is_member coord_eq (insert_key (block_cmp bits) ys k) q ≡ (coord_eq q k || is_member coord_eq ys q)
          → is_member coord_eq (insert_key (block_cmp bits) (y ∷ ys) k) q ≡ (coord_eq q k || (coord_eq q y || is_member coord_eq ys q))
      by Less e l = rw e refl
      by Equal e l = rw e (subst (λ (c : Coord). (coord_eq q y || is_member coord_eq ys q) ≡ (coord_eq q c || (coord_eq q y || is_member coord_eq ys q))) (sym (block_exact bits k y e)) (or_same (coord_eq q y) (is_member coord_eq ys q)))
      by Greater e l = rw e (ap (λ m. coord_eq q y || m) l ∙ or_swap (coord_eq q y) (coord_eq q k) (is_member coord_eq ys q))

  -- ---- all of them

  rises_all : (ps ks : List Coord) → Rises ks → Rises (fold (insert_key (block_cmp bits)) ks ps)
  rises_all [] ks r = r
  rises_all (p ∷ ps) ks r = rises_all ps (insert_key (block_cmp bits) ks p) (rises_insert p ks r)

  member_all : (q : Coord) (ps ks : List Coord) → is_member coord_eq (fold (insert_key (block_cmp bits)) ks ps) q ≡ (is_member coord_eq ps q || is_member coord_eq ks q)
  member_all q [] ks = refl
  member_all q (p ∷ ps) ks =
      member_all q ps (insert_key (block_cmp bits) ks p) ∙ ap (λ m. is_member coord_eq ps q || m) (member_insert q p ks)
      ∙ or_swap (is_member coord_eq ps q) (coord_eq q p) (is_member coord_eq ks q) ∙ or_group (coord_eq q p) (is_member coord_eq ps q) (is_member coord_eq ks q)
    where
      or_group : (a b m : Bool) → (a || (b || m)) ≡ ((a || b) || m)
      or_group true b m = refl
      or_group false b m = refl

  pub rises_in_order : (ps : List Coord) → Rises (in_block_order bits ps)
  rises_in_order ps = rises_all ps [] tt

  pub member_in_order : (q : Coord) (ps : List Coord) → is_member coord_eq (in_block_order bits ps) q ≡ is_member coord_eq ps q
  member_in_order q ps = member_all q ps [] ∙ or_none (is_member coord_eq ps q)

  -- ---- the first that passes a test

  module _ {V : Type 0} (v : Coord → V) where
    abbrev items : List Coord → List (Coord × V)
    items ks = map (λ p. (p, v p)) ks

    in_tail : (k q : Coord) (ks : List Coord) → is_member coord_eq ks q ≡ true → is_member coord_eq (k ∷ ks) q ≡ true
    in_tail k q ks m = or_second (coord_eq q k) (is_member coord_eq ks q) m

    at_head : (k q : Coord) (ks : List Coord) → q ≡ k → is_member coord_eq (k ∷ ks) q ≡ true
    at_head k q ks e = or_first (coord_eq q k) (is_member coord_eq ks q) (like_coords q k e)

    module _ (test : Coord → Bool) where
      abbrev passes : Coord × V → Bool
      passes item = test item.0

      pub find_first : (n : Coord) (ks : List Coord) → Rises ks → is_member coord_eq ks n ≡ true → test n ≡ true
          → ((q : Coord) → is_member coord_eq ks q ≡ true → test q ≡ true → is_lt (block_cmp bits q n) ≡ false) → find passes (items ks) ≡ Some (n, v n)
      find_first n [] r m t least = cc
      find_first n (k ∷ ks) r m t least = by (test k) refl (or_cases (coord_eq n k) (is_member coord_eq ks n) m) (λ l. find_first n ks r.1 l t (λ q j u. least q (in_tail k q ks j) u))
        where
          by : (b : Bool) → test k ≡ b → (coord_eq n k ≡ true) ⊎ (is_member coord_eq ks n ≡ true) → (is_member coord_eq ks n ≡ true → find passes (items ks) ≡ Some (n, v n)) → find passes (items (k ∷ ks)) ≡ Some (n, v n)
          by true e (inl s) rest = rw e (ap (λ (c : Coord). Some (c, v c)) (sym (coord_exact n k s)))
          by true e (inr l) rest = absurd (false_true (sym (least k (at_head k k ks refl) e) ∙ below_member k n ks r.0 l))
          by false e (inl s) rest = absurd (false_true (sym e ∙ ap test (sym (coord_exact n k s)) ∙ t))
          by false e (inr l) rest = rw e (rest l)

      pub find_none : (ks : List Coord) → ((q : Coord) → is_member coord_eq ks q ≡ true → test q ≡ true → ⊥) → find passes (items ks) ≡ None
      find_none [] h = refl
      find_none (k ∷ ks) h = by (test k) refl (find_none ks (λ q j u. h q (in_tail k q ks j) u))
        where
          by : (b : Bool) → test k ≡ b → find passes (items ks) ≡ None → find passes (items (k ∷ ks)) ≡ None
          by true e rest = absurd (h k (at_head k k ks refl) e)
          by false e rest = rw e rest

      -- an item that is found is one of the list
      found_member : (ks : List Coord) (item : Coord × V) → find passes (items ks) ≡ Some item → is_member coord_eq ks item.0 ≡ true
      found_member [] item e = cc
      found_member (k ∷ ks) item e = by (test k) refl (λ l. found_member ks item l)
        where
          by : (b : Bool) → test k ≡ b → (find passes (items ks) ≡ Some item → is_member coord_eq ks item.0 ≡ true) → is_member coord_eq (k ∷ ks) item.0 ≡ true
          by true t rest = at_head k item.0 ks (ap (λ (i : Coord × V). i.0) (sym (same_some (k, v k) item (rw t at e))))
          by false t rest = in_tail k item.0 ks (rest (rw t at e))

      -- a test that all pass
      filter_all : (ks : List Coord) → ((q : Coord) → is_member coord_eq ks q ≡ true → test q ≡ true) → filter passes (items ks) ≡ items ks
      filter_all [] h = refl
      filter_all (k ∷ ks) h = let t = h k (at_head k k ks refl) in rw t (ap (λ (l : List (Coord × V)). (k, v k) ∷ l) (filter_all ks (λ q m. h q (in_tail k q ks m))))

  past_later : (last : Option Coord) (k q : Coord) → is_past bits last k ≡ true → is_lt (block_cmp bits k q) ≡ true → is_past bits last q ≡ true
  past_later None k q h c = refl
  past_later (Some last) k q h c = comes_on bits last k q h c

  -- the items past the last one are the first such item and the items past that
  module _ {V : Type 0} (v : Coord → V) (last : Option Coord) where
    pub past_step : (ks : List Coord) → Rises ks → (item : Coord × V) → find (λ (i : Coord × V). is_past bits last i.0) (items v ks) ≡ Some item
        → past bits last (items v ks) ≡ item ∷ past bits (Some item.0) (items v ks)
    past_step [] r item e = cc
    past_step (k ∷ ks) r item e = by (is_past bits last k) refl (λ l. past_step ks r.1 item l)
      where
        at_k : is_past bits last k ≡ true → past bits last (items v (k ∷ ks)) ≡ (k, v k) ∷ past bits (Some k) (items v (k ∷ ks))
        at_k t =
            let itself = never_itself bits k in
            let every = filter_all v (is_past bits last) ks (λ q m. past_later last k q t (below_member k q ks r.0 m)) in
            let all = filter_all v (is_past bits (Some k)) ks (λ q m. below_member k q ks r.0 m) in
            rw (t, itself) (ap (λ (l : List (Coord × V)). (k, v k) ∷ l) (every ∙ sym all))

        by : (b : Bool) → is_past bits last k ≡ b → (find (λ (i : Coord × V). is_past bits last i.0) (items v ks) ≡ Some item → past bits last (items v ks) ≡ item ∷ past bits (Some item.0) (items v ks))
            → past bits last (items v (k ∷ ks)) ≡ item ∷ past bits (Some item.0) (items v (k ∷ ks))
        by true t rest = subst (λ (i : Coord × V). past bits last (items v (k ∷ ks)) ≡ i ∷ past bits (Some i.0) (items v (k ∷ ks))) (same_some (k, v k) item (rw t at e)) (at_k t)
        by false t rest =
            let later = rw t at e in
            let back = never_back bits k item.0 (below_member k item.0 ks r.0 (found_member v (is_past bits last) ks item later)) in
            rw (t, back) (rest later)

-- ---- any list and test

module _ {X : Type 0} (test : X → Bool) where
  pub none_left : (xs : List X) → find test xs ≡ None → filter test xs ≡ []
  none_left [] e = refl
  none_left (x ∷ xs) e = by (test x) refl (λ l. none_left xs l)
    where
      some_none : ◌≡◌ {A = Option X} (Some x) None → ⊥
      some_none e = cc

      by : (b : Bool) → test x ≡ b → (find test xs ≡ None → filter test xs ≡ []) → filter test (x ∷ xs) ≡ []
      by true t rest = absurd (some_none (rw t at e))
      by false t rest = rw t (rest (rw t at e))

  pub some_left : (xs : List X) (x : X) → find test xs ≡ Some x → filter test xs ≡ [] → ⊥
  some_left [] x e f = cc
  some_left (y ∷ ys) x e f = by (test y) refl (λ l m. some_left ys x l m)
    where
      cons_nil : y ∷ filter test ys ≡ [] → ⊥
      cons_nil e = cc

      by : (b : Bool) → test y ≡ b → (find test ys ≡ Some x → filter test ys ≡ [] → ⊥) → ⊥
      by true t rest = cons_nil (rw t at f)
      by false t rest = rest (rw t at e) (rw t at f)

  -- some items are left exactly if one is found
  pub found_left : (xs left : List X) (found : Option X) (more : Bool) → left ≡ filter test xs → found ≡ find test xs → more ≡ is_some found → IsTrue more ↔ (left ≢ [])
  found_left xs left (Some x) more l f e = ((λ h none. some_left xs x (sym f) (sym l ∙ none)), (λ h. e))
  found_left xs left None more l f e = ((λ h none. false_true (sym e ∙ h)), (λ h. absurd (h (l ∙ none_left xs (sym f)))))

pub all_left : {X : Type 0} (xs : List X) → filter (λ (x : X). true) xs ≡ xs
all_left [] = refl
all_left (x ∷ xs) = ap (λ l. x ∷ l) (all_left xs)

-- ---- the active voxels of a box

module _ {V : Type 0} (bits : Bits) (f : Field V) (box : Box) where
  abbrev keys : List Coord
  keys = in_block_order bits (filter (λ p. (f.cell p).on) (coordinates box))

  pub rises_keys : Rises bits keys
  rises_keys = rises_in_order bits (filter (λ p. (f.cell p).on) (coordinates box))

  member_keys : (q : Coord) → is_member coord_eq keys q ≡ (is_inside box q && (f.cell q).on)
  member_keys q = member_in_order bits q (filter (λ p. (f.cell p).on) (coordinates box)) ∙ member_passing box (λ p. (f.cell p).on) q

  -- the first active voxel past a coordinate, by coordinates
  pub first_found : (after : Option Coord) (result : Option (Coord × V)) → IsFirst bits (IsActivePast bits after f) box (option_map (λ item. item.0) result) → IfSome result (λ item. item.1 ≡ (f.cell item.0).value)
      → result ≡ find (λ item. is_past bits after item.0) (active bits f box)
  first_found after (Some item) first value =
      ap (λ (w : V). Some (item.0, w)) value
      ∙ sym (find_first bits (λ p. (f.cell p).value) (is_past bits after) item.0 keys rises_keys (member_keys item.0 ∙ and_true _ _ first.0 first.1.1) first.1.0
      (λ q m t. let i = both (is_inside box q) (f.cell q).on (sym (member_keys q) ∙ m) in first.2 q i.0 (t, i.1)))
  first_found after None first value =
      sym (find_none bits (λ p. (f.cell p).value) (is_past bits after) keys (λ q m t. let i = both (is_inside box q) (f.cell q).on (sym (member_keys q) ∙ m) in first q i.0 (t, i.1)))
