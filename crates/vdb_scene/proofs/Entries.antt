-- Changes of a list of entries, before and after their values are mapped.
use Rattle.vdb_scene.proofs.Common.{◌≡◌, refl, sym, ap, subst, rules, Bool, true, false, cond, List, [], ◌∷◌, map, Option, Some, IsSome, option_map, Ordering, Less, Equal, Greater, lookup, remove_entry, set_value, insert_entry, match_ordering}

found : {X Y : Type 0} (make : X → Y) (b : Bool) (x : X) (o : Option X) (p : Option Y) → p ≡ option_map make o → cond b (Some (make x)) p ≡ option_map make (cond b (Some x) o)
found make true x o p h = refl
found make false x o p h = h

module _ {K X Y : Type 0} (make : X → Y) where
  -- the entries with their values mapped
  abbrev pub over : List (K × X) → List (K × Y)
  over entries = map (λ e. (e.0, make e.1)) entries

  pub lookup-over : (t : K → Bool) (entries : List (K × X)) → lookup t (over entries) ≡ option_map make (lookup t entries)
  lookup-over t [] = refl
  lookup-over t (e ∷ es) = found make (t e.0) e.1 (lookup t es) (lookup t (over es)) (lookup-over t es)

  replaced : (b : Bool) (k : K) (x w : X) (es fs : List (K × X)) (gs : List (K × Y)) → gs ≡ over fs → cond b ((k, make w) ∷ over es) ((k, make x) ∷ gs) ≡ over (cond b ((k, w) ∷ es) ((k, x) ∷ fs))
  replaced true k x w es fs gs h = refl
  replaced false k x w es fs gs h = ap (λ l. (k, make x) ∷ l) h

  pub set_value-over : (t : K → Bool) (entries : List (K × X)) (w : X) → set_value t (over entries) (make w) ≡ over (set_value t entries w)
  set_value-over t [] w = refl
  set_value-over t (e ∷ es) w = replaced (t e.0) e.0 e.1 w es (set_value t es w) (set_value t (over es) (make w)) (set_value-over t es w)

  inserted : (o : Ordering) (k l : K) (w x : X) (es fs : List (K × X)) (gs : List (K × Y)) → gs ≡ over fs
      → match_ordering o ((k, make w) ∷ (l, make x) ∷ over es) ((l, make w) ∷ over es) ((l, make x) ∷ gs) ≡ over (match_ordering o ((k, w) ∷ (l, x) ∷ es) ((l, w) ∷ es) ((l, x) ∷ fs))
  inserted Less k l w x es fs gs h = refl
  inserted Equal k l w x es fs gs h = refl
  inserted Greater k l w x es fs gs h = ap (λ r. (l, make x) ∷ r) h

  pub insert_entry-over : (compare : K → K → Ordering) (entries : List (K × X)) (k : K) (w : X)
      → insert_entry compare (over entries) k (make w) ≡ over (insert_entry compare entries k w)
  insert_entry-over compare [] k w = refl
  insert_entry-over compare (e ∷ es) k w =
      inserted (compare k e.0) k e.0 w e.1 es (insert_entry compare es k w) (insert_entry compare (over es) k (make w)) (insert_entry-over compare es k w)

  pub keys-over : (entries : List (K × X)) → map (λ e. e.0) (over entries) ≡ map (λ e. e.0) entries
  keys-over [] = refl
  keys-over (e ∷ es) = ap (λ ks. e.0 ∷ ks) (keys-over es)

module _ {K X Y : Type 0} (make : X → Y) where
  left : (b : Bool) (k : K) (x : X) (es fs : List (K × X)) (gs : List (K × Y)) → gs ≡ over make fs → cond b (over make es) ((k, make x) ∷ gs) ≡ over make (cond b es ((k, x) ∷ fs))
  left true k x es fs gs h = refl
  left false k x es fs gs h = ap (λ l. (k, make x) ∷ l) h

  pub remove_entry-over : (t : K → Bool) (entries : List (K × X)) → remove_entry t (over make entries) ≡ over make (remove_entry t entries)
  remove_entry-over t [] = refl
  remove_entry-over t (e ∷ es) = left (t e.0) e.0 e.1 es (remove_entry t es) (remove_entry t (over make es)) (remove_entry-over t es)

some_exact : {X : Type 0} (x y : X) → Some x ≡ Some y → x ≡ y
some_exact x y h = cc

found_or_later : {K X : Type 0} (b : Bool) (k : K) (x w : X) (es fs : List (K × X)) (o : Option X) → (o ≡ Some w → fs ≡ es)
    → cond b (Some x) o ≡ Some w → cond b ((k, w) ∷ es) ((k, x) ∷ fs) ≡ (k, x) ∷ es
found_or_later true k x w es fs o h e = ap (λ v. (k, v) ∷ es) (sym (some_exact x w e))
found_or_later false k x w es fs o h e = ap (λ l. (k, x) ∷ l) (h e)

-- setting the present value changes nothing
pub set_value-found : {K X : Type 0} (t : K → Bool) (entries : List (K × X)) (w : X) → lookup t entries ≡ Some w → set_value t entries w ≡ entries
set_value-found t [] w h = refl
set_value-found t (e ∷ es) w h = found_or_later (t e.0) e.0 e.1 w es (set_value t es w) (lookup t es) (set_value-found t es w) h

-- ---- one entry changed

module _ {K X : Type 0} (t : K → Bool) where
  found_step : (b : Bool) (e : K × X) (es : List (K × X)) (w : X) → t e.0 ≡ b → (IsSome (lookup t es) → lookup t (set_value t es w) ≡ Some w) → IsSome (lookup t (e ∷ es)) → lookup t (set_value t (e ∷ es) w) ≡ Some w
  found_step true e es w p more h = rw p (rw p refl)
  found_step false e es w p more h = rw p (rw p (more (subst (λ (b : Bool). IsSome (cond b (Some e.1) (lookup t es))) p h)))

  -- the value that was set is found
  pub put_found : (entries : List (K × X)) (w : X) → IsSome (lookup t entries) → lookup t (set_value t entries w) ≡ Some w
  put_found [] w h = search rules
  put_found (e ∷ es) w h = found_step (t e.0) e es w refl (put_found es w) h

  twice_step : (b : Bool) (e : K × X) (es : List (K × X)) (v w : X) → t e.0 ≡ b → set_value t (set_value t es v) w ≡ set_value t es w → set_value t (set_value t (e ∷ es) v) w ≡ set_value t (e ∷ es) w
  twice_step true e es v w p more = rw p (rw p refl)
  twice_step false e es v w p more = rw p (rw p (ap (λ rest. e ∷ rest) more))

  -- setting two values sets the last
  pub put_twice : (entries : List (K × X)) (v w : X) → set_value t (set_value t entries v) w ≡ set_value t entries w
  put_twice [] v w = refl
  put_twice (e ∷ es) v w = twice_step (t e.0) e es v w refl (put_twice es v w)

  module _ (u : K → Bool) (apart : (k : K) → t k ≡ true → u k ≡ true → ⊥) where
    other_step : (b c : Bool) (e : K × X) (es : List (K × X)) (w : X) → t e.0 ≡ b → u e.0 ≡ c → lookup u (set_value t es w) ≡ lookup u es → lookup u (set_value t (e ∷ es) w) ≡ lookup u (e ∷ es)
    other_step true true e es w p q more = absurd (apart e.0 p q)
    other_step true false e es w p q more = rw p (rw q refl)
    other_step false true e es w p q more = rw p (rw q refl)
    other_step false false e es w p q more = rw p (rw q more)

    -- the result of another test stays, if no key passes both
    pub others_found : (entries : List (K × X)) (w : X) → lookup u (set_value t entries w) ≡ lookup u entries
    others_found [] w = refl
    others_found (e ∷ es) w = other_step (t e.0) (u e.0) e es w refl refl (others_found es w)
