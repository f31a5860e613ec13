-- Reads items one after another, each with a name that comes after the one before.
use Rattle.vdb_file.proofs.Common.{◌≡◌, ℕ, zero, suc, ◌<◌, List, [], ◌∷◌, ◌++◌, length, take, drop, get_or, length-take, take-append-drop, refl, sym, ap, subst, ◌∙◌, append-nil, arith, Option, Some, None, map, ⊤, AllByRecursion, flat_map, nat_cmp, nat_list_cmp_total, slice_cmp, Ordering, Less, flat_map-append, AreItems, IsItem, name_of, Fails, Position, Took, LoadFault}
use Rattle.std.specs.List.Sorted.{IsStrictlySortedBy}
use Rattle.std.specs.BTreeMap.{insert_entry}
use Rattle.vdb_scene.proofs.Copying.{insert_last}
use Rattle.vdb_file.proofs.Unambiguous.{IsCode, says_all}
use Rattle.vdb_file.proofs.Fronts.{fails_after, fails_first, took_both}

abbrev cmp : List ℕ → List ℕ → Ordering
cmp = slice_cmp nat_cmp

module _ {E : Type 0} (P : E → Type 0) (key : E → List ℕ) where
  -- each item may follow the one before
  abbrev pub IsChain : Option (List ℕ) → List E → Type 0
  IsChain before [] = ⊤
  IsChain before (e ∷ es) = IsItem P key before e × IsChain (Some (key e)) es

  -- the name that the next item must follow
  abbrev pub last_of : Option (List ℕ) → List E → Option (List ℕ)
  last_of before [] = before
  last_of before (e ∷ es) = last_of (Some (key e)) es

  -- ---- one more

  pub chain_more : (before : Option (List ℕ)) (es : List E) (e : E) → IsChain before es → IsItem P key (last_of before es) e → IsChain before (es ++ e ∷ [])
  chain_more before [] e c h = (h, tt)
  chain_more before (d ∷ es) e c h = (c.0, chain_more (Some (key d)) es e c.1 h)

  pub last_more : (before : Option (List ℕ)) (es : List E) (e : E) → last_of before (es ++ e ∷ []) ≡ Some (key e)
  last_more before [] e = refl
  last_more before (d ∷ es) e = last_more (Some (key d)) es e

  -- ---- chains are in order

  -- all items have P
  pub chain_each : (before : Option (List ℕ)) (es : List E) → IsChain before es → AllByRecursion P es
  chain_each before [] c = tt
  chain_each before (e ∷ es) c = (c.0.has, chain_each (Some (key e)) es c.1)

  -- a name after one name comes after an earlier one
  all_after : (low high : List ℕ) (ks : List (List ℕ)) → cmp low high ≡ Less → AllByRecursion (λ k. cmp high k ≡ Less) ks → AllByRecursion (λ k. cmp low k ≡ Less) ks
  all_after low high [] h all = tt
  all_after low high (k ∷ ks) h all = (nat_list_cmp_total.trans low high k h all.0, all_after low high ks h all.1)

  -- all names of a chain come after the name before it
  chain_after : (before : List ℕ) (es : List E) → IsChain (Some before) es → AllByRecursion (λ k. cmp before k ≡ Less) (map key es)
  chain_after before [] c = tt
  chain_after before (e ∷ es) c = (c.0.rises, all_after before (key e) (map key es) c.0.rises (chain_after (key e) es c.1))

  -- the names rise
  pub chain_sorted : (before : Option (List ℕ)) (es : List E) → IsChain before es → IsStrictlySortedBy cmp (map key es)
  unfolding IsStrictlySortedBy
  chain_sorted before [] c = tt
  chain_sorted before (e ∷ es) c = (chain_after (key e) es c.1, chain_sorted (Some (key e)) es c.1)

  -- if the names rise, items that have P are a chain
  chain_behind : (before : List ℕ) (es : List E) → AllByRecursion P es → IsStrictlySortedBy cmp (map key es) → AllByRecursion (λ k. cmp before k ≡ Less) (map key es) → IsChain (Some before) es
  unfolding IsStrictlySortedBy
  chain_behind before [] ps sorted later = tt
  chain_behind before (e ∷ es) ps sorted later = (record { has = ps.0; rises = later.0 }, chain_behind (key e) es ps.1 sorted.1 sorted.0)

  pub sorted_chain : (es : List E) → AllByRecursion P es → IsStrictlySortedBy cmp (map key es) → IsChain None es
  unfolding IsStrictlySortedBy
  sorted_chain [] ps sorted = tt
  sorted_chain (e ∷ es) ps sorted = (record { has = ps.0; rises = tt }, chain_behind (key e) es ps.1 sorted.1 sorted.0)

  -- this many items were read
  pub are_items : (n : ℕ) (es : List E) → length es ≡ n → IsChain None es → AreItems P key n es
  are_items n es count chain = record { count = count; each = chain_each None es chain; in_order = chain_sorted None es chain }

  -- ---- parts of a chain

  chain_front : (k : ℕ) (before : Option (List ℕ)) (es : List E) → IsChain before es → IsChain before (take k es)
  chain_front zero before es c = tt
  chain_front (suc k) before [] c = tt
  chain_front (suc k) before (e ∷ es) c = (c.0, chain_front k (Some (key e)) es c.1)

  chain_at : (none : E) (k : ℕ) (before : Option (List ℕ)) (es : List E) → k < length es → IsChain before es → IsItem P key (last_of before (take k es)) (get_or es k none)
  chain_at none k before [] h c = absurd (omega arith)
  chain_at none zero before (e ∷ es) h c = c.0
  chain_at none (suc k) before (e ∷ es) h c = chain_at none k (Some (key e)) es (omega arith) c.1

  module _ (code : E → List ℕ) where
    code_split : (none : E) (k : ℕ) (es : List E) → k < length es → flat_map code (drop k es) ≡ code (get_or es k none) ++ flat_map code (drop (suc k) es)
    code_split none k [] h = absurd (omega arith)
    code_split none zero (e ∷ es) h = refl
    code_split none (suc k) (e ∷ es) h = code_split none k es (omega arith)

    code_parts : (k : ℕ) (es : List E) → flat_map code es ≡ flat_map code (take k es) ++ flat_map code (drop k es)
    code_parts k es = ap (flat_map code) (sym (take-append-drop k es)) ∙ flat_map-append code (take k es) (drop k es)

    -- if no item can be read after those that were, no list of more of them is ahead of the first
    pub fails_within : IsCode P code → E → (fault : LoadFault) (n : ℕ) (done : List E) (old mid : Position) → length done < n → IsChain None done → Took old mid (flat_map code done)
        → Fails (IsItem P key (last_of None done)) code fault mid → Fails (AreItems P key n) (flat_map code) fault old
    fails_within is_code none fault n done old mid short chain took h =
        let k = length done in
        let whole : (es : List E) → AreItems P key n es → IsChain None es = λ es p. sorted_chain es p.each p.in_order in
        fails_after (AreItems P key n) (flat_map code) (flat_map code done) (λ es. done ≡ take k es) (λ es. flat_map code (take k es)) (λ es. flat_map code (drop k es)) fault old mid took
        (λ es p. let len : length done ≡ length (take k es) = omega (arith, length-take k es, p.count, short) in
        says_all P code is_code done (take k es) len (chain_each None done chain) (chain_each None (take k es) (chain_front k None es (whole es p))))
        (λ es p. code_parts k es)
        (fails_first (λ es. AreItems P key n es × (done ≡ take k es)) (λ es. flat_map code (drop k es)) (IsItem P key (last_of None done)) code (λ es. get_or es k none) (λ es. flat_map code (drop (suc k) es)) fault mid
        (λ es p. let inside : k < length es = omega (arith, p.0.count, short) in subst (λ t. IsItem P key (last_of None t) (get_or es k none)) (sym p.1) (chain_at none k None es inside (whole es p.0)))
        (λ es p. let inside : k < length es = omega (arith, p.0.count, short) in code_split none k es inside)
        h)

    -- one more item was read
    pub more_read : (a b c : Position) (done : List E) (e : E) → Took a b (flat_map code done) → Took b c (code e) → Took a c (flat_map code (done ++ e ∷ []))
    more_read a b c done e p q = subst (Took a c) (ap (λ t. flat_map code done ++ t) (sym (append-nil (code e))) ∙ sym (flat_map-append code done (e ∷ []))) (took_both a b c (flat_map code done) (code e) p q)

-- an entry that follows the last of a chain is added at its end
pub put_last : {X : Type 0} (P : List ℕ × X → Type 0) (es : List (List ℕ × X)) (e : List ℕ × X) → IsChain P name_of None es → IsItem P name_of (last_of P name_of None es) e
    → insert_entry cmp es e.0 e.1 ≡ es ++ e ∷ []
put_last P es e chain item = insert_last nat_list_cmp_total es [] e (chain_sorted P name_of None (es ++ e ∷ []) (chain_more P name_of None es e chain item))
