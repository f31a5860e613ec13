-- A list of entries with rising keys, built by inserting each in order.
use Rattle.vdb_scene.proofs.Common.{◌≡◌, ◌∙◌, refl, ap, List, [], ◌∷◌, ◌++◌, Ordering, Less, Greater, ordering_reverse, IsTotalOrder, AllByRecursion, IsStrictlySortedBy, keys_of, insert_entry}
use Rattle.std.proofs.lemmas.Map.Keys.{sorted_head, sorted_tail}

-- a fact for each key holds for a key further on
further_on : {K X : Type 0} (P : K → Type 0) (es rest : List (K × X)) (e : K × X) → AllByRecursion P (keys_of (es ++ e ∷ rest)) → P e.0
further_on P [] rest e h = h.0
further_on P (d ∷ es) rest e h = further_on P es rest e h.1

-- an entry whose key is above all others goes to the end
pub insert_last : {K X : Type 0} {compare : K → K → Ordering} (laws : IsTotalOrder compare) (es rest : List (K × X)) (e : K × X)
    → IsStrictlySortedBy compare (keys_of (es ++ e ∷ rest)) → insert_entry compare es e.0 e.1 ≡ es ++ e ∷ []
insert_last laws [] rest e h = refl
insert_last {compare = compare} laws (d ∷ es) rest e h =
    let below : compare d.0 e.0 ≡ Less = further_on (λ k. compare d.0 k ≡ Less) es rest e (sorted_head compare d.0 (keys_of (es ++ e ∷ rest)) h) in
    let above : compare e.0 d.0 ≡ Greater = laws.antisymm e.0 d.0 ∙ ap ordering_reverse below in
    rw above (ap (λ l. d ∷ l) (insert_last laws es rest e (sorted_tail compare d.0 (keys_of (es ++ e ∷ rest)) h)))
