-- A grid that is moved out of a scene to look at another one, and moved back.
use Rattle.vdb_scene.proofs.Common.{◌≡◌, sym, ap, ◌∙◌, subst, rules, ℕ, true, List, Option, Some, None, IsSome, lookup, set_value, is_named, GridEntry}
use Rattle.std.proofs.lemmas.Map.Text.{is_eq-slice_cmp}
use Rattle.std.proofs.lemmas.Slice.Eq.{bytes_eq-Decides}
use Rattle.vdb_scene.proofs.Entries.{others_found, put_found, put_twice}

-- two names with one key are equal
one_name : (name other key : List ℕ) → is_named name key ≡ true → is_named other key ≡ true → name ≡ other
one_name name other key p q = (bytes_eq-Decides name key).0 (sym (is_eq-slice_cmp name key) ∙ p) ∙ sym ((bytes_eq-Decides other key).0 (sym (is_eq-slice_cmp other key) ∙ q))

module _ (entries after : List (List ℕ × GridEntry)) (name other : List ℕ) (left : GridEntry) (out : after ≡ set_value (is_named name) entries left) where
  -- another grid is still found
  pub other_found : (name ≡ other → ⊥) → lookup (is_named other) after ≡ lookup (is_named other) entries
  other_found apart =
      ap (λ (es : List (List ℕ × GridEntry)). lookup (is_named other) es) out
      ∙ others_found (is_named name) (is_named other) (λ k p q. apart (one_name name other k p q)) entries left

  -- and so is the grid in its place
  pub place_found : IsSome (lookup (is_named name) entries) → IsSome (lookup (is_named name) after)
  place_found there = subst (λ (o : Option GridEntry). IsSome o) (sym (ap (λ (es : List (List ℕ × GridEntry)). lookup (is_named name) es) out ∙ put_found (is_named name) entries left there)) some
    where
      some : IsSome (Some left)
      some = search rules

  -- the returned grid is in its place again
  pub put_back : (back : List (List ℕ × GridEntry)) (entry : GridEntry) → back ≡ set_value (is_named name) after entry → back ≡ set_value (is_named name) entries entry
  put_back back entry h = h ∙ ap (λ (es : List (List ℕ × GridEntry)). set_value (is_named name) es entry) out ∙ put_twice (is_named name) entries left entry

-- an existing grid isn't missing
pub not_missing : (found : Option GridEntry) → IsSome found → None ≡ found → ⊥
not_missing None h e = search rules
not_missing (Some x) h e = cc
