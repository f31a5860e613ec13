-- Entries copied into another table, key after key, in the order of keys.
use Rattle.vdb_tree.proofs.Common.{◌≡◌, inl, inr, ◌+◌, ◌≤◌, List, length, arith, ap, sym, ◌∙◌, Option, Some, None, if◌then◌else◌, IsDistinct, keys_of, coord_eq, Coord, Entry, root_at, IsNextKey, IsPast}
use Rattle.vdb_tree.proofs.KeysPast.{fewer_past, keys_past, past_on}
use Rattle.vdb_tree.proofs.Levels.{coord_cases}
use Rattle.vdb_tree.proofs.Needed.{is_some_from, some_or_none}
use Rattle.vdb_tree.proofs.RootCounts.{all_past, at_least}
use Rattle.vdb_tree.proofs.RootSweeps.{apart, other_key, past_or_not, that_key}

-- the copy has the entries up to this key, and no other
pub record IsCopiedTo {V : Type 0} (root copy : List (Coord × Entry V)) (passed : Option Coord) : Type 0 where
  pub behind : (k : Coord) → (IsPast passed k → ⊥) → root_at copy k ≡ root_at root k
  pub ahead : (k : Coord) → IsPast passed k → root_at copy k ≡ None
  pub few : length copy + keys_past passed root ≤ length root
  pub distinct : IsDistinct coord_eq (keys_of copy)

module _ {V : Type 0} (root : List (Coord × Entry V)) where
  pub copied_none : (copy : List (Coord × Entry V)) → ((k : Coord) → root_at copy k ≡ None) → length copy ≡ 0 → IsDistinct coord_eq (keys_of copy) → IsCopiedTo root copy None
  copied_none copy none empty distinct = record {
    behind = λ k h. absurd (h tt);
    ahead = λ k h. none k;
    few = omega (arith, all_past root, empty);
    distinct = distinct;
  }

  -- copying the entry of the next key
  pub copied_next : (old new : List (Coord × Entry V)) (passed : Option Coord) (key : Coord) (entry : Entry V) → IsCopiedTo root old passed → IsNextKey root passed (Some key) → root_at root key ≡ Some entry
      → ((k : Coord) → root_at new k ≡ (if coord_eq key k then Some entry else root_at old k)) → length new ≤ length old + 1 → IsDistinct coord_eq (keys_of new) → IsCopiedTo root new (Some key)
  copied_next old new passed key entry copied next at put size distinct = record {
    behind = λ j not_past.
        elim (coord_cases j key) [
          | inl e ↦ ap (root_at new) e ∙ that_key old new key (Some entry) put ∙ sym at ∙ ap (root_at root) (sym e)
          | inr d ↦ other_key old new key j (Some entry) put d ∙ elim (past_or_not passed j) [
            | inr before ↦ copied.behind j before
            | inl past ↦
                elim (some_or_none (root_at root j)) [
                  | inl x ↦ elim (at_least key j (next.2 j past (is_some_from _ x.0 x.1))) [ inl e ↦ absurd (d e) | inr later ↦ absurd (not_past later) ]
                  | inr none ↦ copied.ahead j past ∙ sym none
                ]
          ]
        ];
    ahead = λ j later. other_key old new key j (Some entry) put (apart key j later) ∙ copied.ahead j (past_on passed key j next.1 later);
    few = let fewer = fewer_past root passed key next in let few = copied.few in omega (arith, fewer, few, size);
    distinct = distinct;
  }
