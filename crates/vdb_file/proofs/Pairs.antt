-- The bytes of metadata pairs determine the pairs.
use Rattle.vdb_file.proofs.Common.{◌≡◌, ℕ, List, ◌++◌, length, AllByRecursion, recursion_from_All, Pairs, counted, pairs_bytes}
use Rattle.vdb_file.proofs.Unambiguous.{Says, says_all, says_behind, says_byte, says_map, says_then}
use Rattle.vdb_file.proofs.Numbers.{says_counted}

-- a key, and then its text
pub says_pair : (a b : List ℕ × List ℕ) → Says (counted a.0 ++ counted a.1) (counted b.0 ++ counted b.1) (a ≡ b)
says_pair a b = says_map (λ r. λ j. (r.0 j, r.1 j)) (says_then (says_counted a.0 b.0) (λ _. says_counted a.1 b.1))

-- a count, and then the pairs
pub says_pairs : (a b : Pairs) → Says (pairs_bytes a) (pairs_bytes b) (a ≡ b)
says_pairs a b =
    let Any : List ℕ × List ℕ → Type 0 = λ _. Unit {0} in
    let any : (pairs : Pairs) → AllByRecursion Any pairs = λ pairs. recursion_from_All Any pairs (λ i d l. tt) in
    says_behind (says_byte (length a) (length b)) (λ l. says_all Any (λ pair. counted pair.0 ++ counted pair.1) (λ p q _ _. says_pair p q) a b l (any a) (any b))
