-- The bytes of values of one type determine the values.
use Rattle.vdb_file.proofs.Common.{◌≡◌, ℕ, Bool, true, false, ◌&&◌, List, length, sym, ◌∙◌, arith, IsTrue, are_bytes_of, byte_count, Kind}
use Rattle.std.proofs.Common.{◌==◌}
use Rattle.std.proofs.lemmas.Bool.Decides.{nat_tests}
use Rattle.vdb_value.specs.declared.Kind.TheVariants as kinds
use Rattle.vdb_file.proofs.Unambiguous.{IsCode, says_fixed, says_map}

-- a value of a type has the type's count of bytes
pub bytes_count : (k : Kind) (bytes : List ℕ) → IsTrue (are_bytes_of k bytes) → length bytes ≡ byte_count k
bytes_count kinds.Bool bytes h = front (length bytes) _ h
  where
    front : (n : ℕ) (b : Bool) → (n == 1 && b) ≡ true → n ≡ 1
    front n true h = grind (arith, nat_tests)
    front n false h = grind (arith, nat_tests)
bytes_count kinds.I32 bytes h = grind (arith, nat_tests)
bytes_count kinds.I64 bytes h = grind (arith, nat_tests)

-- values of one type, told apart by their bytes
pub value_code : {V : Type 0} (value_bytes : V → List ℕ) (is_value : V → Type 0) (kind : Kind) → ((x : V) → is_value x → IsTrue (are_bytes_of kind (value_bytes x)))
    → ((x y : V) → is_value x → is_value y → value_bytes x ≡ value_bytes y → x ≡ y) → IsCode is_value value_bytes
value_code value_bytes is_value kind known exact a b pa pb =
    says_map (exact a b pa pb) (says_fixed (value_bytes a) (value_bytes b) (bytes_count kind (value_bytes a) (known a pa) ∙ sym (bytes_count kind (value_bytes b) (known b pb))))
