-- Values of the three types: their bytes and their types.
use Rattle.vdb_file.proofs.Common.{◌≡◌, ℤ, pos, negsuc, true, [], ◌∷◌, refl, ap, subst, arith, FitsSigned, w32, w64, ints, has_number, Kind, kind_of, scalar_bytes, Scalar, I32, I64, is_value_of, kind_bytes, kind_code}
use Rattle.vdb_value.specs.declared.Kind.TheVariants as kinds
use Rattle.vdb_scene.specs.declared.scalar.Scalar.TheVariants.{Bool as truth}
use Rattle.vdb_file.proofs.Unambiguous.{IsCode, Says, says_behind, says_byte, says_map}
use Rattle.vdb_file.proofs.Numbers.{says_i32, says_i64, says_truth}

-- ---- the bytes of a value

-- a number within its type's range fits the type's bits
pub i32_fits : (z : ℤ) → has_number kinds.I32 z ≡ true → FitsSigned w32 z
i32_fits (pos n) h = grind (arith, ints)
i32_fits (negsuc n) h = grind (arith, ints)

pub i64_fits : (z : ℤ) → has_number kinds.I64 z ≡ true → FitsSigned w64 z
i64_fits (pos n) h = grind (arith, ints)
i64_fits (negsuc n) h = grind (arith, ints)

-- the bytes of a value determine the value of the type
pub says_scalar : (k : Kind) → IsCode (λ v. is_value_of k v ≡ true) scalar_bytes
says_scalar kinds.Bool (truth a) (truth b) ha hb = says_map (ap truth) (says_truth a b tt tt)
says_scalar kinds.I32 (I32 a) (I32 b) ha hb = says_map (ap I32) (says_i32 a b (i32_fits a ha) (i32_fits b hb))
says_scalar kinds.I64 (I64 a) (I64 b) ha hb = says_map (ap I64) (says_i64 a b (i64_fits a ha) (i64_fits b hb))
says_scalar k a b ha hb = absurd cc

-- ---- a value after its KIND

-- the code of a KIND determines it
kind_exact : (k l : Kind) → kind_code k ≡ kind_code l → k ≡ l
kind_exact kinds.Bool kinds.Bool e = refl
kind_exact kinds.I32 kinds.I32 e = refl
kind_exact kinds.I64 kinds.I64 e = refl
kind_exact k l e = cc

-- the byte of a KIND determines it
pub says_kind : (k l : Kind) → Says (kind_code k ∷ []) (kind_code l ∷ []) (k ≡ l)
says_kind k l = says_map (kind_exact k l) (says_byte (kind_code k) (kind_code l))

-- the KIND determines how the bytes after it are read
pub says_kinded : IsCode (λ v. is_value_of (kind_of v) v ≡ true) kind_bytes
says_kinded a b ha hb = says_behind (says_kind (kind_of a) (kind_of b)) (λ e. says_scalar (kind_of b) a b (subst (λ k. is_value_of k a ≡ true) e ha) hb)
