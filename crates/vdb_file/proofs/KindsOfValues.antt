-- The three types of values among the scalars of any type.
use Rattle.vdb_file.proofs.Common.{◌≡◌, ℤ, pos, negsuc, Bool, true, false, refl, arith, FitsSigned, ⊤, w32, w64, int_eq, beq, ints, has_number, number_bytes, truth_bytes, Scalar, I32, I64, is_value_of}
use Rattle.vdb_value.specs.declared.Kind.TheVariants as kinds
use Rattle.vdb_scene.specs.declared.scalar.Scalar.TheVariants.{Bool as truth}
use Rattle.vdb_file.proofs.TypedGrids.{IsKind}
use Rattle.vdb_file.proofs.Values.{i32_fits, i64_fits}

-- the boolean of a scalar; a scalar of another type gives an arbitrary one
pub truth_of : Scalar → Bool
truth_of (truth b) = b
truth_of (I32 z) = false
truth_of (I64 z) = false

pub number_of : Scalar → ℤ
number_of (truth b) = pos 0
number_of (I32 z) = z
number_of (I64 z) = z

-- numbers that fit have the type
fits_i32 : (z : ℤ) → FitsSigned w32 z → has_number kinds.I32 z ≡ true
fits_i32 (pos n) h = grind (arith, ints)
fits_i32 (negsuc n) h = grind (arith, ints)

fits_i64 : (z : ℤ) → FitsSigned w64 z → has_number kinds.I64 z ≡ true
fits_i64 (pos n) h = grind (arith, ints)
fits_i64 (negsuc n) h = grind (arith, ints)

i32_there : (s : Scalar) → is_value_of kinds.I32 s ≡ true → FitsSigned w32 (number_of s)
unfolding number_of
i32_there (I32 z) h = i32_fits z h
i32_there (truth b) h = absurd cc
i32_there (I64 z) h = absurd cc

i64_there : (s : Scalar) → is_value_of kinds.I64 s ≡ true → FitsSigned w64 (number_of s)
unfolding number_of
i64_there (I64 z) h = i64_fits z h
i64_there (truth b) h = absurd cc
i64_there (I32 z) h = absurd cc

truth_again : (s : Scalar) → is_value_of kinds.Bool s ≡ true → truth (truth_of s) ≡ s
unfolding truth_of
truth_again (truth b) h = refl
truth_again (I32 z) h = absurd cc
truth_again (I64 z) h = absurd cc

i32_again : (s : Scalar) → is_value_of kinds.I32 s ≡ true → I32 (number_of s) ≡ s
unfolding number_of
i32_again (I32 z) h = refl
i32_again (truth b) h = absurd cc
i32_again (I64 z) h = absurd cc

i64_again : (s : Scalar) → is_value_of kinds.I64 s ≡ true → I64 (number_of s) ≡ s
unfolding number_of
i64_again (I64 z) h = refl
i64_again (truth b) h = absurd cc
i64_again (I32 z) h = absurd cc

pub are_truths : IsKind (λ b. ⊤) beq truth_bytes kinds.Bool truth truth_of
are_truths = record { same_eq = λ v w. refl; same_bytes = λ v. refl; same_kind = λ v. refl; value = λ v h. refl; back_value = λ s h. tt; there_again = truth_again }

pub are_i32s : IsKind (FitsSigned w32) int_eq (number_bytes w32) kinds.I32 I32 number_of
are_i32s = record { same_eq = λ v w. refl; same_bytes = λ v. refl; same_kind = λ v. refl; value = fits_i32; back_value = i32_there; there_again = i32_again }

pub are_i64s : IsKind (FitsSigned w64) int_eq (number_bytes w64) kinds.I64 I64 number_of
are_i64s = record { same_eq = λ v w. refl; same_bytes = λ v. refl; same_kind = λ v. refl; value = fits_i64; back_value = i64_there; there_again = i64_again }
