-- Numbers from bytes.
use Rattle.std.proofs.Common.{◌≡◌, ℕ, ◌<◌, ◌^◌, List, length, get_or, refl, ap, ◌∙◌, arith, ℤ}
use Rattle.std.specs.Int.{w64, cast_signed, cast_unsigned, from_be_bytes, to_be_bytes}
use Rattle.std.proofs.lemmas.Int.{of_z-to_z}
use Rattle.std.proofs.lemmas.Nat.{be_bytes_8}

-- the bytes of the signed number that eight bytes stand for
pub signed_bytes_8 : (bs : List ℕ) (z : ℤ) → length bs ≡ 8 → ((i : ℕ) → get_or bs i 0 < 256) → z ≡ cast_signed w64 (from_be_bytes w64 bs) → to_be_bytes w64 (cast_unsigned w64 z) ≡ bs
signed_bytes_8 bs z len fits e =
    let n = from_be_bytes w64 bs in
    let small : n < 2 ^ 64 = omega (arith, fits 0, fits 1, fits 2, fits 3, fits 4, fits 5, fits 6, fits 7) in
    ap (to_be_bytes w64) (ap (cast_unsigned w64) e ∙ of_z-to_z w64 n small) ∙ be_bytes_8 bs n len fits refl
