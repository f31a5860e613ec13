-- Numbers, booleans, keys, and bytes after their count.
use Rattle.vdb_file.proofs.Common.{◌≡◌, ℕ, ◌<◌, ◌^◌, List, length, refl, sym, ap, ◌∙◌, FitsSigned, ⊤, w16, w32, w64, to_be_bytes, Coord, number_bytes, truth_bytes, key_bytes, counted}
use Rattle.std.specs.Int.{from_be_bytes}
use Rattle.std.proofs.lemmas.Nat.{from_be_bytes-to_be_bytes_2, from_be_bytes-to_be_bytes_4}
use Rattle.vdb_value.specs.Laws.{bool_bytes_exact, i32_bytes_exact, i64_bytes_exact}
use Rattle.vdb_file.proofs.Unambiguous.{IsCode, Says, says_apart, says_behind, says_byte, says_fixed, says_map, says_then}

-- numbers of 16 and of 32 bits
pub says_u16 : IsCode (λ n. n < 2 ^ 16) (to_be_bytes w16)
says_u16 = says_apart (λ n. n < 2 ^ 16) (to_be_bytes w16) (λ m n. refl) (λ m n hm hn e. sym (from_be_bytes-to_be_bytes_2 m hm) ∙ ap (from_be_bytes w16) e ∙ from_be_bytes-to_be_bytes_2 n hn)

pub says_u32 : IsCode (λ n. n < 2 ^ 32) (to_be_bytes w32)
says_u32 = says_apart (λ n. n < 2 ^ 32) (to_be_bytes w32) (λ m n. refl) (λ m n hm hn e. sym (from_be_bytes-to_be_bytes_4 m hm) ∙ ap (from_be_bytes w32) e ∙ from_be_bytes-to_be_bytes_4 n hn)

-- signed numbers of 32 and of 64 bits
pub says_i32 : IsCode (FitsSigned w32) (number_bytes w32)
says_i32 = says_apart (FitsSigned w32) (number_bytes w32) (λ y z. refl) i32_bytes_exact

pub says_i64 : IsCode (FitsSigned w64) (number_bytes w64)
says_i64 = says_apart (FitsSigned w64) (number_bytes w64) (λ y z. refl) i64_bytes_exact

-- booleans
pub says_truth : IsCode (λ b. ⊤) truth_bytes
says_truth = says_apart (λ b. ⊤) truth_bytes (λ a b. refl) bool_bytes_exact

-- ---- keys of root blocks

-- each component has 32 bits
pub record FitsKey (k : Coord) : Type 0 where
  pub x : FitsSigned w32 k.x
  pub y : FitsSigned w32 k.y
  pub z : FitsSigned w32 k.z

-- the bytes of a key determine it
pub says_key : IsCode FitsKey key_bytes
says_key k l fk fl =
    says_map (λ r. λ j. record { x = r.0 j; y = r.1.0 j; z = r.1.1 j })
    (says_then (says_i32 k.x l.x fk.x fl.x) (λ _. says_then (says_i32 k.y l.y fk.y fl.y) (λ _. says_i32 k.z l.z fk.z fl.z)))

-- ---- bytes after their count

-- the bytes are determined, and so is their count
pub says_counted : (p q : List ℕ) → Says (counted p) (counted q) (p ≡ q)
says_counted p q = says_behind (says_byte (length p) (length q)) (λ l. says_fixed p q l)
