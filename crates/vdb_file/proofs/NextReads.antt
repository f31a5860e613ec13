-- Reads a number or a key, and then the block for it.
use Rattle.vdb_file.proofs.Common.{◌≡◌, ℕ, ◌<◌, ◌^◌, Bool, List, refl, sym, ap, subst, arith, Option, w16, to_be_bytes, entries, AreBits, Box, Bits, Coord, Level, Field, entries_few, key_bytes, LoadFault, IsIndex, IsKey, IsNext, ShowsIn, next_bytes, Fails, Position, Took}
use Rattle.vdb_file.proofs.Unambiguous.{Says}
use Rattle.vdb_file.proofs.Fronts.{fails_after, fails_first, fails_turn, took_both}
use Rattle.vdb_file.proofs.Numbers.{says_key, says_u16}
use Rattle.vdb_file.proofs.Roots.{key_fits}

-- a number of 16 bits determines the entry
pub index_says : (bits : Bits) (few : AreBits bits) (level : Level) (before : Option ℕ) (i j : ℕ) → IsIndex (entries bits level) before i → IsIndex (entries bits level) before j → Says (to_be_bytes w16 i) (to_be_bytes w16 j) (i ≡ j)
index_says bits few level before i j p q =
    let most = entries_few bits level few in
    let a = p.within in
    let b = q.within in
    let small_i : i < 2 ^ 16 = omega (arith, most, a) in
    let small_j : j < 2 ^ 16 = omega (arith, most, b) in
    says_u16 i j small_i small_j

-- a key determines the root block
pub key_says : (bits : Bits) (few : AreBits bits) (before : Option Coord) (k l : Coord) → IsKey bits before k → IsKey bits before l → Says (key_bytes k) (key_bytes l) (k ≡ l)
key_says bits few before k l p q = says_key k l (key_fits bits few k p.inside) (key_fits bits few l q.inside)

module _ {V K : Type 0} (eq : V → V → Bool) (P : V → Type 0) (background : V) (N : K → Type 0) (code : K → List ℕ) (box : K → Box) (body : Field V → Box → List ℕ) (fault : LoadFault) (old : Position) where
  abbrev Next : K × Field V → Type 0
  Next = IsNext eq P background N box

  abbrev bytes : K × Field V → List ℕ
  bytes = next_bytes code body box

  -- no number is ahead
  pub no_number_next : Fails N code fault old → Fails Next bytes fault old
  no_number_next h = fails_first Next bytes N code (λ e. e.0) (λ e. body e.1 (box e.0)) fault old (λ e p. p.key) (λ e p. refl) h

  -- a number or key was read, and nothing for its box is ahead
  pub no_block_next : ((k l : K) → N k → N l → Says (code k) (code l) (k ≡ l)) → (k : K) → N k → (mid : Position) → Took old mid (code k) → Fails (ShowsIn eq P background (box k)) (λ f. body f (box k)) fault mid → Fails Next bytes fault old
  no_block_next says k is mid took h =
      fails_after Next bytes (code k) (λ e. k ≡ e.0) (λ e. code e.0) (λ e. body e.1 (box e.0)) fault old mid took (λ e p. says k e.0 is p.key) (λ e p. refl)
      (fails_turn (λ e. Next e × (k ≡ e.0)) (λ e. body e.1 (box e.0)) (ShowsIn eq P background (box k)) (λ f. body f (box k)) (λ e. e.1) fault mid
      (λ e p. subst (λ (l : K). ShowsIn eq P background (box l) e.1) (sym p.1) p.0.shows) (λ e p. ap (λ (l : K). body e.1 (box l)) (sym p.1)) h)

-- the number or key and its block were read
pub both_next : {V K : Type 0} (code : K → List ℕ) (box : K → Box) (body : Field V → Box → List ℕ) (k : K) (f : Field V) (old mid new : Position) → Took old mid (code k) → Took mid new (body f (box k)) → Took old new (next_bytes code body box (k, f))
both_next code box body k f old mid new first second = took_both old mid new (code k) (body f (box k)) first second
