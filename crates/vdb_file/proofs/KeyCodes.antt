-- The bytes of the keys of root blocks determine the keys.
use Rattle.vdb_file.proofs.Common.{◌≡◌, ℕ, ℤ, List, [], ◌++◌, refl, sym, subst, append-nil, FitsSigned, Option, w32, AreBits, Bits, Coord, number_bytes, key_bytes, LoadFault, IsKey, Fails, Position, Took}
use Rattle.vdb_file.proofs.Numbers.{says_i32, says_key}
use Rattle.vdb_file.proofs.Fronts.{fails_after, fails_first, fails_none, fails_turn, took_both}
use Rattle.vdb_file.proofs.Roots.{key_fits}

-- each component has 32 bits
abbrev pub AreThree : Coord → Type 0
AreThree k = FitsSigned w32 k.x × FitsSigned w32 k.y × FitsSigned w32 k.z

abbrev number : ℤ → List ℕ
number = number_bytes w32

-- no first number is ahead
pub no_x : (fault : LoadFault) (old : Position) → Fails (FitsSigned w32) number fault old → Fails AreThree key_bytes fault old
no_x fault old h = fails_first AreThree key_bytes (FitsSigned w32) number (λ k. k.x) (λ k. number k.y ++ number k.z) fault old (λ k p. p.0) (λ k p. refl) h

module _ (x : ℤ) (fits_x : FitsSigned w32 x) (old mid : Position) (took_x : Took old mid (number x)) where
  after_x : (fault : LoadFault) → Fails (λ k. AreThree k × (x ≡ k.x)) (λ k. number k.y ++ number k.z) fault mid → Fails AreThree key_bytes fault old
  after_x fault h =
      fails_after AreThree key_bytes (number x) (λ k. x ≡ k.x) (λ k. number k.x) (λ k. number k.y ++ number k.z) fault old mid took_x (λ k p. says_i32 x k.x fits_x p.0) (λ k p. refl) h

  pub no_y : (fault : LoadFault) → Fails (FitsSigned w32) number fault mid → Fails AreThree key_bytes fault old
  no_y fault h =
      after_x fault (fails_first (λ k. AreThree k × (x ≡ k.x)) (λ k. number k.y ++ number k.z) (FitsSigned w32) number (λ k. k.y) (λ k. number k.z) fault mid (λ k p. p.0.1) (λ k p. refl) h)

  pub no_z : (y : ℤ) → FitsSigned w32 y → (end : Position) → Took mid end (number y) → (fault : LoadFault) → Fails (FitsSigned w32) number fault end → Fails AreThree key_bytes fault old
  no_z y fits_y end took_y fault h =
      after_x fault
      (fails_after (λ k. AreThree k × (x ≡ k.x)) (λ k. number k.y ++ number k.z) (number y) (λ k. y ≡ k.y) (λ k. number k.y) (λ k. number k.z) fault mid end took_y (λ k p. says_i32 y k.y fits_y p.0.1) (λ k p. refl)
      (fails_turn (λ k. (AreThree k × (x ≡ k.x)) × (y ≡ k.y)) (λ k. number k.z) (FitsSigned w32) number (λ k. k.z) fault end (λ k p. p.0.0.2) (λ k p. refl) h))

  pub three_read : (y z : ℤ) (end last : Position) → Took mid end (number y) → Took end last (number z) → Took old last (number x ++ (number y ++ number z))
  three_read y z end last took_y took_z = took_both old mid last (number x) (number y ++ number z) took_x (took_both mid end last (number y) (number z) took_y took_z)

module _ (bits : Bits) (few : AreBits bits) (before : Option Coord) where
  three : (k : Coord) → IsKey bits before k → AreThree k
  three k p = let f = key_fits bits few k p.inside in (f.x, f.y, f.z)

  pub no_key_bytes : (fault : LoadFault) (old : Position) → Fails AreThree key_bytes fault old → Fails (IsKey bits before) key_bytes fault old
  no_key_bytes fault old h = fails_turn (IsKey bits before) key_bytes AreThree key_bytes (λ k. k) fault old three (λ k p. refl) h

  -- a key was read that can't come next
  pub no_such_key : (fault : LoadFault) (old mid : Position) (k : Coord) → AreThree k → Took old mid (key_bytes k) → (IsKey bits before k → ⊥) → Fails (IsKey bits before) key_bytes fault old
  no_such_key fault old mid k fits took none =
      fails_after (IsKey bits before) key_bytes (key_bytes k) (λ l. k ≡ l) key_bytes (λ l. []) fault old mid took
      (λ l p. says_key k l (record { x = fits.0; y = fits.1; z = fits.2 }) (key_fits bits few l p.inside)) (λ l p. sym (append-nil (key_bytes l)))
      (fails_none (λ l. IsKey bits before l × (k ≡ l)) (λ l. []) fault mid (λ l p. none (subst (IsKey bits before) (sym p.1) p.0)))
