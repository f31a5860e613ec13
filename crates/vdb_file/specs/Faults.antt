-- The meaning of the faults of loading and of saving.
use Rattle.std.specs.Prelude.{◌≡◌, ℕ, ◌<◌, ◌^◌, Bool, true, false, Result, Ok, Err, List, ◌++◌, length, codes, ⊤}
use Rattle.std.specs.Int.{w16, to_be_bytes}
use Rattle.vdb_file.specs.declared.fault.LoadFault.{LoadFault}
use Rattle.vdb_file.specs.declared.fault.LoadFault.TheVariants as loads
use Rattle.vdb_file.specs.declared.fault.SaveFault.{SaveFault}
use Rattle.vdb_file.specs.declared.fault.SaveFault.TheVariants.{TooLong, Write}

-- whether it is the fault of a writer
abbrev pub is_write_fault : {X : Type 0} → Result X SaveFault → Bool
is_write_fault (Ok x) = false
is_write_fault (Err Write) = true
is_write_fault (Err TooLong) = false

-- whether it is the fault of a reader
abbrev pub is_read_fault : {X : Type 0} → Result X LoadFault → Bool
is_read_fault (Ok x) = false
is_read_fault (Err loads.Read) = true
is_read_fault (Err fault) = false

-- a fault claims something about the bytes, unless an allocation or the reader failed
abbrev pub Claims : LoadFault → Type 0
Claims loads.Memory = ⊥
Claims loads.Read = ⊥
Claims fault = ⊤

-- the first four bytes aren't `VDBS`
pub record HasOtherMagic (bytes : List ℕ) : Type 0 where
  pub magic : List ℕ
  pub rest : List ℕ
  pub begins : bytes ≡ magic ++ rest
  pub four : length magic ≡ 4
  pub differs : magic ≡ codes "VDBS" → ⊥

-- the first two bytes are no version number
pub record StartsWithOther (bytes : List ℕ) : Type 0 where
  pub number : ℕ
  pub rest : List ℕ
  pub begins : bytes ≡ to_be_bytes w16 number ++ rest
  pub small : number < 2 ^ 16
  pub not_one : number ≡ 1 → ⊥
  pub not_two : number ≡ 2 → ⊥

-- the two bytes after `VDBS` are no version number
pub record HasOtherVersion (bytes : List ℕ) : Type 0 where
  pub behind : List ℕ
  pub begins : bytes ≡ codes "VDBS" ++ behind
  pub other : StartsWithOther behind

-- as far as the bytes go, they begin with `VDBS` and the number of a version
abbrev pub BeginsAsFile : List ℕ → Type 0
BeginsAsFile bytes = (HasOtherMagic bytes → ⊥) × (HasOtherVersion bytes → ⊥)
