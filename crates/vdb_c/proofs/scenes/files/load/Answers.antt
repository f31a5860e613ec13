-- What a fault of loading says of bytes in memory.
use Rattle.vdb_c.proofs.Common.{◌≡◌, refl, ap, ℕ, List, Ok, Err, false, Result, Scene}
use Rattle.std.specs.Prelude.{IfErr}
use Rattle.vdb_file.specs.Faults.{Claims, HasOtherMagic, HasOtherVersion, is_read_fault}
use Rattle.vdb_file.specs.Scenes.{BeginsWithFile, EndsEarly}
use Rattle.vdb_file.specs.declared.fault.LoadFault.{LoadFault}
use Rattle.vdb_file.specs.declared.fault.LoadFault.TheVariants as faults
use Rattle.vdb_c.specs.Scenes.{IsNoFile, Means}
use Rattle.vdb_c.proofs.scenes.files.load.Goals as goal

module _ (bytes : List ℕ) where
  -- what it says of a fault
  meant : (fault : LoadFault) → (Claims fault → IsNoFile bytes) → (fault ≡ faults.Magic → HasOtherMagic bytes)
      → (fault ≡ faults.Version → HasOtherVersion bytes)
      → (fault ≡ faults.Truncated → EndsEarly bytes) → (fault ≡ faults.Trailing → BeginsWithFile bytes)
      → is_read_fault {X = Scene} (Err fault) ≡ false → Means fault bytes
  meant faults.Memory none magic version short trailing unread = tt
  meant faults.Read none magic version short trailing unread = absurd cc
  meant faults.Magic none magic version short trailing unread = (none tt, magic refl)
  meant faults.Version none magic version short trailing unread = (none tt, version refl)
  meant faults.Trailing none magic version short trailing unread = (none tt, trailing refl)
  meant faults.Truncated none magic version short trailing unread = (none tt, short refl)
  meant faults.Name none magic version short trailing unread = none tt
  meant faults.Kind none magic version short trailing unread = none tt
  meant faults.Value none magic version short trailing unread = none tt
  meant faults.Limit none magic version short trailing unread = none tt
  meant faults.Meta none magic version short trailing unread = none tt
  meant faults.Key none magic version short trailing unread = none tt
  meant faults.RootLimit none magic version short trailing unread = none tt
  meant faults.Tag none magic version short trailing unread = none tt
  meant faults.Index none magic version short trailing unread = none tt
  meant faults.Background none magic version short trailing unread = none tt
  meant faults.ConstantNode none magic version short trailing unread = none tt
  meant faults.TooLong none magic version short trailing unread = none tt

  -- the same of a result
  meant_by : (r : Result Scene LoadFault) → IfErr r (λ fault. Claims fault → IsNoFile bytes) → (r ≡ Err faults.Magic → HasOtherMagic bytes)
      → (r ≡ Err faults.Version → HasOtherVersion bytes) → (r ≡ Err faults.Truncated → EndsEarly bytes)
      → (r ≡ Err faults.Trailing → BeginsWithFile bytes) → is_read_fault r ≡ false
      → IfErr r (λ fault. Means fault bytes)
  meant_by (Ok scene) none magic version short trailing unread = tt
  meant_by (Err fault) none magic version short trailing unread =
      meant fault none (λ e. magic (ap Err e)) (λ e. version (ap Err e)) (λ e. short (ap Err e)) (λ e. trailing (ap Err e)) unread

pub returns-clause-fault : goal.returns-clause-fault
returns-clause-fault c =
    let e = c.load_bytes.ensures in
    meant_by c.args.bytes.now c.load_bytes.result e.none e.magic e.version e.truncated e.trailing e.read
