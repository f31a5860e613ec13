-- The buffer and its reader after a series of calls.
use Rattle.vdb_file.proofs.Common.{◌≡◌, Bool, ◌||◌, ap, sym, ◌∙◌, Result, Ok, Err, IfErr, LoadFault, Memory, Truncated, Stock}
use Rattle.std.proofs.Math.Bool.{or-false}
use Rattle.vdb_file.specs.Faults.{is_read_fault}
use Rattle.vdb_file.specs.internal.Reading.{Moves, Reader}

same_fault : {X : Type 0} (a b : LoadFault) → ◌≡◌ {A = Result X LoadFault} (Err a) (Err b) → a ≡ b
same_fault a b e = cc

module _ {X Y : Type 0} {s t : Stock} {r u : Reader} where
  -- one call succeeded, and the next is the last
  pub moves_then : {v : Stock} {w : Reader} {x : X} {result : Result Y LoadFault} → Moves {X = X} s r t u (Ok x) → Moves {X = Y} t u v w result → Moves {X = Y} s r v w result
  moves_then {result = result} m k = record {
    ends = k.ends;
    total = λ n h. k.total n (m.total n h);
    given = λ n c h. k.given n c (m.given n c h);
    ended = k.ended;
    failed = k.failed ∙ ap (λ b. b || is_read_fault result) (m.failed ∙ or-false r.failed);
  }

  -- the caller succeeds with another value
  pub moves_ok : {x : X} {y : Y} → Moves {X = X} s r t u (Ok x) → Moves {X = Y} s r t u (Ok y)
  moves_ok m = record { ends = m.ends; total = m.total; given = m.given; ended = λ e. absurd cc; failed = m.failed }

  -- the caller fails with the same fault
  pub moves_err : {fault : LoadFault} → Moves {X = X} s r t u (Err fault) → Moves {X = Y} s r t u (Err fault)
  moves_err {fault = fault} m = record { ends = m.ends; total = m.total; given = m.given; ended = λ e. m.ended (ap Err (same_fault {X = Y} fault Truncated e)); failed = m.failed }

-- a reader that succeeds has failed if it had before
pub moves_failed : {X : Type 0} {s t : Stock} {r u : Reader} {x : X} → Moves {X = X} s r t u (Ok x) → u.failed ≡ r.failed
moves_failed {r = r} m = m.failed ∙ or-false r.failed

-- an allocation failure is neither the end nor a failure of the reader
memory_ended : (result : Result (Unit {0}) LoadFault) → IfErr result (λ fault. fault ≡ Memory) → {C : Type 0} → result ≡ Err Truncated → C
memory_ended (Ok x) h e = absurd cc
memory_ended (Err fault) h e = absurd (let never : Memory ≡ Truncated = sym h ∙ same_fault {X = Unit {0}} fault Truncated e in cc)

memory_failed : (result : Result (Unit {0}) LoadFault) → IfErr result (λ fault. fault ≡ Memory) → (old : Bool) → old ≡ (old || is_read_fault result)
memory_failed (Ok x) h old = sym (or-false old)
memory_failed (Err fault) h old = rw h (sym (or-false old))

pub memory_moves : {X : Type 0} {s t : Stock} {r u : Reader} {x : X} → Moves {X = X} s r t u (Ok x) → (result : Result (Unit {0}) LoadFault) → IfErr result (λ fault. fault ≡ Memory) → Moves {X = Unit {0}} s r t u result
memory_moves {r = r} m result h = record {
  ends = m.ends;
  total = m.total;
  given = m.given;
  ended = λ e. memory_ended result h e;
  failed = m.failed ∙ or-false r.failed ∙ memory_failed result h r.failed;
}
