use Rattle.vdb_file.proofs.Common.{◌≡◌, ◌∙◌, true, false, ap, sym, err_from_is_err_and, vdb, Box, is_inside, Upper}
use Rattle.vdb_coord.specs.Entries.{numbers_over}
use Rattle.vdb_file.proofs.KeyCodes.{no_key_bytes, no_such_key}
use Rattle.vdb_file.proofs.Standard.{standard_bits}
use Rattle.vdb_file.proofs.loading.block_head.take_key.Goals as goal

pub returns-in_err-key-clause-reads : goal.returns-in_err-key-clause-reads
returns-in_err-key-clause-reads g c =
    let e = err_from_is_err_and c.from_residual.result c.from_residual.ensures.1 in
    rw (e.1, e.2) (no_key_bytes vdb standard_bits c.args.before c.in_err-key.field-0.0 _ c.in_err-key.ensures.reads)

pub returns-then-not-key_follows-clause-reads : goal.returns-then-not-key_follows-clause-reads
returns-then-not-key_follows-clause-reads g c =
    no_such_key vdb standard_bits c.args.before _ _ _ c.in_ok-key.key c.in_ok-key.ensures.reads.0 c.in_ok-key.ensures.reads.1
    (λ p. let never = c.key_follows.ensures.1 p.later in let false_is = c.if-not-key_follows.true in cc)

pub returns-then-not-contains-clause-reads : goal.returns-then-not-contains-clause-reads
returns-then-not-contains-clause-reads g c =
    no_such_key vdb standard_bits c.args.before _ _ _ c.in_ok-key.key c.in_ok-key.ensures.reads.0 c.in_ok-key.ensures.reads.1
    (λ p.
    let keys = c.block_numbers_in-keys.ensures.numbers ∙ ap (λ (b : Box). numbers_over vdb Upper b) c.all.ensures in
    let inside = c.contains.ensures ∙ ap (λ (b : Box). is_inside b c.in_ok-key.key) keys ∙ p.inside in
    let never : true ≡ false = sym inside ∙ c.if-not-contains.true in
    absurd cc)
