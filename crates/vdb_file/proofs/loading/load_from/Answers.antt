use Rattle.vdb_file.proofs.Common.{◌≡◌, ◌∙◌, ◌≤◌, false, true, ap, arith, sym, subst, Err, Ok, Some, IfSome, err_from_is_err_and, scene_of, Scene, BeginsAsFile, Claims, HasOtherMagic, HasOtherVersion, IsFieldFault, Version, IsFile, bytes_of_file, Fails, GaveWithin, Stock, Took, ahead, byte_total, position}
use Rattle.std.proofs.KnownBytes.{prepend_known-end}
use Rattle.vdb_file.specs.declared.fault.LoadFault.TheVariants as faults
use Rattle.vdb_file.proofs.FieldBytes.{ended_within, gave_few, gave_within}
use Rattle.vdb_file.proofs.WholeFiles.{begins_only, ends_early, file_and_more, no_file, nothing_before, reader_at_end, scene_is, whole_file}
use Rattle.vdb_file.proofs.loading.load_from.Goals as goal

pub take_file-requires : goal.take_file-requires
take_file-requires g c = record { ends = λ e. let never : false ≡ true = sym (ap (λ (s : Stock). s.ended) c.new-input.ensures) ∙ e in cc }

pub returns-in_err-file-clause-none : goal.returns-in_err-file-clause-none
returns-in_err-file-clause-none g c =
    let known = (g.S.Source.state c.args.reader.now).remaining in
    let p = err_from_is_err_and c.from_residual.result c.from_residual.ensures.1 in
    rw (p.1, p.2) (no_file c.in_err-file.field-0.0 known (subst (λ (s : Stock). Fails IsFile bytes_of_file c.in_err-file.field-0.0 (position s known)) c.new-input.ensures c.in_err-file.ensures.reads))

pub returns-in_err-file-clause-magic : goal.returns-in_err-file-clause-magic
returns-in_err-file-clause-magic g c =
    let known = (g.S.Source.state c.args.reader.now).remaining in
    let p = err_from_is_err_and c.from_residual.result c.from_residual.ensures.1 in
    rw (p.1, p.2) (λ e.
    let k : c.in_err-file.field-0.0 ≡ faults.Magic = cc in
    nothing_before known HasOtherMagic (subst (λ (s : Stock). IfSome (position s known).known HasOtherMagic) c.new-input.ensures (c.in_err-file.ensures.magic (ap Err k))))

pub returns-in_err-file-clause-version : goal.returns-in_err-file-clause-version
returns-in_err-file-clause-version g c =
    let known = (g.S.Source.state c.args.reader.now).remaining in
    let p = err_from_is_err_and c.from_residual.result c.from_residual.ensures.1 in
    rw (p.1, p.2) (λ e.
    let k : c.in_err-file.field-0.0 ≡ faults.Version = cc in
    nothing_before known HasOtherVersion (subst (λ (s : Stock). IfSome (position s known).known HasOtherVersion) c.new-input.ensures (c.in_err-file.ensures.version (ap Err k))))

pub returns-in_err-file-clause-truncated : goal.returns-in_err-file-clause-truncated
returns-in_err-file-clause-truncated g c =
    let p = err_from_is_err_and c.from_residual.result c.from_residual.ensures.1 in
    rw (p.1, p.2) (λ e.
    let known = (g.S.Source.state c.args.reader.now).remaining in
    let k : c.in_err-file.field-0.0 ≡ faults.Truncated = cc in
    let fails = subst (λ (s : Stock). Fails IsFile bytes_of_file c.in_err-file.field-0.0 (position s known)) c.new-input.ensures c.in_err-file.ensures.reads in
    let begins = c.in_err-file.ensures.short (ap Err k) (subst (λ (s : Stock). 6 ≤ s.capacity) (sym c.new-input.ensures) (omega arith)) in (
      reader_at_end _ _ (c.in_err-file.ensures.moves.ended (ap Err k)),
      ends_early c.in_err-file.field-0.0 known fails (subst Claims (sym k) tt) (subst (λ (s : Stock). IfSome (position s known).known BeginsAsFile) c.new-input.ensures begins),
    ))

pub returns-in_err-file-clause-trailing : goal.returns-in_err-file-clause-trailing
returns-in_err-file-clause-trailing g c =
    let p = err_from_is_err_and c.from_residual.result c.from_residual.ensures.1 in
    rw (p.1, p.2) (λ e. let k : c.in_err-file.field-0.0 ≡ faults.Trailing = cc in absurd (subst IsFieldFault k c.in_err-file.ensures.fault))

pub returns-in_err-file-clause-few : goal.returns-in_err-file-clause-few
returns-in_err-file-clause-few g c =
    let known = (g.S.Source.state c.args.reader.now).remaining in
    gave_few c.take_file.new.input _ _ (λ n h. c.in_err-file.ensures.moves.total n (subst (λ (s : Stock). byte_total s known ≡ Some n) (sym c.new-input.ensures) h))

pub returns-in_err-more-clause-few : goal.returns-in_err-more-clause-few
returns-in_err-more-clause-few g c =
    let known = (g.S.Source.state c.args.reader.now).remaining in
    gave_few c.fill.new.self _ _ (λ n h. c.in_err-more.ensures.total n (c.in_ok-file.ensures.moves.total n (subst (λ (s : Stock). byte_total s known ≡ Some n) (sym c.new-input.ensures) h)))

pub returns-then-more-clause-few : goal.returns-then-more-clause-few
returns-then-more-clause-few g c =
    let known = (g.S.Source.state c.args.reader.now).remaining in
    gave_few c.fill.new.self _ _ (λ n h. c.in_ok-more.ensures.total n (c.in_ok-file.ensures.moves.total n (subst (λ (s : Stock). byte_total s known ≡ Some n) (sym c.new-input.ensures) h)))

pub returns-clause-few : goal.returns-clause-few
returns-clause-few g c =
    let known = (g.S.Source.state c.args.reader.now).remaining in
    gave_few c.fill.new.self _ _ (λ n h. c.in_ok-more.ensures.total n (c.in_ok-file.ensures.moves.total n (subst (λ (s : Stock). byte_total s known ≡ Some n) (sym c.new-input.ensures) h)))

pub returns-in_err-more-clause-none : goal.returns-in_err-more-clause-none
returns-in_err-more-clause-none g c =
    let p = err_from_is_err_and c.from_residual-in_err-more.result c.from_residual-in_err-more.ensures.1 in
    rw (p.1, p.2) (let m = c.in_err-more.ensures.read in rw m (λ claims. absurd claims))

pub returns-then-more-clause-none : goal.returns-then-more-clause-none
returns-then-more-clause-none g c claims =
    let known = (g.S.Source.state c.args.reader.now).remaining in
    let file : Version × Scene = (c.in_ok-file.file.0, scene_of c.in_ok-file.file.1) in
    let mid = ahead c.take_file.new.input (g.S.Source.state c.take_file.new.reader) in
    let took = subst (λ (s : Stock). Took (position s known) mid (bytes_of_file file)) c.new-input.ensures c.in_ok-file.ensures.reads.1 in
    begins_only known (file_and_more file known (g.S.Source.state c.fill.new.reader).remaining mid c.fill.new.self.unread c.in_ok-file.ensures.reads.0 took c.in_ok-more.ensures.kept (c.in_ok-more.ensures.some (ap Ok c.if-more.true)))

pub returns-then-more-clause-trailing : goal.returns-then-more-clause-trailing
returns-then-more-clause-trailing g c e =
    let known = (g.S.Source.state c.args.reader.now).remaining in
    let file : Version × Scene = (c.in_ok-file.file.0, scene_of c.in_ok-file.file.1) in
    let mid = ahead c.take_file.new.input (g.S.Source.state c.take_file.new.reader) in
    let took = subst (λ (s : Stock). Took (position s known) mid (bytes_of_file file)) c.new-input.ensures c.in_ok-file.ensures.reads.1 in
    file_and_more file known (g.S.Source.state c.fill.new.reader).remaining mid c.fill.new.self.unread c.in_ok-file.ensures.reads.0 took c.in_ok-more.ensures.kept (c.in_ok-more.ensures.some (ap Ok c.if-more.true))

pub returns-clause-scene : goal.returns-clause-scene
returns-clause-scene g c = scene_is c.in_ok-file.file.0 (scene_of c.in_ok-file.file.1) c.in_ok-file.ensures.reads.0

pub returns-clause-loaded : goal.returns-clause-loaded
returns-clause-loaded g c =
    let known = (g.S.Source.state c.args.reader.now).remaining in
    let file : Version × Scene = (c.in_ok-file.file.0, scene_of c.in_ok-file.file.1) in
    let mid = ahead c.take_file.new.input (g.S.Source.state c.take_file.new.reader) in
    let took = subst (λ (s : Stock). Took (position s known) mid (bytes_of_file file)) c.new-input.ensures c.in_ok-file.ensures.reads.1 in
    whole_file file known mid c.in_ok-file.ensures.reads.0 took
    (prepend_known-end _ _ _ c.in_ok-more.ensures.kept (c.in_ok-more.ensures.none (ap Ok c.if-more.false)) (c.in_ok-more.ensures.end (ap Ok c.if-more.false)))

pub returns-clause-end : goal.returns-clause-end
returns-clause-end g c = c.in_ok-more.ensures.end (ap Ok c.if-more.false)

pub returns-in_err-file-clause-given : goal.returns-in_err-file-clause-given
returns-in_err-file-clause-given g c = (gave_within c.take_file.new.input _ _ _ _ (λ n m h. c.in_err-file.ensures.moves.given n m (subst (λ (s : Stock). GaveWithin n m s (g.S.Source.state c.args.reader.now).given (g.S.Source.state c.args.reader.now).empty) (sym c.new-input.ensures) h))).0

pub returns-in_err-file-clause-once : goal.returns-in_err-file-clause-once
returns-in_err-file-clause-once g c = (gave_within c.take_file.new.input _ _ _ _ (λ n m h. c.in_err-file.ensures.moves.given n m (subst (λ (s : Stock). GaveWithin n m s (g.S.Source.state c.args.reader.now).given (g.S.Source.state c.args.reader.now).empty) (sym c.new-input.ensures) h))).1

pub returns-in_err-more-clause-given : goal.returns-in_err-more-clause-given
returns-in_err-more-clause-given g c = (gave_within c.fill.new.self _ _ _ _ (λ n m h. c.in_err-more.ensures.given n m (c.in_ok-file.ensures.moves.given n m (subst (λ (s : Stock). GaveWithin n m s (g.S.Source.state c.args.reader.now).given (g.S.Source.state c.args.reader.now).empty) (sym c.new-input.ensures) h)))).0

pub returns-in_err-more-clause-once : goal.returns-in_err-more-clause-once
returns-in_err-more-clause-once g c = (gave_within c.fill.new.self _ _ _ _ (λ n m h. c.in_err-more.ensures.given n m (c.in_ok-file.ensures.moves.given n m (subst (λ (s : Stock). GaveWithin n m s (g.S.Source.state c.args.reader.now).given (g.S.Source.state c.args.reader.now).empty) (sym c.new-input.ensures) h)))).1

pub returns-then-more-clause-given : goal.returns-then-more-clause-given
returns-then-more-clause-given g c = (gave_within c.fill.new.self _ _ _ _ (λ n m h. c.in_ok-more.ensures.given n m (c.in_ok-file.ensures.moves.given n m (subst (λ (s : Stock). GaveWithin n m s (g.S.Source.state c.args.reader.now).given (g.S.Source.state c.args.reader.now).empty) (sym c.new-input.ensures) h)))).0

pub returns-then-more-clause-once : goal.returns-then-more-clause-once
returns-then-more-clause-once g c = (gave_within c.fill.new.self _ _ _ _ (λ n m h. c.in_ok-more.ensures.given n m (c.in_ok-file.ensures.moves.given n m (subst (λ (s : Stock). GaveWithin n m s (g.S.Source.state c.args.reader.now).given (g.S.Source.state c.args.reader.now).empty) (sym c.new-input.ensures) h)))).1

pub returns-clause-given : goal.returns-clause-given
returns-clause-given g c = (gave_within c.fill.new.self _ _ _ _ (λ n m h. c.in_ok-more.ensures.given n m (c.in_ok-file.ensures.moves.given n m (subst (λ (s : Stock). GaveWithin n m s (g.S.Source.state c.args.reader.now).given (g.S.Source.state c.args.reader.now).empty) (sym c.new-input.ensures) h)))).0

pub returns-clause-once : goal.returns-clause-once
returns-clause-once g c = (gave_within c.fill.new.self _ _ _ _ (λ n m h. c.in_ok-more.ensures.given n m (c.in_ok-file.ensures.moves.given n m (subst (λ (s : Stock). GaveWithin n m s (g.S.Source.state c.args.reader.now).given (g.S.Source.state c.args.reader.now).empty) (sym c.new-input.ensures) h)))).1

pub returns-clause-ended : goal.returns-clause-ended
returns-clause-ended g c =
    let no_more = ap Ok c.if-more.false in
    ended_within c.fill.new.self _ _ _ _ (c.in_ok-more.ensures.none no_more) (c.in_ok-more.ensures.ended no_more)
    (λ n m h. c.in_ok-more.ensures.given n m (c.in_ok-file.ensures.moves.given n m (subst (λ (s : Stock). GaveWithin n m s (g.S.Source.state c.args.reader.now).given (g.S.Source.state c.args.reader.now).empty) (sym c.new-input.ensures) h)))
