use Rattle.vdb_file.proofs.Common.{rules, ◌≡◌, length, true, false, not, refl, sym, subst, ◌∙◌, codes, ⊤, err_from_is_err_and, Claims, IsInner, Magic, Truncated}
use Rattle.std.proofs.Common.{nat_eq}
use Rattle.std.specs.Cmp.Lexicographic.{pointwise}
use Rattle.vdb_file.proofs.Fronts.{fails_turn}
use Rattle.vdb_file.proofs.Beginnings.{fewer_than, has_other_magic, inner_magic, other_magic}
use Rattle.vdb_file.proofs.loading.versions.take_magic.Goals as goal

pub returns-in_err-take_field-clause-reads : goal.returns-in_err-take_field-clause-reads
returns-in_err-take_field-clause-reads g c =
    let p = err_from_is_err_and c.from_residual.result c.from_residual.ensures.1 in
    rw (p.1, p.2) (fails_turn (λ (u : Unit {0}). ⊤) (λ u. codes "VDBS") (λ b. length b ≡ 4) (λ b. b) (λ u. codes "VDBS") c.in_err-take_field.field-0.0 _ (λ a q. refl) (λ a q. refl) c.in_err-take_field.ensures.reads)

pub returns-in_err-take_field-clause-fault : goal.returns-in_err-take_field-clause-fault
returns-in_err-take_field-clause-fault g c =
    let p = err_from_is_err_and c.from_residual.result c.from_residual.ensures.1 in
    rw (p.1, p.2) (inner_magic c.in_err-take_field.field-0.0 c.in_err-take_field.ensures.inner)

pub returns-in_err-take_field-clause-magic : goal.returns-in_err-take_field-clause-magic
returns-in_err-take_field-clause-magic g c =
    let p = err_from_is_err_and c.from_residual.result c.from_residual.ensures.1 in
    rw (p.1, p.2) (λ e. let k : c.in_err-take_field.field-0.0 ≡ Magic = cc in absurd (subst IsInner k c.in_err-take_field.ensures.inner))

pub returns-then-ne-clause-reads : goal.returns-then-ne-clause-reads
returns-then-ne-clause-reads g c =
    other_magic _ _ _ c.take_field.new.field c.in_ok-take_field.ensures.reads.1 (search rules) (λ e.
    let x = c.ne.ensures in
    let y = c.as_slice.ensures in
    let z = c.as_slice-2.ensures in
    let same : c.ne.result ≡ false = x ∙ (λ j. not (pointwise nat_eq ((y ∙ e) j) (z j))) in
    let never : true ≡ false = sym c.if-ne.true ∙ same in cc)

pub returns-then-ne-clause-magic : goal.returns-then-ne-clause-magic
returns-then-ne-clause-magic g c f =
    has_other_magic _ _ c.take_field.new.field c.in_ok-take_field.ensures.reads.1.bytes (search rules) (λ e.
    let x = c.ne.ensures in
    let y = c.as_slice.ensures in
    let z = c.as_slice-2.ensures in
    let same : c.ne.result ≡ false = x ∙ (λ j. not (pointwise nat_eq ((y ∙ e) j) (z j))) in
    let never : true ≡ false = sym c.if-ne.true ∙ same in cc)

pub returns-in_err-take_field-clause-short : goal.returns-in_err-take_field-clause-short
returns-in_err-take_field-clause-short g c =
    let p = err_from_is_err_and c.from_residual.result c.from_residual.ensures.1 in
    rw (p.1, p.2) (λ e fits.
    let k : c.in_err-take_field.field-0.0 ≡ Truncated = cc in
    fewer_than 4 c.in_err-take_field.field-0.0 _ (subst Claims (sym k) tt) fits c.in_err-take_field.ensures.reads)
