use Rattle.vdb_file.proofs.Common.{◌≡◌, ap, arith, subst, Err, err_from_is_err_and, scene_of, IsInner, IsMagicFault, IsVersionFault, Magic, Truncated}
use Rattle.vdb_file.specs.declared.fault.LoadFault.TheVariants.{Version}
use Rattle.vdb_file.proofs.Beginnings.{begins_as_file, has_other_version, inner_field, is_version, magic_field, short_magic, version_field}
use Rattle.vdb_file.proofs.SceneParts.{file_read, no_file_scene, no_file_version, no_magic}
use Rattle.vdb_file.proofs.loading.take_file.Goals as goal

pub returns-in_err-take_magic-clause-reads : goal.returns-in_err-take_magic-clause-reads
returns-in_err-take_magic-clause-reads g c =
    let p = err_from_is_err_and c.from_residual.result c.from_residual.ensures.1 in
    rw (p.1, p.2) (no_magic c.in_err-take_magic.field-0.0 _ c.in_err-take_magic.ensures.reads)

pub returns-in_err-take_magic-clause-fault : goal.returns-in_err-take_magic-clause-fault
returns-in_err-take_magic-clause-fault g c =
    let p = err_from_is_err_and c.from_residual.result c.from_residual.ensures.1 in
    rw (p.1, p.2) (magic_field c.in_err-take_magic.field-0.0 c.in_err-take_magic.ensures.fault)

pub returns-in_err-take_magic-clause-version : goal.returns-in_err-take_magic-clause-version
returns-in_err-take_magic-clause-version g c =
    let p = err_from_is_err_and c.from_residual.result c.from_residual.ensures.1 in
    rw (p.1, p.2) (λ e. let k : c.in_err-take_magic.field-0.0 ≡ Version = cc in absurd (subst IsMagicFault k c.in_err-take_magic.ensures.fault))

pub returns-in_err-version-clause-reads : goal.returns-in_err-version-clause-reads
returns-in_err-version-clause-reads g c =
    let p = err_from_is_err_and c.from_residual-in_err-version.result c.from_residual-in_err-version.ensures.1 in
    rw (p.1, p.2) (no_file_version c.in_err-version.field-0.0 _ _ c.in_ok-take_magic.ensures.reads.1 c.in_err-version.ensures.reads)

pub returns-in_err-version-clause-fault : goal.returns-in_err-version-clause-fault
returns-in_err-version-clause-fault g c =
    let p = err_from_is_err_and c.from_residual-in_err-version.result c.from_residual-in_err-version.ensures.1 in
    rw (p.1, p.2) (version_field c.in_err-version.field-0.0 c.in_err-version.ensures.fault)

pub returns-in_err-version-clause-magic : goal.returns-in_err-version-clause-magic
returns-in_err-version-clause-magic g c =
    let p = err_from_is_err_and c.from_residual-in_err-version.result c.from_residual-in_err-version.ensures.1 in
    rw (p.1, p.2) (λ e. let k : c.in_err-version.field-0.0 ≡ Magic = cc in absurd (subst IsVersionFault k c.in_err-version.ensures.fault))

pub returns-in_err-version-clause-version : goal.returns-in_err-version-clause-version
returns-in_err-version-clause-version g c =
    let p = err_from_is_err_and c.from_residual-in_err-version.result c.from_residual-in_err-version.ensures.1 in
    rw (p.1, p.2) (λ e. let k : c.in_err-version.field-0.0 ≡ Version = cc in has_other_version _ _ c.in_ok-take_magic.ensures.reads.1.bytes (c.in_err-version.ensures.version (ap Err k)))

pub returns-in_err-scene-clause-reads : goal.returns-in_err-scene-clause-reads
returns-in_err-scene-clause-reads g c =
    let p = err_from_is_err_and c.from_residual-in_err-scene.result c.from_residual-in_err-scene.ensures.1 in
    rw (p.1, p.2) (no_file_scene c.in_err-scene.field-0.0 _ _ c.in_ok-take_magic.ensures.reads.1 _ c.in_ok-version.version c.in_ok-version.ensures.reads.1 c.in_err-scene.ensures.reads)

pub returns-in_err-scene-clause-fault : goal.returns-in_err-scene-clause-fault
returns-in_err-scene-clause-fault g c =
    let p = err_from_is_err_and c.from_residual-in_err-scene.result c.from_residual-in_err-scene.ensures.1 in
    rw (p.1, p.2) (inner_field c.in_err-scene.field-0.0 c.in_err-scene.ensures.inner)

pub returns-in_err-scene-clause-magic : goal.returns-in_err-scene-clause-magic
returns-in_err-scene-clause-magic g c =
    let p = err_from_is_err_and c.from_residual-in_err-scene.result c.from_residual-in_err-scene.ensures.1 in
    rw (p.1, p.2) (λ e. let k : c.in_err-scene.field-0.0 ≡ Magic = cc in absurd (subst IsInner k c.in_err-scene.ensures.inner))

pub returns-in_err-scene-clause-version : goal.returns-in_err-scene-clause-version
returns-in_err-scene-clause-version g c =
    let p = err_from_is_err_and c.from_residual-in_err-scene.result c.from_residual-in_err-scene.ensures.1 in
    rw (p.1, p.2) (λ e. let k : c.in_err-scene.field-0.0 ≡ Version = cc in absurd (subst IsInner k c.in_err-scene.ensures.inner))

pub returns-clause-reads : goal.returns-clause-reads
returns-clause-reads g c =
    file_read _ _ _ _ c.in_ok-version.version (scene_of c.in_ok-scene.scene) c.in_ok-scene.ensures.reads.0 c.in_ok-take_magic.ensures.reads.1 c.in_ok-version.ensures.reads.1 c.in_ok-scene.ensures.reads.1

pub returns-in_err-take_magic-clause-short : goal.returns-in_err-take_magic-clause-short
returns-in_err-take_magic-clause-short g c =
    let p = err_from_is_err_and c.from_residual.result c.from_residual.ensures.1 in
    rw (p.1, p.2) (λ e fits. let k : c.in_err-take_magic.field-0.0 ≡ Truncated = cc in short_magic _ (c.in_err-take_magic.ensures.short (ap Err k) (omega (arith, fits))))

pub returns-in_err-version-clause-short : goal.returns-in_err-version-clause-short
returns-in_err-version-clause-short g c =
    let p = err_from_is_err_and c.from_residual-in_err-version.result c.from_residual-in_err-version.ensures.1 in
    rw (p.1, p.2) (λ e fits.
    let k : c.in_err-version.field-0.0 ≡ Truncated = cc in
    let took = c.in_ok-take_magic.ensures.reads.1 in
    begins_as_file _ _ took.bytes (c.in_err-version.ensures.short (ap Err k) (omega (arith, fits, took.fewer))))

pub returns-in_err-scene-clause-short : goal.returns-in_err-scene-clause-short
returns-in_err-scene-clause-short g c =
    let p = err_from_is_err_and c.from_residual-in_err-scene.result c.from_residual-in_err-scene.ensures.1 in
    rw (p.1, p.2) (λ e fits. begins_as_file _ _ c.in_ok-take_magic.ensures.reads.1.bytes (is_version _ _ c.in_ok-version.version c.in_ok-version.ensures.reads.1.bytes))
