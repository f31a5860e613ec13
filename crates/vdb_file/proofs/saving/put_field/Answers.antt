use Rattle.vdb_file.proofs.Common.{refl, sym, beq, on_ok_weaker, w32, w64, int_eq, vdb, number_bytes, truth_bytes, cell_at, scalar_bytes, scalar_eq}
use Rattle.vdb_scene.specs.declared.scalar.Scalar.TheVariants as scalars
use Rattle.vdb_file.proofs.MadeBodies.{made_roots}
use Rattle.vdb_file.proofs.Outputs.{puts_same}
use Rattle.vdb_file.proofs.saving.put_field.Goals as goal

pub returns-in-Bool-clause-puts : goal.returns-in-Bool-clause-puts
returns-in-Bool-clause-puts g c =
    let t = c.tree.result.now in
    let made = made_roots scalars.Bool t.background (cell_at vdb t) beq scalar_eq (λ v w. refl) truth_bytes scalar_bytes (λ v. refl) vdb in
    rw (c.in-Bool.is, ← c.tree.ensures) (on_ok_weaker c.put_roots.result (λ h. puts_same _ _ _ _ (sym made) h) c.put_roots.ensures.puts)

pub returns-in-I32-clause-puts : goal.returns-in-I32-clause-puts
returns-in-I32-clause-puts g c =
    let t = c.tree-in-I32.result.now in
    let made = made_roots scalars.I32 t.background (cell_at vdb t) int_eq scalar_eq (λ v w. refl) (number_bytes w32) scalar_bytes (λ v. refl) vdb in
    rw (c.in-I32.is, ← c.tree-in-I32.ensures) (on_ok_weaker c.put_roots-in-I32.result (λ h. puts_same _ _ _ _ (sym made) h) c.put_roots-in-I32.ensures.puts)

pub returns-in-I64-clause-puts : goal.returns-in-I64-clause-puts
returns-in-I64-clause-puts g c =
    let t = c.tree-in-I64.result.now in
    let made = made_roots scalars.I64 t.background (cell_at vdb t) int_eq scalar_eq (λ v w. refl) (number_bytes w64) scalar_bytes (λ v. refl) vdb in
    rw (c.in-I64.is, ← c.tree-in-I64.ensures) (on_ok_weaker c.put_roots-in-I64.result (λ h. puts_same _ _ _ _ (sym made) h) c.put_roots-in-I64.ensures.puts)
