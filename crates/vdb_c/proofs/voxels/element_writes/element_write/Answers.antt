use Rattle.vdb_c.proofs.Common.{◌∙◌, ap, ℕ, ℤ, Option, slice_get, change_of}
use Rattle.vdb_c.proofs.voxels.element_writes.element_write.Goals as goal

pub returns : goal.returns
returns g c =
    c.write_of.ensures ∙ ap (λ (n : Option ℤ). change_of g.V.Voxel.KIND n c.element-byte.result) c.element-number.ensures
    ∙ ap (λ (b : Option ℕ). change_of g.V.Voxel.KIND (slice_get c.args.values.now c.args.index) b) c.element-byte.ensures
