-- The field that a reader of cells reads.
use Rattle.vdb_coord.specs.Blocks.{vdb}
use Rattle.vdb_tree.specs.Field.{Field, as_field_of}
use Rattle.vdb_tree.specs.Layout.{field_of}
use Rattle.vdb_scene.specs.declared.scalar.Scalar.{Scalar}
use Rattle.vdb_scene.specs.declared.scalar.Scalar.TheVariants as scalars
use Rattle.vdb_scene.specs.declared.reader.AnyReader.{AnyReader}
use Rattle.vdb_scene.specs.declared.reader.AnyReader.TheVariants.{Bool, I32, I64}

-- the field of the grid that a reader borrows
abbrev pub field_read : AnyReader → Field Scalar
field_read (Bool t) = as_field_of scalars.Bool (field_of vdb t)
field_read (I32 t) = as_field_of scalars.I32 (field_of vdb t)
field_read (I64 t) = as_field_of scalars.I64 (field_of vdb t)
