-- The names that most proofs of this crate cite, passed on from one place. It declares nothing.
pub use Rattle.std.proofs.Common.{Bool, List, None, Option, Some, ap, arith, false, int_le, length, not, refl, sym, true, ℕ, ◌&&◌, ◌||◌, ◌∙◌, ◌≡◌, ◌≤◌}
pub use Rattle.std.specs.List.{list_any}
pub use Rattle.std.specs.Prelude.{int_lt}
pub use Rattle.vdb_coord.proofs.Boxes.{and_true, both, box_from_inside, three}
pub use Rattle.vdb_coord.specs.Blocks.{block_around, vdb}
pub use Rattle.vdb_coord.specs.Boxes.{box_of, is_bounds}
pub use Rattle.vdb_coord.specs.Faces.{faces}
pub use Rattle.vdb_coord.specs.Space.{Box, everywhere, is_between, is_box, is_inside, is_within}
pub use Rattle.vdb_coord.specs.declared.Bits.{Bits}
pub use Rattle.vdb_coord.specs.declared.Coord.{Coord}
pub use Rattle.vdb_coord.specs.declared.Level.{Level}
pub use Rattle.vdb_coord.specs.declared.Level.TheVariants.{Leaf, Lower, Upper}
pub use Rattle.vdb_coord.specs.declared.face.Face.{Face}
pub use Rattle.vdb_coord.specs.declared.face.Face.TheVariants.{MinusX, MinusY, MinusZ, PlusX, PlusY, PlusZ}
pub use Rattle.vdb_region.specs.internal.Beyond.{clear, half, is_beyond}
pub use Rattle.vdb_region.specs.internal.Rings.{hull, inner, outer}
pub use Rattle.vdb_tree.proofs.Blocks.{never}
pub use Rattle.vdb_tree.specs.ConstantBlocks.{roots}
pub use Rattle.vdb_tree.specs.Field.{Field, clip, fill, off}
pub use Rattle.vdb_tree.specs.Layout.{cell_at, field_of}
pub use Rattle.vdb_value.specs.declared.Cell.{Cell}
