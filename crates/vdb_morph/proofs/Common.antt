-- The names that most proofs of this crate cite, passed on from one place. It declares nothing.
pub use Rattle.std.proofs.Common.{Bool, Err, IfSome, IsTrue, List, None, Ok, Option, Result, Some, [], ap, arith, cond, false, get_or, if◌then◌else◌, inl, inr, length, not, pos, refl, rules, slice_index_or, subst, sym, take, true, ℕ, ℤ, ◌%◌, ◌&&◌, ◌*ℤ◌, ◌*◌, ◌+ℤ◌, ◌+◌, ◌-ℤ◌, ◌-◌, ◌/◌, ◌<◌, ◌^◌, ◌||◌, ◌∙◌, ◌∷◌, ◌≡◌, ◌≢◌, ◌≤◌, ◌⊎◌}
pub use Rattle.std.proofs.Math.Bool.{or-false}
pub use Rattle.std.proofs.Math.Path.{fun_ext}
pub use Rattle.std.proofs.lemmas.Bool.Decides.{eqb_tells}
pub use Rattle.std.proofs.lemmas.Int.{ints}
pub use Rattle.std.specs.List.{cons_option, filter_map, list_all, list_any}
pub use Rattle.std.specs.Prelude.{IsNone}
pub use Rattle.vdb_coord.proofs.BlockOrder.{not_before_min}
pub use Rattle.vdb_coord.proofs.Boxes.{and_true, both, box_from_inside, not_true, same_truth}
pub use Rattle.vdb_coord.proofs.Division.{parts, quotient, quotient_of, rest, rest_below}
pub use Rattle.vdb_coord.proofs.InRange.{block_in_range, number_in_range}
pub use Rattle.vdb_coord.proofs.Meeting.{fits_everywhere, within_each}
pub use Rattle.vdb_coord.proofs.Members.{coord_equiv, coord_exact}
pub use Rattle.vdb_coord.proofs.Nesting.{number_in_block}
pub use Rattle.vdb_coord.proofs.Positions.{entries_is, offset_below}
pub use Rattle.vdb_coord.specs.Blocks.{block_around, block_number, block_numbers, offset, vdb}
pub use Rattle.vdb_coord.specs.Boxes.{is_bounds}
pub use Rattle.vdb_coord.specs.Entries.{AreBits}
pub use Rattle.vdb_coord.specs.Faces.{faces, neighbour, neighbours, toward}
pub use Rattle.vdb_coord.specs.Space.{Box, coord, coord_eq, everywhere, is_box, is_inside, is_within}
pub use Rattle.vdb_coord.specs.declared.Bits.{Bits}
pub use Rattle.vdb_coord.specs.declared.Coord.{Coord}
pub use Rattle.vdb_coord.specs.declared.Level.TheVariants.{Leaf}
pub use Rattle.vdb_coord.specs.declared.face.Face.{Face}
pub use Rattle.vdb_coord.specs.declared.face.Face.TheVariants.{MinusX, MinusY, MinusZ, PlusX, PlusY, PlusZ}
pub use Rattle.vdb_mask.specs.Mask.{has_bit, is_on}
pub use Rattle.vdb_morph.specs.internal.Behind.{is_behind, is_behind_any, layer, opposite, state_beside}
pub use Rattle.vdb_morph.specs.internal.Beside.{bit_beside, is_on_beside}
pub use Rattle.vdb_morph.specs.internal.BlockStates.{HasStates, state_behind}
pub use Rattle.vdb_morph.specs.internal.Eroding.{Erodes, IsEither, IsEroded}
pub use Rattle.vdb_morph.specs.internal.Iterating.{is_around, is_marked, spread, taken, topology, with_active}
pub use Rattle.vdb_morph.specs.internal.Spreading.{is_over}
pub use Rattle.vdb_node.specs.Beside.{bit_after, bit_before}
pub use Rattle.vdb_node.specs.Leaf.{IsConstantLeaf}
pub use Rattle.vdb_node.specs.Nodes.{entry_count}
pub use Rattle.vdb_tree.proofs.Fields.{cell_inside, same_cells}
pub use Rattle.vdb_tree.proofs.Levels.{bool_cases, coord_cases, like_coords, unlike_coords}
pub use Rattle.vdb_tree.proofs.Rooted.{or_cases, or_first, or_second}
pub use Rattle.vdb_tree.proofs.Sizes.{internal_small, leaf_small}
pub use Rattle.vdb_tree.specs.Field.{Field, dilate, erode, field, fill, iterations, off, unite}
pub use Rattle.vdb_tree.specs.Layout.{Layout, cell_at, field_of}
pub use Rattle.vdb_tree.specs.Leaves.{IsLeafAround, with_leaf}
pub use Rattle.vdb_tree.specs.Parts.{IsSkipped, IsWalk, Passes, TreeWalk, YieldsBox, is_left, left_count}
pub use Rattle.vdb_tree.specs.declared.queries.parts.Skip.{Skip}
pub use Rattle.vdb_tree.specs.declared.queries.parts.Skip.TheVariants.{Inactive}
pub use Rattle.vdb_tree.specs.declared.refusal.TreeRefusal.{TreeRefusal}
pub use Rattle.vdb_value.specs.declared.Cell.{Cell}
pub use Rattle.vdb_walk.proofs.Cuts.{same_boxes}
