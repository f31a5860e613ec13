-- The names that most proofs of this crate cite, passed on from one place. It declares nothing.
pub use Rattle.std.proofs.Common.{Bool, IfSome, IsTrue, List, None, Option, SFits, Some, [], ap, arith, cond, false, inl, inr, int_le, is_some, length, not, of_z, option_map, pos, refl, rules, subst, suc, sym, to_z, true, unsigned_abs, w32, ℕ, ℤ, ◌&&◌, ◌*◌, ◌+ℤ◌, ◌+◌, ◌-ℤ◌, ◌-◌, ◌<ℤ◌, ◌<◌, ◌^◌, ◌||◌, ◌↔◌, ◌∙◌, ◌∷◌, ◌≡◌, ◌≤ℤ◌, ◌≤◌, ◌⊎◌}
pub use Rattle.std.proofs.lemmas.Cmp.{tied_itself}
pub use Rattle.std.proofs.lemmas.Int.{ints, to_z-of_z}
pub use Rattle.std.proofs.lemmas.List.Filters.{length-filter_both}
pub use Rattle.std.proofs.lemmas.List.Sums.{length-filter}
pub use Rattle.std.proofs.lemmas.Map.Made.{is_member-filter, length-from_same_keys}
pub use Rattle.std.proofs.lemmas.Nat.{pow_pos}
pub use Rattle.std.specs.Cmp.{int_cmp_is}
pub use Rattle.std.specs.Int.{int_min}
pub use Rattle.std.specs.List.{IsDistinct, count_by, filter, find}
pub use Rattle.std.specs.Ordering.{int_cmp, is_lt}
pub use Rattle.std.specs.Set.{is_member}
pub use Rattle.std.specs.declared.cmp.Ordering.{Ordering}
pub use Rattle.std.specs.declared.cmp.Ordering.TheVariants.{Equal, Greater, Less}
pub use Rattle.vdb_coord.proofs.BlockOrder.{comes_on, contiguous, fewer_past, from_key, from_lower, from_upper, not_before_min, not_both, not_itself, precedes}
pub use Rattle.vdb_coord.proofs.Boxes.{and_true, both, not_true, same_truth, three, together}
pub use Rattle.vdb_coord.proofs.CountBounds.{member_passing}
pub use Rattle.vdb_coord.proofs.Counts.{count_by_members, distinct_filter}
pub use Rattle.vdb_coord.proofs.Digits.{digit_is, number_mono, number_zero}
pub use Rattle.vdb_coord.proofs.Distinct.{distinct_coordinates}
pub use Rattle.vdb_coord.proofs.Division.{rest, rest_of}
pub use Rattle.vdb_coord.proofs.InRange.{corner_in_range, number_in_range, number_of_corner, numbered_in_range}
pub use Rattle.vdb_coord.proofs.Meeting.{begins_by, le_from_test, test_from_le, within_each}
pub use Rattle.vdb_coord.proofs.Members.{coord_equiv, coord_exact}
pub use Rattle.vdb_coord.proofs.Nesting.{block_total, corner_of_entry, inside_around, inside_numbered, lower_from_leaf, number_in_block, offset_from_entry, upper_from_lower, voxel_from_leaf}
pub use Rattle.vdb_coord.proofs.Positions.{entries_is, joined, offset_below, offset_is}
pub use Rattle.vdb_coord.proofs.Walk.{inside_from, inside_parts, min_inside}
pub use Rattle.vdb_coord.specs.Blocks.{block, block_around, block_bits, block_cmp, block_number, block_numbers, entries, is_past, key, node_bits, offset, sub_block}
pub use Rattle.vdb_coord.specs.Boxes.{is_bounds}
pub use Rattle.vdb_coord.specs.Components.{digit, first_of, last_of, number_at}
pub use Rattle.vdb_coord.specs.Entries.{AreBits}
pub use Rattle.vdb_coord.specs.Order.{ComesBefore, IsNextCoord, IsUpToBlock, coordinates_past}
pub use Rattle.vdb_coord.specs.Space.{Box, coord, coord_cmp, coord_eq, coordinates, everywhere, is_between, is_box, is_inside, is_within}
pub use Rattle.vdb_coord.specs.Walk.{IsBefore, IsBlockBefore}
pub use Rattle.vdb_coord.specs.declared.Bits.{Bits}
pub use Rattle.vdb_coord.specs.declared.Coord.{Coord}
pub use Rattle.vdb_coord.specs.declared.Level.{Level}
pub use Rattle.vdb_coord.specs.declared.Level.TheVariants.{Leaf, Lower, Upper}
pub use Rattle.vdb_mask.specs.Mask.{is_on, on_count}
pub use Rattle.vdb_node.specs.Leaf.{IsConstantLeaf, cell_in}
pub use Rattle.vdb_node.specs.Nodes.{IsOffFrom, entry_count}
pub use Rattle.vdb_node.specs.declared.Entry.{Entry}
pub use Rattle.vdb_node.specs.declared.Entry.TheVariants.{Child, Tile}
pub use Rattle.vdb_tree.proofs.Levels.{bool_cases}
pub use Rattle.vdb_tree.proofs.PartStarts.{gone_before}
pub use Rattle.vdb_tree.proofs.Rooted.{one_more, or_cases, or_first, or_second}
pub use Rattle.vdb_tree.proofs.Sizes.{internal_small, leaf_small}
pub use Rattle.vdb_tree.proofs.Uniform.{cell_exact, exact_by, uniform_cells, uniform_from}
pub use Rattle.vdb_tree.specs.ConstantBlocks.{count, is_constant, is_uniform, non_constant}
pub use Rattle.vdb_tree.specs.Field.{Field, off}
pub use Rattle.vdb_tree.specs.Layout.{Layout, bits_of, field_of, lower_entry, root_at}
pub use Rattle.vdb_tree.specs.Leaves.{IsLeafAround}
pub use Rattle.vdb_tree.specs.Parts.{IsPartOfLeaf, IsSkipped, IsWalk, Passes, TreeWalk, YieldsBox, is_left, left_count}
pub use Rattle.vdb_tree.specs.declared.queries.parts.Skip.{Skip}
pub use Rattle.vdb_tree.specs.declared.queries.parts.Skip.TheVariants.{Background, Inactive}
pub use Rattle.vdb_value.specs.declared.Cell.{Cell}
pub use Rattle.vdb_walk.specs.Passing.{IsNextPiece, Passage}
pub use Rattle.vdb_walk.specs.Reports.{Listed, active, past}
pub use Rattle.vdb_walk.specs.declared.held.Held.{Held}
pub use Rattle.vdb_walk.specs.internal.BlocksFrom.{IsBoxStart, IsSkippedTo, active_from, non_constant_from}
pub use Rattle.vdb_walk.specs.internal.Covered.{IsCoveredUpTo, node_of}
pub use Rattle.vdb_walk.specs.internal.Firsts.{IsActivePast, IsEnteredPast, IsFirst, IsInLeafBlock, IsOnPast, IsPastLast}
pub use Rattle.vdb_walk.specs.internal.Halves.{AreInBlockOrder, IsHalved, numbers}
pub use Rattle.vdb_walk.specs.internal.Listings.{IsListing}
pub use Rattle.vdb_walk.specs.internal.Surround.{IsFoundTo}
pub use Rattle.vdb_walk.specs.internal.Voxels.{IsInFirstBlock, IsNextSet, IsNextSetAt, is_set, set_count}
