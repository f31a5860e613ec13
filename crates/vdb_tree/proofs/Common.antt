-- The names that most proofs of this crate cite, passed on from one place. It declares nothing.
pub use Rattle.std.proofs.Common.{Bool, Err, IfSome, IsSome, IsTrue, List, None, Ok, Option, Result, SFits, Some, [], ap, arith, cond, false, if◌then◌else◌, inl, inr, is_none, is_some, length, not, of_z, pos, refl, rules, slice_index_or, subst, suc, sym, to_z, true, w32, zero, ℕ, ℤ, ◌&&◌, ◌*◌, ◌+ℤ◌, ◌+◌, ◌-◌, ◌<ℤ◌, ◌<◌, ◌^◌, ◌||◌, ◌↔◌, ◌∙◌, ◌∷◌, ◌≡◌, ◌≢◌, ◌≤ℤ◌, ◌≤◌, ◌⊎◌}
pub use Rattle.std.proofs.Math.Bool.{beq}
pub use Rattle.std.proofs.lemmas.Bool.Decides.{eqb_tells}
pub use Rattle.std.proofs.lemmas.Grind.{common_steps}
pub use Rattle.std.proofs.lemmas.Int.{ints, to_z-of_z}
pub use Rattle.std.proofs.lemmas.List.{get_or_default, get_or_past}
pub use Rattle.std.proofs.lemmas.List.Sums.{length-filter}
pub use Rattle.std.proofs.lemmas.Map.Entries.{length-keys_of}
pub use Rattle.std.proofs.lemmas.Map.Keys.{IsDistinct-from_sorted}
pub use Rattle.std.proofs.lemmas.Map.Made.{length-le_from_is_member}
pub use Rattle.std.specs.Int.{int_min}
pub use Rattle.std.specs.List.{AllByRecursion, IsDistinct, count_by, filter}
pub use Rattle.std.specs.Map.{keys_of}
pub use Rattle.std.specs.Option.{option_map_or}
pub use Rattle.std.specs.Ordering.{is_eq, is_gt, is_lt, ordering_reverse}
pub use Rattle.std.specs.Prelude.{IfNone, OnOk}
pub use Rattle.std.specs.Set.{is_member}
pub use Rattle.std.specs.declared.cmp.Ordering.{Ordering}
pub use Rattle.std.specs.declared.cmp.Ordering.TheVariants.{Equal, Greater, Less}
pub use Rattle.vdb_coord.proofs.BlockOrder.{comes_on, contiguous, from_key, from_lower, from_upper, key_equal, key_less, less_apart, less_once, not_before_min, not_both, not_itself, which_before, which_first}
pub use Rattle.vdb_coord.proofs.Boxes.{and_true, both, not_true}
pub use Rattle.vdb_coord.proofs.CountBounds.{count_at_least, count_at_most, member_passing}
pub use Rattle.vdb_coord.proofs.Counts.{count_by_members, distinct_filter}
pub use Rattle.vdb_coord.proofs.Distinct.{distinct_coordinates}
pub use Rattle.vdb_coord.proofs.InRange.{block_in_range, corner_in_range, number_in_range, number_of_corner, numbered_in_range}
pub use Rattle.vdb_coord.proofs.Loops.{corner}
pub use Rattle.vdb_coord.proofs.Meeting.{fits_everywhere, within_each}
pub use Rattle.vdb_coord.proofs.Members.{coord_equiv, coord_exact, coord_total}
pub use Rattle.vdb_coord.proofs.Nesting.{block_from_entry, corner_of_entry, entry_from_offset, entry_holds, entry_number_leaf, in_entry, inside_around, inside_numbered, leaf_from_lower, lower_from_leaf, lower_from_upper, number_in_block, offset_from_entry, upper_from_lower, voxel_from_leaf}
pub use Rattle.vdb_coord.proofs.Positions.{entries_is, offset_below}
pub use Rattle.vdb_coord.proofs.Walk.{few_after, inside_from, inside_parts, min_inside, nearer_x, nearer_y, nearer_z, none_before}
pub use Rattle.vdb_coord.specs.Blocks.{block, block_around, block_bits, block_cmp, block_number, block_numbers, entries, key, node_bits, offset, sub_block}
pub use Rattle.vdb_coord.specs.Boxes.{meets}
pub use Rattle.vdb_coord.specs.Components.{number_at}
pub use Rattle.vdb_coord.specs.Entries.{AreBits, blocks_meeting, entry_number, numbers_over}
pub use Rattle.vdb_coord.specs.Order.{ComesBefore, IsFirstPast, IsNextCoord, IsUpToBlock, coordinates_past}
pub use Rattle.vdb_coord.specs.Space.{Box, coord, coord_cmp, coord_eq, coordinates, everywhere, is_box, is_inside, is_within, volume}
pub use Rattle.vdb_coord.specs.Walk.{IsBefore, IsBlockBefore, IsNextBlock, coordinates_after}
pub use Rattle.vdb_coord.specs.declared.Bits.{Bits}
pub use Rattle.vdb_coord.specs.declared.Coord.{Coord}
pub use Rattle.vdb_coord.specs.declared.Level.{Level}
pub use Rattle.vdb_coord.specs.declared.Level.TheVariants.{Leaf, Lower, Upper}
pub use Rattle.vdb_mask.specs.Mask.{is_on, on_count}
pub use Rattle.vdb_node.proofs.Sizes.{up_le}
pub use Rattle.vdb_node.specs.Entries.{HasChild, IsConstant, IsFirstWithout, IsInactiveTile, IsNextChildAt, IsTileOf, SetsEntry}
pub use Rattle.vdb_node.specs.Leaf.{IsConstantLeaf, cell_in}
pub use Rattle.vdb_node.specs.Nodes.{entry_count}
pub use Rattle.vdb_node.specs.declared.Entry.{Entry}
pub use Rattle.vdb_node.specs.declared.Entry.TheVariants.{Child, Tile}
pub use Rattle.vdb_pool.specs.Contents.{Contents, node_at, with_node}
pub use Rattle.vdb_tree.specs.Capacity.{HasCapacityFor, IsNextMet, LacksCapacityFor, MeetsRootBlock}
pub use Rattle.vdb_tree.specs.Changes.{AddsNodes, Changes, Fills, IsConstantAt, IsConstantBlock, IsNeeded, IsNeededTo, IsNoBackgroundRoot, IsNonConstantBlock, IsSwept, Keeps, KeepsBeyond, KeepsHead, KeepsUppers, PassesTo, PrunesRoot, SameDescent, Turns}
pub use Rattle.vdb_tree.specs.ConstantBlocks.{cell_eq, count, is_background, is_constant, is_uniform, roots}
pub use Rattle.vdb_tree.specs.Field.{Field, clip, combine, field, fill, new, off, ruled, unite, write, written}
pub use Rattle.vdb_tree.specs.Layout.{Layout, background_cell, bits_of, cell_at, entry_over, field_of, lower_entry, root_at, root_entry, upper_entry, within}
pub use Rattle.vdb_tree.specs.Leaves.{IsLeafAround, IsNextLeaf, IsVoxelWritten, with_leaf, with_states_of}
pub use Rattle.vdb_tree.specs.Nodes.{IsActiveIn, IsCut, KeepsAllBut, KeepsElsewhere, MakesKeysIn, MakesNoKey, MakesNoNode, MakesOnly}
pub use Rattle.vdb_tree.specs.Outcome.{IsOutcome, ObeysLimit}
pub use Rattle.vdb_tree.specs.Pairs.{IsPairWalk, PassesPairs, YieldsPair}
pub use Rattle.vdb_tree.specs.Parts.{IsEnd, IsSkipped, IsStart, IsStartAfter, IsWalk, Passes, TreeWalk, end_level, if_tile, is_left, left_count}
pub use Rattle.vdb_tree.specs.Paths.{IsWhole, Lives, TreePath, in_leaf, is_child}
pub use Rattle.vdb_tree.specs.Smallest.{IsAtMost, IsLeast, counts_of, least_counts}
pub use Rattle.vdb_tree.specs.Sound.{IsOwned, IsSound}
pub use Rattle.vdb_tree.specs.SplitBox.{IsCovered, IsSplit, IsSplitTo}
pub use Rattle.vdb_tree.specs.Table.{HasCapacity, IsNextKey, IsPast}
pub use Rattle.vdb_tree.specs.declared.Write.{Write}
pub use Rattle.vdb_tree.specs.declared.Write.TheVariants.{Off, On}
pub use Rattle.vdb_tree.specs.declared.pairs.StateRule.{StateRule}
pub use Rattle.vdb_tree.specs.declared.pairs.StateRule.TheVariants.{Intersect, Subtract, Unite}
pub use Rattle.vdb_tree.specs.declared.path.PathOf.TheVariants.{Empty, ToLeaf, ToLower, ToUpper}
pub use Rattle.vdb_tree.specs.declared.queries.ends.End.{End}
pub use Rattle.vdb_tree.specs.declared.queries.parts.Skip.{Skip}
pub use Rattle.vdb_tree.specs.declared.queries.parts.Skip.TheVariants.{Background, Inactive}
pub use Rattle.vdb_tree.specs.declared.refusal.TreeRefusal.{TreeRefusal}
pub use Rattle.vdb_tree.specs.declared.refusal.TreeRefusal.TheVariants.{Memory, RootLimit}
pub use Rattle.vdb_tree.specs.internal.Active.{HasActive, IsCountTo, IsInactive, IsInactiveFrom, IsNextActive}
pub use Rattle.vdb_tree.specs.internal.ActiveCapacity.{HasCapacityForActive, IsActiveKey}
pub use Rattle.vdb_tree.specs.internal.Altered.{AreSameCells, IsAlteredIn}
pub use Rattle.vdb_tree.specs.internal.Children.{IsChildless, IsNextCornerAt, IsTiled}
pub use Rattle.vdb_tree.specs.internal.Erase.{AddsBackgroundTiles}
pub use Rattle.vdb_tree.specs.internal.Jumps.{IsJumpAt, IsLast}
pub use Rattle.vdb_tree.specs.internal.Paints.{ArePainted, AreSplit, IsPainted, IsRun, KeepsOutside, PaintsVoxels}
pub use Rattle.vdb_tree.specs.internal.Pairing.{IsRefinedFor, SetsBlock, acts_at, made, state_of}
pub use Rattle.vdb_tree.specs.internal.Refining.{IsNodeOrMade}
pub use Rattle.vdb_tree.specs.internal.Ruled.{IsAmong, SetsRoot, SetsWithin}
pub use Rattle.vdb_tree.specs.internal.Seeks.{IsFirstLeaf, IsFrom, IsKeyPast, IsLeafCorner, IsNextLower}
pub use Rattle.vdb_tree.specs.internal.StateRuns.{SetsRun}
pub use Rattle.vdb_tree.specs.internal.Voxelised.{IsVoxelisedTo}
pub use Rattle.vdb_value.specs.declared.Cell.{Cell}
