-- The names that most proofs of this crate cite, passed on from one place. It declares nothing.
pub use Rattle.std.proofs.Common.{Bool, Err, FitsSigned, IfErr, IfSome, IsTrue, List, None, Ok, Option, Result, Some, [], ap, append-nil, append_assoc, arith, codes, cond, drop, false, get_or, if◌then◌else◌, inl, inr, length, length-append, length-drop, length-take, length-take-le, map, min, nat_le, negsuc, not, pos, refl, rules, subst, suc, sym, take, take-append-drop, take-take, true, zero, ℕ, ℤ, ◌&&◌, ◌*◌, ◌++◌, ◌+◌, ◌-◌, ◌<◌, ◌^◌, ◌||◌, ◌↔◌, ◌∙◌, ◌∷◌, ◌≡◌, ◌≤◌, ◌⊎◌}
pub use Rattle.std.proofs.Math.Bool.{beq}
pub use Rattle.std.proofs.lemmas.Bool.{cases_Bool}
pub use Rattle.std.proofs.lemmas.Grind.{common_steps, flat_map-append}
pub use Rattle.std.proofs.lemmas.Int.{ints}
pub use Rattle.std.proofs.lemmas.List.Elements.{All-contains, All-from_recursion, filter_passes, recursion_from_All}
pub use Rattle.std.proofs.lemmas.List.FromFn.{length-range_with_len}
pub use Rattle.std.proofs.lemmas.List.Kept.{IsStrictlySortedBy-filter}
pub use Rattle.std.proofs.lemmas.Result.{err_from_is_err_and, on_ok_weaker}
pub use Rattle.std.specs.Cmp.{IsTotalOrder}
pub use Rattle.std.specs.Cmp.Lexicographic.{nat_list_cmp_total, slice_cmp}
pub use Rattle.std.specs.Int.{to_be_bytes, w16, w32, w64}
pub use Rattle.std.specs.Io.KnownBytes.{Consumes, IsAtEnd, Keeps, prepend_known}
pub use Rattle.std.specs.List.{AllByRecursion, Contains, filter, flat_map, range_with_len, slice_get}
pub use Rattle.std.specs.List.Sorted.{IsStrictlySortedBy}
pub use Rattle.std.specs.Option.{option_map}
pub use Rattle.std.specs.Ordering.{int_eq, nat_cmp, ordering_reverse}
pub use Rattle.std.specs.Prelude.{⊤}
pub use Rattle.std.specs.declared.cmp.Ordering.{Ordering}
pub use Rattle.std.specs.declared.cmp.Ordering.TheVariants.{Equal, Greater, Less}
pub use borrow.Rule.Slice.PartMut.{put_mid, same_len_mid}
pub use Rattle.vdb_coord.proofs.Boxes.{not_true, same_truth}
pub use Rattle.vdb_coord.proofs.InRange.{block_in_range, number_of_corner, numbered_in_range}
pub use Rattle.vdb_coord.proofs.Meeting.{fits_everywhere}
pub use Rattle.vdb_coord.proofs.Members.{coord_equiv, coord_exact, coord_total}
pub use Rattle.vdb_coord.proofs.Nesting.{corner_inside, corner_of_entry, entry_holds, in_entry, inside_numbered, leaf_block_at_offset, lower_block_at_offset, number_in_block, voxel_from_leaf}
pub use Rattle.vdb_coord.proofs.Positions.{offset_below}
pub use Rattle.vdb_coord.specs.Blocks.{block, block_around, block_number, block_numbers, entries, entry_numbers, offset, sub_block, vdb}
pub use Rattle.vdb_coord.specs.Entries.{AreBits}
pub use Rattle.vdb_coord.specs.Space.{Box, coord, coord_cmp, coord_eq, coordinates, everywhere, is_inside}
pub use Rattle.vdb_coord.specs.declared.Bits.{Bits}
pub use Rattle.vdb_coord.specs.declared.Coord.{Coord}
pub use Rattle.vdb_coord.specs.declared.Level.{Level}
pub use Rattle.vdb_coord.specs.declared.Level.TheVariants.{Leaf, Lower, Upper}
pub use Rattle.vdb_file.specs.Bodies.{block_bytes, cell_bytes, entries_bytes, key_bytes, leaf_body, listed, lower_body, root_body, roots_bytes, voxel_body}
pub use Rattle.vdb_file.specs.Faults.{BeginsAsFile, Claims, HasOtherMagic, HasOtherVersion}
pub use Rattle.vdb_file.specs.Spelling.{IsFileOf, IsOldGrid, counted, file_bytes, grid_bytes, head_bytes, kind_bytes, kind_code, pairs_bytes, spelling}
pub use Rattle.vdb_file.specs.declared.fault.LoadFault.{LoadFault}
pub use Rattle.vdb_file.specs.declared.fault.LoadFault.TheVariants.{Magic, Memory, Truncated}
pub use Rattle.vdb_file.specs.declared.loading.block_head.Head.{Head}
pub use Rattle.vdb_file.specs.declared.loading.block_head.Head.TheVariants.{Node}
pub use Rattle.vdb_file.specs.declared.loading.versions.Version.{Version}
pub use Rattle.vdb_file.specs.declared.loading.versions.Version.TheVariants.{One, Two}
pub use Rattle.vdb_file.specs.internal.FieldFaults.{IsFieldFault, IsInner, IsMagicFault, IsVersionFault}
pub use Rattle.vdb_file.specs.internal.Following.{Follows}
pub use Rattle.vdb_file.specs.internal.LeafVoxels.{HasValues, IsMixed, leaf_field, voxel_count, voxels_bytes}
pub use Rattle.vdb_file.specs.internal.Levels.{level_body}
pub use Rattle.vdb_file.specs.internal.LoadedFields.{AreLoadable, HasCapacityAt, IsLoadable, IsNext, IsWithin, KeptOutside, ShowsIn, ShowsInEach, entry_box, next_bytes}
pub use Rattle.vdb_file.specs.internal.Loading.{IsHead, IsIndex, IsKey, IsSpelled}
pub use Rattle.vdb_file.specs.internal.Parts.{AreItems, IsBody, IsFile, IsItem, IsLoadedGrid, IsNamed, IsSceneOf, LoadedGrid, body_bytes, bytes_of_file, head_code, head_of, loaded_bytes, name_of, named_bytes, pair_bytes, version_number}
pub use Rattle.vdb_file.specs.internal.Reading.{EndsWith, Fails, GaveWithin, NoFront, Position, Reads, Stock, Took, ahead, byte_total, position}
pub use Rattle.vdb_file.specs.internal.Written.{Puts, Sent, numbered, passing, sent}
pub use Rattle.vdb_node.specs.Entries.{IsFirstWithoutAt}
pub use Rattle.vdb_node.specs.Leaf.{IsConstantLeaf, SetsVoxel, cell_in}
pub use Rattle.vdb_node.specs.Nodes.{entry_count}
pub use Rattle.vdb_scene.specs.Accessors.{HaveUnusedAccessors}
pub use Rattle.vdb_scene.specs.Grids.{scene_of}
pub use Rattle.vdb_scene.specs.Metas.{Pairs, is_text}
pub use Rattle.vdb_scene.specs.Scalars.{kind_of, scalar_bytes, scalar_eq}
pub use Rattle.vdb_scene.specs.Scene.{Grid, Scene, grid_at}
pub use Rattle.vdb_scene.specs.ValidScenes.{ArePairs, IsField, IsGrid, IsPair, IsScene, is_value_of}
pub use Rattle.vdb_scene.specs.Watched.{has_failed, source}
pub use Rattle.vdb_scene.specs.declared.scalar.Scalar.{Scalar}
pub use Rattle.vdb_scene.specs.declared.scalar.Scalar.TheVariants.{I32, I64}
pub use Rattle.vdb_tree.proofs.Blocks.{never}
pub use Rattle.vdb_tree.proofs.Constants.{entries_few}
pub use Rattle.vdb_tree.proofs.Uniform.{cell_exact, cell_same, exact_by, uniform_cells, uniform_from}
pub use Rattle.vdb_tree.specs.ConstantBlocks.{cell_eq, is_background, is_constant, is_uniform, root_keys, roots}
pub use Rattle.vdb_tree.specs.Field.{Field, as_field_of, field, fill, new, off}
pub use Rattle.vdb_tree.specs.Layout.{Layout, cell_at, field_of}
pub use Rattle.vdb_tree.specs.Leaves.{with_leaf}
pub use Rattle.vdb_tree.specs.Outcome.{IsOutcome}
pub use Rattle.vdb_tree.specs.Parts.{IsNextAbove}
pub use Rattle.vdb_value.specs.Values.{are_bytes_of, byte_count, has_number, number_bytes, truth_bytes}
pub use Rattle.vdb_value.specs.declared.Cell.{Cell}
pub use Rattle.vdb_value.specs.declared.Kind.{Kind}
