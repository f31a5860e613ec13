-- The names that most proofs of this crate cite, passed on from one place. It declares nothing.
pub use Rattle.std.proofs.Common.{Bool, Err, IsSome, IsTrue, List, None, Ok, Option, Result, Some, [], ap, arith, codes, cond, drop, false, inl, inr, int_le, is_none, is_some, length, map, nat_lt, negsuc, not, of_z, pos, refl, replicate, rules, subst, suc, sym, take, to_z, true, unwrap_or, zero, ℕ, ℤ, ◌&&◌, ◌++◌, ◌+ℤ◌, ◌+◌, ◌<ℤ◌, ◌<◌, ◌||◌, ◌∙◌, ◌∷◌, ◌≡◌, ◌≤◌, ◌⊎◌}
pub use Rattle.std.proofs.Math.Path.{fun_ext}
pub use Rattle.std.proofs.Math.Seq.{take-append_seam}
pub use Rattle.std.proofs.lemmas.Bool.{le-ltb, lt-ltb}
pub use Rattle.std.proofs.lemmas.Int.{ints}
pub use Rattle.std.proofs.lemmas.List.{drop-replicate}
pub use Rattle.std.proofs.lemmas.Result.{err_from_is_err_and}
pub use Rattle.std.specs.BTreeMap.{insert_entry}
pub use Rattle.std.specs.Cmp.{IsTotalOrder}
pub use Rattle.std.specs.Cmp.Lexicographic.{slice_cmp}
pub use Rattle.std.specs.List.{AllByRecursion, list_any, range_with_len}
pub use Rattle.std.specs.List.Sorted.{IsStrictlySortedBy}
pub use Rattle.std.specs.Map.{keys_of, lookup, remove_entry, set_value}
pub use Rattle.std.specs.Option.{option_map}
pub use Rattle.std.specs.Ordering.{match_ordering, nat_cmp, ordering_reverse}
pub use Rattle.std.specs.declared.cmp.Ordering.{Ordering}
pub use Rattle.std.specs.declared.cmp.Ordering.TheVariants.{Equal, Greater, Less}
pub use Rattle.vdb_coord.specs.Blocks.{block, vdb}
pub use Rattle.vdb_coord.specs.Space.{Box, coord, coordinates, everywhere, extent, is_box}
pub use Rattle.vdb_coord.specs.declared.Bits.{Bits}
pub use Rattle.vdb_coord.specs.declared.Coord.{Coord}
pub use Rattle.vdb_coord.specs.declared.Level.TheVariants.{Leaf, Upper}
pub use Rattle.vdb_morph.specs.Growth.{IsGrowth}
pub use Rattle.vdb_scene.specs.Arguments.{are_coords, box_between, coord_of, count_of, is_accessor, is_coord, is_iteration_count}
pub use Rattle.vdb_scene.specs.Doing.{CarriesOut, LeavesTrees, PutsGrid, changed_name, coords_by}
pub use Rattle.vdb_scene.specs.Grids.{grid_coords, grid_field, grid_of, grid_root_limit, scene_of, scene_over}
pub use Rattle.vdb_scene.specs.Listings.{box_across}
pub use Rattle.vdb_scene.specs.Metas.{Pairs, SetsPair, has_pair, is_text, may_set, with_pair, without_pair}
pub use Rattle.vdb_scene.specs.Names.{is_name}
pub use Rattle.vdb_scene.specs.Refusals.{beyond_limit, first_of_all, no_box, no_grid, of_tree, other_form, out_of_range, refused_if, same_grid}
pub use Rattle.vdb_scene.specs.Replies.{Refused}
pub use Rattle.vdb_scene.specs.Scalars.{has_form, has_value, kind_eq, kind_of, scalar, scalar_eq, scalar_greater, scalar_lesser, scalar_sum}
pub use Rattle.vdb_scene.specs.Scene.{Grid, Scene, field_at, grid_at, is_named, kind_at, limit_at, new_grid, the_grid, with_grid}
pub use Rattle.vdb_scene.specs.Slices.{numbers_left}
pub use Rattle.vdb_scene.specs.Step.{IsReply, Step, after, changed, first_refusal, passes, refusal, takes_memory, tried, tried_write, with_pairs, write_at, write_command, write_takes_memory}
pub use Rattle.vdb_scene.specs.TwoGrids.{made_of, tried_of}
pub use Rattle.vdb_scene.specs.ValidScenes.{IsField, is_value_of}
pub use Rattle.vdb_scene.specs.declared.answer.Answer.TheVariants.{Done}
pub use Rattle.vdb_scene.specs.declared.answer.Refusal.{Refusal}
pub use Rattle.vdb_scene.specs.declared.any_grid.AnyGrid.{AnyGrid}
pub use Rattle.vdb_scene.specs.declared.command.Command.{Command}
pub use Rattle.vdb_scene.specs.declared.command.Corners.{Corners}
pub use Rattle.vdb_scene.specs.declared.command.Literal.{Literal}
pub use Rattle.vdb_scene.specs.declared.command.Literal.TheVariants.{Number, Truth}
pub use Rattle.vdb_scene.specs.declared.command.Num.{Num}
pub use Rattle.vdb_scene.specs.declared.command.Num.TheVariants.{Far, Near}
pub use Rattle.vdb_scene.specs.declared.command.Point.{Point}
pub use Rattle.vdb_scene.specs.declared.grid_entry.GridEntry.{GridEntry}
pub use Rattle.vdb_scene.specs.declared.scalar.Scalar.{Scalar}
pub use Rattle.vdb_scene.specs.declared.scalar.Scalar.TheVariants.{I32, I64}
pub use Rattle.vdb_scene.specs.declared.two_grids.Composite.TheVariants.{Maximum, Minimum, Replace, Sum}
pub use Rattle.vdb_scene.specs.declared.two_grids.Operation.{Operation}
pub use Rattle.vdb_scene.specs.declared.two_grids.Operation.TheVariants.{States, Values}
pub use Rattle.vdb_tree.proofs.AsFieldOf.{as_field_of_cell, as_field_of_constant, as_field_of_roots, as_outcome_of_write}
pub use Rattle.vdb_tree.proofs.Fields.{same_cells}
pub use Rattle.vdb_tree.specs.ConstantBlocks.{roots}
pub use Rattle.vdb_tree.specs.Field.{Field, as_field_of, as_write_of, clip, combine, dilate, erode, field, fill, iterations, new, replace, ruled, with_states, write, written}
pub use Rattle.vdb_tree.specs.Layout.{Layout, cell_at, field_of}
pub use Rattle.vdb_tree.specs.Outcome.{IsOutcome}
pub use Rattle.vdb_tree.specs.declared.Write.{Write}
pub use Rattle.vdb_tree.specs.declared.pairs.StateRule.TheVariants.{Intersect, Subtract, Unite}
pub use Rattle.vdb_tree.specs.declared.refusal.TreeRefusal.{TreeRefusal}
pub use Rattle.vdb_tree.specs.declared.refusal.TreeRefusal.TheVariants.{Memory, RootLimit}
pub use Rattle.vdb_value.specs.declared.Cell.{Cell}
pub use Rattle.vdb_value.specs.declared.Kind.{Kind}
pub use Rattle.vdb_walk.specs.Reports.{active}
