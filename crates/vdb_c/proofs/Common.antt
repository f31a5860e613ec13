-- The names that most proofs of this crate cite, passed on from one place. It declares nothing.
pub use Rattle.core.proofs.alloc.Calls.{Goes-blank, handle_tells}
pub use Rattle.core.proofs.alloc.Shapes.{after}
pub use Rattle.core.proofs.atomic.Steps.{Ptr-Good, fm}
pub use Rattle.core.proofs.cell.Inside.{Good}
pub use Rattle.core.proofs.option.Made.{Some-of, none_of}
pub use Rattle.std.proofs.Common.{Bool, Err, IsSome, IsTrue, List, None, Ok, Option, Result, SFits, Some, [], add-one, ap, arith, cond, false, get_or, get_or-set_other, get_or-set_same, if◌then◌else◌, inl, inr, int_le, length, lit<, nat_eq, nat_le, nat_lt, not, of_z, pos, refl, rules, set, slice_get, slice_index_or, subst, suc, sym, take, tests, to_z, true, w32, w64, zero, ℕ, ℤ, ◌&&◌, ◌*◌, ◌++◌, ◌+ℤ◌, ◌+◌, ◌-◌, ◌<ℤ◌, ◌<◌, ◌^◌, ◌||◌, ◌∙◌, ◌∷◌, ◌≡◌, ◌≢◌, ◌≤ℤ◌, ◌≤◌, ◌⊎◌}
pub use Rattle.std.proofs.Handle.{heap_Tells, heap_val}
pub use Rattle.std.proofs.Math.Nat.{suc-mul}
pub use Rattle.std.proofs.Math.Numerals.{suc-eq-add-one}
pub use Rattle.std.proofs.lemmas.Bool.{cases_eq}
pub use Rattle.std.proofs.lemmas.Bool.Decides.{nat_tests}
pub use Rattle.std.proofs.lemmas.Int.{ints, to_z-of_z}
pub use Rattle.std.proofs.lemmas.List.{get_or_default, length-set, length-take-le}
pub use Rattle.std.proofs.lemmas.Nat.{mul-le}
pub use Rattle.std.proofs.raw_atomic.Walks.{leaves, proved_at}
pub use Rattle.std.specs.Int.{int_gap}
pub use Rattle.std.specs.Option.{option_map}
pub use Rattle.std.specs.Prelude.{⊤}
pub use Rattle.std.specs.contracts.impls.GlobalAllocator.TheImpl.{ghosts}
pub use Rattle.std_alloc.proofs.BoxSteps.Steps.{box_in, box_out}
pub use Rattle.std_alloc.specs.Box.Ownership.{box_owns}
pub use base.Fml.{flft, fsep, ftrue}
pub use base.Fraction.{full_share}
pub use base.Logic.{SProp, emp, ent, fst∗, id⊢, never}
pub use borrow.Rule.Slice.PartMut.{put_mid}
pub use contract.Monad.{fact, fact_i}
pub use contract.Running.{tables}
pub use denote.Exit.{no, yes}
pub use denote.Memory.{lone}
pub use denote.Param.{bounded, layout, param}
pub use denote.Param.Laws.{param_laws}
pub use denote.RattleType.{RattleType, Valss, owns}
pub use denote.RawPtr.{Ptr, RawPtr, Testable, block_ptr, in_a_block, lies_at, null_ptr, ptr_val, tests_null}
pub use denote.Signature.{plain, types_at}
pub use denote.Steps.{heard, nothing, only}
pub use denote.Struct.Owning.{shape}
pub use denote.Struct.Struct.{within}
pub use denote.Triple.Entry.{alive}
pub use denote.Triple.Spec.{triple_of}
pub use denote.Triple.Walked.{Stays, stay_dropped, walk_of}
pub use lib.Signed.{lt_z}
pub use mir.MapTy.{inst_fn}
pub use mir.Syntax.{Args, a_type, dcons, dnil}
pub use mir.Val.{Val, WT, has_ty, of_list, vstruct}
pub use prog.Wp.{WpFn}
pub use seplogic.Ra.Ura.{Ura}
pub use types.ByLocal.{alloc_all, env, free_all, get, get_in, look_at, pass_all, sets}
pub use types.Kit.{Goal, !, Item, Seq, Step, at_ret, await, by, drop, feq_i, feq_l, fjoin, fpack, fpick, fsplit, given, join, keep, later, learn, move, pick, prop, qed, raw, rewrite, some, split, split3, step, suffices, use0, use1, ‵, ◌$◌, ◌∵◌, ◌⊛◌}
pub use types.Logic.{Logic, sem}
pub use types.Match.{live}
pub use types.Part.{agg, sub, whole}
pub use types.Run.{and_then, bin, blocks, branches, enter, exec, first, fld, lit, no_more, of_opd, returns, returns_within, skips, stop}
pub use Rattle.vdb_c.specs.BoxVoxels.{IsNextVoxel, IsUpTo}
pub use Rattle.vdb_c.specs.BoxWrites.{along_z, change_of_voxel, dense, is_first, rank, with_writes, written_any}
pub use Rattle.vdb_c.specs.Calls.{IsWrittenBy, OnHeld, Writes, grid_kind, write_of}
pub use Rattle.vdb_c.specs.Codes.{done, tree_code}
pub use Rattle.vdb_c.specs.Elements.{IsLaid, are_apart, place}
pub use Rattle.vdb_c.specs.HeldGrid.{Row}
pub use Rattle.vdb_c.specs.Kept.{freeing, owns_boxed}
pub use Rattle.vdb_c.specs.LeafWrites.{AreLaid, AreWritten, IsBeside, IsReady, IsWritten}
pub use Rattle.vdb_c.specs.Leaves.{HasRows, HasRun, IsValueOf, IsWordOf, last_before}
pub use Rattle.vdb_c.specs.Many.{IsRefusedIn, after_writes, change_at, change_of, voxel_at, write_any}
pub use Rattle.vdb_c.specs.Values.{accessor_of, corner_coord, is_on, state_byte, value_number, value_of}
pub use Rattle.vdb_c.specs.declared.boxes.elements.Strides.{Strides}
pub use Rattle.vdb_c.specs.declared.values.Corner.{Corner}
pub use Rattle.vdb_coord.proofs.BlockOrder.{before_not_same}
pub use Rattle.vdb_coord.proofs.Boxes.{both}
pub use Rattle.vdb_coord.proofs.Members.{coord_equiv, coord_exact}
pub use Rattle.vdb_coord.proofs.Nesting.{number_in_block}
pub use Rattle.vdb_coord.proofs.Walk.{inside_from, inside_parts, min_inside, none_before, up_to_x}
pub use Rattle.vdb_coord.specs.Blocks.{block_number, key, offset, vdb}
pub use Rattle.vdb_coord.specs.Boxes.{is_bounds}
pub use Rattle.vdb_coord.specs.Space.{Box, coord, coord_eq, everywhere, extent, is_box, is_inside, is_within, volume}
pub use Rattle.vdb_coord.specs.Walk.{IsBefore, IsBlockBefore, coordinates_after}
pub use Rattle.vdb_coord.specs.declared.Coord.{Coord}
pub use Rattle.vdb_coord.specs.declared.Level.TheVariants.{Leaf}
pub use Rattle.vdb_node.specs.Leaf.{cell_in}
pub use Rattle.vdb_scene.specs.Grids.{HasSameTree, grid_field}
pub use Rattle.vdb_scene.specs.declared.any_grid.AnyGrid.{AnyGrid}
pub use Rattle.vdb_scene.specs.declared.scalar.Scalar.{Scalar}
pub use Rattle.vdb_scene.specs.declared.scene.Scene.{Scene}
pub use Rattle.vdb_tree.proofs.AsFieldOf.{as_field_of_cell}
pub use Rattle.vdb_tree.proofs.Fields.{cell_inside, same_cells}
pub use Rattle.vdb_tree.specs.Field.{Field, as_cell_of, as_field_of, as_write_of, field, off, write, written}
pub use Rattle.vdb_tree.specs.Layout.{Layout, cell_at, field_of, root_at}
pub use Rattle.vdb_tree.specs.Leaves.{IsLeafAround, IsNextLeaf}
pub use Rattle.vdb_tree.specs.Parts.{IsInOneLeaf, IsPartOfLeaf, content_cell}
pub use Rattle.vdb_tree.specs.Paths.{in_leaf}
pub use Rattle.vdb_tree.specs.declared.Write.{Write}
pub use Rattle.vdb_tree.specs.declared.queries.parts.Skip.TheVariants.{Absent}
pub use Rattle.vdb_tree.specs.declared.refusal.TreeRefusal.{TreeRefusal}
pub use Rattle.vdb_value.specs.declared.Cell.{Cell}
pub use Rattle.vdb_value.specs.declared.Kind.{Kind}
pub use Rattle.vdb_value.specs.declared.Kind.TheVariants.{I64}
