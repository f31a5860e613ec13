-- The names that most proofs of this crate cite, passed on from one place. It declares nothing.
pub use Rattle.core.proofs.alloc.Calls.{Al, Goes-blank}
pub use Rattle.core.proofs.mem.Param.{El, R, args, elτ, lawful}
pub use Rattle.core.proofs.slots.Leases.{block_align, block_size, block_ty, uncapped}
pub use Rattle.core.specs.declared.alloc.Allocator.{Ghosts}
pub use Rattle.std.proofs.Common.{IsSome, List, None, Option, Some, [], ap, arith, get_or, inl, inr, length, length-append, length-set, map, refl, set, slice_get, subst, suc, sym, take, true≢false, w32, w64, zero, ℕ, ◌%◌, ◌*◌, ◌++◌, ◌+◌, ◌-◌, ◌/◌, ◌<◌, ◌^◌, ◌∙◌, ◌∷◌, ◌≡◌, ◌≢◌, ◌≤◌}
pub use Rattle.std.proofs.Math.Nat.{mod-lt}
pub use Rattle.std.proofs.lemmas.List.{get_or-map, length-map, map-set, map_push}
pub use Rattle.std.proofs.lemmas.Nat.{div-add-mod'}
pub use Rattle.std.proofs.lemmas.Option.{get_or_from_slice_get, slice_get_within}
pub use Rattle.std.proofs.raw_atomic.Walks.{leaves, proved_at}
pub use Rattle.std.specs.Mem.{type_size}
pub use Rattle.std_alloc.proofs.RawLayout.{as_raw, as_written}
pub use Rattle.std_alloc.proofs.RcSteps.{word-Good}
pub use Rattle.std_alloc.proofs.VecSteps.Shapes.{after}
pub use base.Fml.{Fml, Incl-trans, Lft, flft, froom, fsep, ftrue}
pub use base.Fraction.{full_share}
pub use base.Logic.{SProp, emp, ent, id⊢, never, sep}
pub use contract.BorrowLft.{◌⊑◌}
pub use contract.Monad.{fact, fact_i}
pub use contract.Running.{tables}
pub use denote.Exit.{no, yes}
pub use denote.Laws.{Is}
pub use denote.Memory.{lone}
pub use denote.Opens.{unhide}
pub use denote.Param.Laws.{Laws}
pub use denote.Param.Send.{IsSend, IsSync}
pub use denote.Param.Shared.{copy_shared}
pub use denote.RattleType.{RattleType, owns}
pub use denote.RawPtr.{Ptr, RawPtr, block_ptr, in_a_block, in_block, lies_at, null_ptr, ptr_val, room_for, ◌+ₚ◌}
pub use denote.Sharing.{said}
pub use denote.SharingLaws.{said_shr_laws}
pub use denote.Signature.{plain, types_at}
pub use denote.Steps.{closes, heard, nothing, opens}
pub use denote.Struct.Laws.{field_copy}
pub use denote.Struct.Lending.{lent_at, of_Lends}
pub use denote.Struct.Owning.{shape}
pub use denote.Struct.Struct.{Struct}
pub use denote.Struct.Tuple.{Tuple}
pub use denote.Triple.Clauses.{Clauses, Ended}
pub use denote.Triple.Entry.{alive}
pub use denote.Triple.Table.{framed}
pub use denote.Triple.Walked.{Goes-dropped, Goes-ref, Stays, stay_dropped, stay_ref, walk_of}
pub use mir.MapTy.{inst_fn}
pub use mir.Syntax.{Fn, Ty, ty_array}
pub use mir.Val.{Val, vcons, vint, vnil, vptr, vstruct, vunit}
pub use native.Mathlib.Nat.{suc-mul}
pub use prog.Capped.{capped_fits}
pub use prog.Memory.{align, capped}
pub use prog.Wp.{Env, WpFn}
pub use seplogic.Ra.Ura.{Ura}
pub use types.ByLocal.{alloc_all, env, free_all, get, get_in, is, look_at, pass_all, sets, sets_last, through}
pub use types.Kit.{Item, !, at_ret, await, by, done, drop, feq_i, feq_l, fjoin, fjoin3, flt_i, flt_l, fpack, fsplit, fsplit3, group, join, keep, later, move, pick, prop, qed, raw, regoal, rewrite, some, split, use0, use1, use2, ‵, ◌$◌, ◌∵◌, ◌⊛◌}
pub use types.Logic.{Logic, sem}
pub use types.Part.{agg, sub, whole}
pub use types.Run.{addr, align_word, and_then, bin, blocks, enter, exec, first, fld, no_more, of_opd, returns, size_word, stop, unit_lit}
pub use Rattle.vdb_pool.specs.Contents.{Contents, IsAmong, IsFalling, IsOrderly, next_slot, node_at, spare_of, with_inserted}
pub use Rattle.vdb_pool.specs.Live.{KeepsLive, KeepsOthers, KeepsOthersLive}
pub use Rattle.vdb_pool.specs.contracts.storage.Block.{the_row}
pub use Rattle.vdb_pool.specs.declared.chunk.Chunk.{Chunk}
pub use Rattle.vdb_pool.specs.declared.slot.Slot.{Slot}
pub use Rattle.vdb_pool.specs.declared.slot.Slot.TheVariants.{Held, Vacant}
pub use Rattle.vdb_pool.specs.internal.Chunks.{AreWhole, rows_of}
pub use Rattle.vdb_pool.specs.internal.Lends.{with_items}
pub use Rattle.vdb_pool.specs.internal.Ownership.{block_says, storage_lends, storage_owns}
pub use Rattle.vdb_pool.specs.internal.Pool.{IsSound}
pub use Rattle.vdb_pool.specs.internal.Rows.{row_from}
pub use Rattle.vdb_pool.specs.internal.Slot.{node_of}
pub use Rattle.vdb_pool.specs.internal.Stack.{AreListed, IsStack, linked}
