-- The names that most proofs of this crate cite, passed on from one place. It declares nothing.
pub use Rattle.std.proofs.Common.{Bool, IfSome, IsTrue, List, None, SFits, Some, [], ap, arith, cond, false, flat_map, inl, inr, int_le, length, map, negsuc, pos, refl, rules, subst, suc, sym, to_z, true, unsigned_abs, w32, zero, ℕ, ℤ, ◌%◌, ◌&&◌, ◌*ℤ◌, ◌*◌, ◌+ℤ◌, ◌+◌, ◌-ℤ◌, ◌-◌, ◌/◌, ◌<ℤ◌, ◌<◌, ◌^◌, ◌||◌, ◌∙◌, ◌∷◌, ◌≡◌, ◌≤ℤ◌, ◌≤◌, ◌⊎◌}
pub use Rattle.std.proofs.Math.Nat.{div-div-eq-div-mul, div-mul-le_self, mod-lt, mul-le-mul_right, suc-mul}
pub use Rattle.std.proofs.Math.Pow.{pow_mono}
pub use Rattle.std.proofs.lemmas.Cmp.{on_total, then_total}
pub use Rattle.std.proofs.lemmas.Int.{ints, to_z-of_z, to_z_pos}
pub use Rattle.std.proofs.lemmas.Map.Made.{is_member-filter}
pub use Rattle.std.proofs.lemmas.Nat.{div-add-mod', div_below, pow-add, pow_pos}
pub use Rattle.std.specs.Cmp.{IsTotalOrder}
pub use Rattle.std.specs.Int.{int_gap, int_max, int_min}
pub use Rattle.std.specs.List.{AllByRecursion, IsDistinct, filter, list_all, range_with_len}
pub use Rattle.std.specs.Ordering.{int_cmp, is_eq, nat_cmp, ordering_then}
pub use Rattle.std.specs.Set.{is_member}
pub use Rattle.std.specs.declared.cmp.Ordering.{Ordering}
pub use Rattle.std.specs.declared.cmp.Ordering.TheVariants.{Equal, Greater, Less}
pub use lib.IntN.{neg_ℤ}
pub use Rattle.vdb_coord.specs.Blocks.{block, block_around, block_bits, block_cmp, block_number, block_numbers, entries, entry_bits, key, node_bits, offset, sub_block}
pub use Rattle.vdb_coord.specs.Boxes.{box_of, meets, overlap}
pub use Rattle.vdb_coord.specs.Components.{digit, first_of, last_of, number_at}
pub use Rattle.vdb_coord.specs.Entries.{AreBits, entry_number, numbers_over, position, position_of}
pub use Rattle.vdb_coord.specs.Order.{ComesBefore, IsFirstInBlock, coordinates_past}
pub use Rattle.vdb_coord.specs.Space.{Box, coord, coord_cmp, coord_eq, coordinates, everywhere, extent, is_between, is_box, is_inside, is_within, range, volume}
pub use Rattle.vdb_coord.specs.Walk.{IsBefore, IsBlockBefore, IsNextBlock}
pub use Rattle.vdb_coord.specs.declared.Bits.{Bits}
pub use Rattle.vdb_coord.specs.declared.Coord.{Coord}
pub use Rattle.vdb_coord.specs.declared.Level.{Level}
pub use Rattle.vdb_coord.specs.declared.Level.TheVariants.{Leaf, Lower, Upper}
