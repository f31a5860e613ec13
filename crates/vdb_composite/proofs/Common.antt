-- The names that most proofs of this crate cite, passed on from one place. It declares nothing.
pub use Rattle.std.proofs.Common.{Bool, IsSome, IsTrue, List, None, Option, Some, [], ap, arith, false, if◌then◌else◌, inl, inr, length, not, refl, rules, subst, sym, true, ℕ, ◌*◌, ◌+◌, ◌-◌, ◌<◌, ◌||◌, ◌∙◌, ◌∷◌, ◌≡◌, ◌≢◌, ◌≤◌, ◌⊎◌}
pub use Rattle.std.specs.Option.{option_map}
pub use Rattle.std.specs.Ordering.{is_lt}
pub use Rattle.std.specs.Set.{is_member}
pub use Rattle.vdb_composite.specs.Mixes.{Adds, IsMixIn, mixed, mixed_cell, mixed_value}
pub use Rattle.vdb_composite.specs.declared.mix.Mix.{Mix}
pub use Rattle.vdb_composite.specs.declared.mix.Mix.TheVariants.{Replace, Values}
pub use Rattle.vdb_coord.proofs.Boxes.{not_true}
pub use Rattle.vdb_coord.proofs.Members.{coord_equiv}
pub use Rattle.vdb_coord.proofs.Positions.{entries_is, offset_below}
pub use Rattle.vdb_coord.specs.Blocks.{block, block_around, block_cmp, block_numbers, entries, key, node_bits, offset, vdb}
pub use Rattle.vdb_coord.specs.Entries.{AreBits}
pub use Rattle.vdb_coord.specs.Order.{ComesBefore}
pub use Rattle.vdb_coord.specs.Space.{Box, coord_eq, everywhere, is_inside}
pub use Rattle.vdb_coord.specs.declared.Bits.{Bits}
pub use Rattle.vdb_coord.specs.declared.Coord.{Coord}
pub use Rattle.vdb_coord.specs.declared.Level.TheVariants.{Leaf, Upper}
pub use Rattle.vdb_node.specs.Leaf.{cell_in}
pub use Rattle.vdb_node.specs.Nodes.{entry_count}
pub use Rattle.vdb_tree.proofs.Blocks.{never, uniform_block}
pub use Rattle.vdb_tree.proofs.Constants.{entries_some, last_ends, last_within}
pub use Rattle.vdb_tree.proofs.Fields.{cell_inside}
pub use Rattle.vdb_tree.proofs.Levels.{bool_cases}
pub use Rattle.vdb_tree.proofs.Rooted.{or_first, or_second}
pub use Rattle.vdb_tree.proofs.Sizes.{internal_small, leaf_small}
pub use Rattle.vdb_tree.proofs.Uniform.{exact_by}
pub use Rattle.vdb_tree.specs.ConstantBlocks.{is_background, roots}
pub use Rattle.vdb_tree.specs.Field.{Field, field, fill, off}
pub use Rattle.vdb_tree.specs.Layout.{Layout, field_of}
pub use Rattle.vdb_tree.specs.Pairs.{IsBackgroundInBoth, IsPairWalk, PassesPairs, TreePairWalk, YieldsPair}
pub use Rattle.vdb_tree.specs.Parts.{is_left, left_count}
pub use Rattle.vdb_value.specs.Blends.{blended}
pub use Rattle.vdb_value.specs.declared.Cell.{Cell}
pub use Rattle.vdb_value.specs.declared.blend.Blend.{Blend}
