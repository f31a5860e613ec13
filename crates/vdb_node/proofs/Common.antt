-- The names that most proofs of this crate cite, passed on from one place. It declares nothing.
pub use Rattle.std.proofs.Common.{Bool, List, None, Option, Some, ap, arith, false, get_or, if◌then◌else◌, inl, inr, length, not, refl, sym, true, ℕ, ◌%◌, ◌*◌, ◌+◌, ◌-◌, ◌/◌, ◌<◌, ◌==◌, ◌^◌, ◌||◌, ◌↔◌, ◌∙◌, ◌≡◌, ◌≢◌, ◌≤◌}
pub use Rattle.std.proofs.Math.Bool.{or-false}
pub use Rattle.std.proofs.lemmas.Bool.{cases_Bool, cases_lt}
pub use Rattle.std.proofs.lemmas.List.{get_or_past}
pub use Rattle.std.proofs.lemmas.Nat.{shr-shr}
pub use Rattle.std.proofs.lemmas.Nat.Bits.{bit_at_above, bit_at_cat_high}
pub use Rattle.std.specs.Int.{bit_at}
pub use Rattle.std.specs.Prelude.{bit_and, bit_or}
pub use Rattle.vdb_mask.proofs.WordBits.{has_bit-and, has_bit-or}
pub use Rattle.vdb_mask.specs.Mask.{has_bit, is_on}
pub use Rattle.vdb_node.specs.Bounds.{Projects}
pub use Rattle.vdb_node.specs.Entries.{entry_of}
pub use Rattle.vdb_node.specs.Leaf.{cell_in}
pub use Rattle.vdb_node.specs.Nodes.{entry_count, listed}
pub use Rattle.vdb_node.specs.declared.Entry.TheVariants.{Child}
pub use Rattle.vdb_value.specs.Blends.{blended}
pub use Rattle.vdb_value.specs.declared.Cell.{Cell}
