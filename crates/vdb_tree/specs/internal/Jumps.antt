-- The next start in a node, if a walk may pass over entries.
use Rattle.std.specs.Prelude.{◌≡◌, ◌⊎◌, ℕ, ◌<◌, Option, Some, None, IsTrue}
use Rattle.vdb_coord.specs.Blocks.{block_around, block_number, entries, offset, sub_block}
use Rattle.vdb_coord.specs.Order.{ComesBefore, IsUpToBlock}
use Rattle.vdb_coord.specs.Space.{Box, is_inside}
use Rattle.vdb_coord.specs.declared.Bits.{Bits}
use Rattle.vdb_coord.specs.declared.Coord.{Coord}
use Rattle.vdb_coord.specs.declared.Level.{Level}
use Rattle.vdb_tree.specs.Layout.{Layout}
use Rattle.vdb_tree.specs.Parts.{IsSkipped}
use Rattle.vdb_tree.specs.declared.queries.parts.Skip.{Skip}

module _ {V : Type 0} (bits : Bits) (t : Layout V) (skip : Skip) where
  -- a walk may pass over what lies past p's entry of the outer level's node around p, up to the entry of this index
  pub record ArePassed (outer : Level) (p : Coord) (index : ℕ) : Type 0 where
    pub passed : (q : Coord) → block_number bits outer q ≡ block_number bits outer p → offset bits outer p < offset bits outer q → offset bits outer q < index → IsSkipped bits skip t q

  -- the entry of this index comes past p's, and a walk may pass over the entries between
  pub record IsNextEntryAt (outer : Level) (p : Coord) (index : ℕ) : Type 0 where
    pub within : index < entries bits outer
    pub past : offset bits outer p < index
    pub between : ArePassed outer p index

  -- the block of the next entry past p's; a walk may pass over the entries between
  pub record IsNextPartAt (outer : Level) (p : Coord) (part : Box) : Type 0 where
    pub index : ℕ
    pub entry : IsNextEntryAt outer p index
    pub block : part ≡ sub_block bits outer (block_around bits outer p) index

  -- the block of that next entry; none if a walk may pass over all that is left of the node
  abbrev pub IsNextPart : Level → Coord → Option Box → Type 0
  IsNextPart outer p None = ArePassed outer p (entries bits outer)
  IsNextPart outer p (Some part) = IsNextPartAt outer p part

  module _ (box : Box) where
    -- a coordinate of p's outer block, past p's inner one: the first of the box in its own inner block; a walk may pass over those between
    pub record IsJumpAt (outer level : Level) (p next : Coord) : Type 0 where
      pub inside : IsTrue (is_inside box next)
      pub outer_block : block_number bits outer next ≡ block_number bits outer p
      pub past : (q : Coord) → IsTrue (is_inside box q) → block_number bits level q ≡ block_number bits level p → ComesBefore bits q next
      pub between : (q : Coord) → IsTrue (is_inside box q) → block_number bits outer q ≡ block_number bits outer p → ComesBefore bits q next → IsUpToBlock bits level p q ⊎ IsSkipped bits skip t q
      pub first : (q : Coord) → IsTrue (is_inside box q) → block_number bits level q ≡ block_number bits level next → ComesBefore bits q next → ⊥

    -- a walk may pass over all that the box has of the outer block past the inner one
    pub record IsLast (outer level : Level) (p : Coord) : Type 0 where
      pub passed : (q : Coord) → IsTrue (is_inside box q) → block_number bits outer q ≡ block_number bits outer p → IsUpToBlock bits level p q ⊎ IsSkipped bits skip t q

    -- the next start of a node, if there is one
    abbrev pub IsJump : Level → Level → Coord → Option Coord → Type 0
    IsJump outer level p None = IsLast outer level p
    IsJump outer level p (Some next) = IsJumpAt outer level p next
