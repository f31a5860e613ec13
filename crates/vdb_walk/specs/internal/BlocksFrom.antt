-- The blocks of a level from a coordinate on. Only proofs and private functions use these definitions.
use Rattle.std.specs.Prelude.{◌≡◌, ℕ, Bool, true, not, ◌&&◌, Option, Some, None, IsTrue, count_by}
use Rattle.vdb_coord.specs.Blocks.{block, block_around, block_number, block_numbers}
use Rattle.vdb_coord.specs.Order.{ComesBefore}
use Rattle.vdb_coord.specs.Space.{Box, coordinates, is_inside}
use Rattle.vdb_coord.specs.declared.Bits.{Bits}
use Rattle.vdb_coord.specs.declared.Coord.{Coord}
use Rattle.vdb_coord.specs.declared.Level.{Level}
use Rattle.vdb_tree.specs.Field.{Field}
use Rattle.vdb_tree.specs.Layout.{Layout, field_of}
use Rattle.vdb_tree.specs.Parts.{IsSkipped, TreeWalk, is_left}
use Rattle.vdb_tree.specs.declared.queries.parts.Skip.{Skip}
use Rattle.vdb_tree.specs.ConstantBlocks.{is_constant}

-- p is the first coordinate, in block order, of the box's part of the level's block around p
pub record IsBoxStart (bits : Bits) (level : Level) (box : Box) (p : Coord) : Type 0 where
  pub inside : IsTrue (is_inside box p)
  pub first : (q : Coord) → IsTrue (is_inside box q) → ComesBefore bits q p → block_number bits level q ≡ block_number bits level p → ⊥

-- q is p or comes after p, and a walk may skip each coordinate of the box from p on and before q; without a q, it may skip all of them
-- from p on
abbrev pub IsSkippedTo : {V : Type 0} → Bits → Layout V → Box → Skip → Coord → Option Coord → Type 0
IsSkippedTo bits t box skip p None = (r : Coord) → IsTrue (is_inside box r) → IsTrue (is_left bits (Some p) r) → IsSkipped bits skip t r
IsSkippedTo bits t box skip p (Some q) =
    IsTrue (is_inside box q) × IsTrue (is_left bits (Some p) q)
    × ((r : Coord) → IsTrue (is_inside box r) → IsTrue (is_left bits (Some p) r) → ComesBefore bits r q → IsSkipped bits skip t r)

-- q is the first coordinate of the walk's next part, and the walk may skip everything left that comes before q; without a next part, it
-- may skip everything that was left
abbrev pub IsPartStart : {V : Type 0} → Bits → Layout V → TreeWalk V → Option Coord → Type 0
IsPartStart bits t walk None = (r : Coord) → IsTrue (is_inside walk.box r) → IsTrue (is_left bits walk.at r) → IsSkipped bits walk.skip t r
IsPartStart bits t walk (Some q) =
    IsTrue (is_inside walk.box q)
    × ((r : Coord) → IsTrue (is_inside walk.box r) → IsTrue (is_left bits walk.at r) → ComesBefore bits r q → IsSkipped bits walk.skip t r)

module _ {V : Type 0} (eq : V → V → Bool) (bits : Bits) (level : Level) (f : Field V) where
  -- how many of the level's blocks that begin at the coordinate or past it aren't constant; 0 without a coordinate
  abbrev pub non_constant_from : Option Coord → ℕ
  non_constant_from at = count_by (λ n. not (is_constant eq f (block bits level n)) && is_left bits at (block bits level n).min) (coordinates (block_numbers bits level))

  -- the outer block around q holds the level's block, and `differs` says whether its cells differ; if they do, `outer` is the level
  pub record IsBlockAt (q : Coord) (outer : Level) (differs : Bool) : Type 0 where
    pub whole : (r s : Coord) → block_number bits level r ≡ block_number bits level s → block_number bits outer r ≡ block_number bits outer s
    pub test : differs ≡ not (is_constant eq f (block_around bits outer q))
    pub own : differs ≡ true → outer ≡ level

-- ---- the active voxels of a box from a coordinate on

module _ {V : Type 0} (bits : Bits) (t : Layout V) (box : Box) where
  -- how many voxels of the box at the coordinate or past it are active; 0 without a coordinate
  abbrev pub active_from : Option Coord → ℕ
  active_from at = count_by (λ p. ((field_of bits t).cell p).on && is_left bits at p) (coordinates box)

  -- how many voxels of the box are active in the level's block around q
  abbrev pub active_around : Level → Coord → ℕ
  active_around level q = count_by (λ p. ((field_of bits t).cell p).on && is_inside (block_around bits level q) p) (coordinates box)
