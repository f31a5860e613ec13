-- The levels of blocks and of their entries.
use Rattle.vdb_file.proofs.Common.{ℕ, ◌<◌, ◌^◌, Bool, List, block_around, AreBits, Bits, Coord, Level, Leaf, Lower, Upper, IsNextAbove, level_body}
use Rattle.vdb_file.proofs.Agreement.{AreValues}
use Rattle.vdb_file.proofs.RowInstances.{is_lower_row, is_upper_row, node_row}
use Rattle.vdb_file.proofs.Rows.{IsRow}

-- how many levels of nodes lie below a block
abbrev pub rank : Level → ℕ
rank Leaf = 0
rank Lower = 1
rank Upper = 2

-- the entries of a block of the level are a row
module _ {V : Type 0} {eq : V → V → Bool} {value_bytes : V → List ℕ} {P : V → Type 0} (values : AreValues eq value_bytes P) (bits : Bits) (few : AreBits bits) (c : Coord) where
  pub is_level_row : (level below : Level) → IsNextAbove level below → IsRow P (λ i. i < 2 ^ 16) (node_row bits level (block_around bits level c) (level_body eq value_bytes bits below))
  is_level_row Upper Lower next = is_upper_row values bits few c
  is_level_row Lower Leaf next = is_lower_row values bits few c
  is_level_row Upper Upper next = absurd next
  is_level_row Upper Leaf next = absurd next
  is_level_row Lower Upper next = absurd next
  is_level_row Lower Lower next = absurd next
  is_level_row Leaf below next = absurd next
