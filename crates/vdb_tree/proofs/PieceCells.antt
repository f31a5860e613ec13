-- The cells of a tile's block, and of a box of one coordinate.
use Rattle.vdb_tree.proofs.Common.{◌≡◌, ℤ, IsTrue, true, ap, subst, ◌∙◌, arith, ints, block_around, block_number, AreBits, Box, everywhere, is_inside, Bits, Coord, Level, Leaf, Lower, Upper, block_in_range, number_in_block, Tile, Cell, Layout, cell_at, entry_over, field_of}
use Rattle.vdb_coord.specs.Space.{is_between}
use Rattle.vdb_coord.proofs.Boxes.{three}
use Rattle.vdb_tree.proofs.Descents.{lower_by_block, root_by_block, tile_cell, tile_lower, tile_upper, upper_by_block}
use Rattle.vdb_tree.proofs.Fields.{cell_inside}

-- each cell of a tile's block is the tile's cell
pub tile_block : {V : Type 0} (bits : Bits) (t : Layout V) (level : Level) (p q : Coord) (cell : Cell V) → entry_over bits level t p ≡ Tile cell
    → block_number bits level q ≡ block_number bits level p → cell_at bits t q ≡ cell
tile_block bits t Upper p q cell tile e = tile_cell bits t cell q (tile_lower bits t cell q (tile_upper bits t cell q (root_by_block bits t q p e ∙ tile)))
tile_block bits t Lower p q cell tile e = tile_cell bits t cell q (tile_lower bits t cell q (upper_by_block bits t q p e ∙ tile))
tile_block bits t Leaf p q cell tile e = tile_cell bits t cell q (lower_by_block bits t q p e ∙ tile)

-- each cell of a tile's block is the tile's cell in the field
pub tile_field : {V : Type 0} (bits : Bits) (t : Layout V) (level : Level) (p : Coord) (cell : Cell V) → AreBits bits → IsTrue (is_inside everywhere p)
    → entry_over bits level t p ≡ Tile cell → (same_bits : Bits) → same_bits ≡ bits → (box : Box) → box ≡ block_around same_bits level p
    → (q : Coord) → IsTrue (is_inside box q) → (field_of bits t).cell q ≡ cell
tile_field bits t level p cell few here tile same_bits bits_are box box_is q inside =
    let block : box ≡ block_around bits level p = box_is ∙ ap (λ b. block_around b level p) bits_are in
    let e = number_in_block bits level (block_number bits level p) q (subst (λ b. IsTrue (is_inside b q)) block inside) in
    cell_inside t.background (cell_at bits t) q (block_in_range bits level few p q here e) ∙ tile_block bits t level p q cell tile e

self_between : (x y : ℤ) → is_between x x y ≡ true → y ≡ x
self_between x y h = grind (arith, ints)

-- the box of one coordinate holds no other coordinate
pub only_self : (p : Coord) (box : Box) → box ≡ record { min = p; max = p } → (q : Coord) → IsTrue (is_inside box q) → q ≡ p
only_self p box box_is q inside =
    let hs = three (is_between p.x p.x q.x) (is_between p.y p.y q.y) (is_between p.z p.z q.z) (subst (λ b. IsTrue (is_inside b q)) box_is inside) in
    let x = self_between p.x q.x hs.0 in
    let y = self_between p.y q.y hs.1 in
    let z = self_between p.z q.z hs.2 in
    λ i. record { x = x i; y = y i; z = z i }
