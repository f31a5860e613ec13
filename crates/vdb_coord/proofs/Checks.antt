-- Values worked out by hand, found by computing.
use Rattle.vdb_coord.proofs.Common.{refl, rules, ◌≡◌, ◌^◌, pos, negsuc, length, Some, None, Less, Greater, coord, everywhere, volume, offset, key, block_around, block_cmp, block_numbers, sub_block, overlap, AreBits, Bits, Leaf, Lower, Upper}
use Rattle.vdb_coord.specs.Faces.{neighbours}
use Rattle.vdb_coord.specs.Space.{coordinates}
use Rattle.vdb_coord.specs.Blocks.{vdb}
use Rattle.vdb_coord.specs.Faces.{neighbour}
use Rattle.vdb_coord.specs.declared.face.Face.TheVariants.{PlusX, MinusZ}

leaf_83 : offset vdb Leaf (coord (pos 1) (pos 2) (pos 3)) ≡ 83
leaf_83 = refl

last_leaf : offset vdb Leaf (coord (negsuc 0) (negsuc 0) (negsuc 0)) ≡ 511
last_leaf = refl

last_lower : offset vdb Lower (coord (negsuc 0) (negsuc 0) (negsuc 0)) ≡ 4095
last_lower = refl

last_upper : offset vdb Upper (coord (negsuc 0) (negsuc 0) (negsuc 0)) ≡ 32767
last_upper = refl

abbrev narrow : Bits
narrow = record { upper = 4; lower = 3; leaf = 3 }

narrow_upper : offset narrow Upper (coord (negsuc 0) (negsuc 0) (negsuc 0)) ≡ 4095
narrow_upper = refl

key_below : key vdb (coord (negsuc 0) (pos 4096) (negsuc 4096)) ≡ coord (negsuc 0) (pos 1) (negsuc 1)
key_below = refl

keys : block_numbers vdb Upper ≡ record { min = coord (negsuc 524287) (negsuc 524287) (negsuc 524287); max = coord (pos 524287) (pos 524287) (pos 524287) }
keys = refl

-- (-1,0,0), (0,0,7), (0,1,0), (0,0,8), (8,0,0)
order_1 : block_cmp vdb (coord (negsuc 0) (pos 0) (pos 0)) (coord (pos 0) (pos 0) (pos 7)) ≡ Less
order_1 = refl

order_2 : block_cmp vdb (coord (pos 0) (pos 0) (pos 7)) (coord (pos 0) (pos 1) (pos 0)) ≡ Less
order_2 = refl

order_3 : block_cmp vdb (coord (pos 0) (pos 1) (pos 0)) (coord (pos 0) (pos 0) (pos 8)) ≡ Less
order_3 = refl

order_4 : block_cmp vdb (coord (pos 0) (pos 0) (pos 8)) (coord (pos 8) (pos 0) (pos 0)) ≡ Less
order_4 = refl

-- (0,0,64) comes before (63,0,0) in a VDB tree and after it in the narrow one
wide_first : block_cmp vdb (coord (pos 0) (pos 0) (pos 64)) (coord (pos 63) (pos 0) (pos 0)) ≡ Less
wide_first = refl

narrow_first : block_cmp narrow (coord (pos 0) (pos 0) (pos 64)) (coord (pos 63) (pos 0) (pos 0)) ≡ Greater
narrow_first = refl

at_the_edge : length (neighbours (coord (pos 2147483647) (pos 0) (pos 0))) ≡ 5
at_the_edge = refl

eight : length (coordinates (record { min = coord (negsuc 0) (negsuc 0) (negsuc 0); max = coord (pos 0) (pos 0) (pos 0) })) ≡ 8
unfolding coordinates
eight = refl

whole_space : volume everywhere ≡ 2 ^ 96
whole_space = refl

narrow_lower : offset narrow Lower (coord (negsuc 0) (negsuc 0) (negsuc 0)) ≡ 511
narrow_lower = refl

narrow_leaf : offset narrow Leaf (coord (negsuc 0) (negsuc 0) (negsuc 0)) ≡ 511
narrow_leaf = refl

least_key : key vdb (coord (negsuc 2147483647) (negsuc 2147483647) (negsuc 2147483647)) ≡ coord (negsuc 524287) (negsuc 524287) (negsuc 524287)
least_key = refl

last_block : block_around vdb Upper (coord (pos 2147483647) (pos 2147483647) (pos 2147483647))
    ≡ record { min = coord (pos 2147479552) (pos 2147479552) (pos 2147479552); max = coord (pos 2147483647) (pos 2147483647) (pos 2147483647) }
last_block = refl

first_block : (block_around vdb Leaf (coord (negsuc 2147483647) (pos 0) (negsuc 0))).min ≡ coord (negsuc 2147483647) (pos 0) (negsuc 7)
first_block = refl

no_neighbour : neighbour PlusX (coord (pos 2147483647) (pos 0) (pos 0)) ≡ None
no_neighbour = refl

last_neighbour : neighbour MinusZ (coord (pos 0) (pos 0) (negsuc 2147483646)) ≡ Some (coord (pos 0) (pos 0) (negsuc 2147483647))
last_neighbour = refl

entry_83 : sub_block vdb Leaf (block_around vdb Leaf (coord (negsuc 0) (pos 0) (pos 4000))) 83 ≡ record { min = coord (negsuc 6) (pos 2) (pos 4003); max = coord (negsuc 6) (pos 2) (pos 4003) }
entry_83 = refl

overlap_of_two : overlap (record { min = coord (negsuc 0) (negsuc 0) (negsuc 0); max = coord (pos 7) (pos 0) (pos 8) }) (record { min = coord (pos 0) (negsuc 9) (pos 5); max = coord (pos 9) (pos 9) (pos 9) })
    ≡ Some (record { min = coord (pos 0) (negsuc 0) (pos 5); max = coord (pos 7) (pos 0) (pos 8) })
overlap_of_two = refl

no_overlap : overlap (record { min = coord (pos 0) (pos 0) (pos 0); max = coord (pos 7) (pos 7) (pos 7) }) (record { min = coord (pos 0) (pos 8) (pos 0); max = coord (pos 7) (pos 9) (pos 7) }) ≡ None
no_overlap = refl

bits_of_a_vdb_tree : AreBits vdb
bits_of_a_vdb_tree = search rules
