use Rattle.vdb_tree.proofs.Common.{◌≡◌, ◌∙◌, ◌&&◌, subst, sym, true, IsSome, block_around, block_number, Box, is_box, is_inside, Bits, Coord, Upper, not_before_min, and_true, both, inside_numbered, number_in_block, min_inside, bits_of, root_at}
use Rattle.vdb_tree.proofs.Blocks.{never}
use Rattle.vdb_tree.proofs.tree.TreeOf.first_within_root.Goals as goal

-- the least corner of the intersection of box and block lies in both
corner : (bits : Bits) (box part : Box) (n : Coord) → ((p : Coord) → is_inside part p ≡ (is_inside box p && is_inside (block_around bits Upper n) p)) → is_box part ≡ true
    → (is_inside box part.min ≡ true) × (block_number bits Upper part.min ≡ block_number bits Upper n)
corner bits box part n value is =
    let parts = both (is_inside box part.min) (is_inside (block_around bits Upper n) part.min) (sym (value part.min) ∙ min_inside part is) in
    (parts.0, number_in_block bits Upper (block_number bits Upper n) part.min parts.1)

pub returns-in-Some-clause-inside : goal.returns-in-Some-clause-inside
returns-in-Some-clause-inside g c =
    let value = rw (c.block_in-block.ensures, c.bits.ensures.value) at c.in-Some.ensures.both in
    rw c.min.ensures.corner (corner (bits_of g.row.U g.row.L g.row.F) c.args.bounds c.in-Some.part c.key_corner.result value (both _ _ c.min.ensures.bounds).0).0

pub returns-in-Some-clause-number : goal.returns-in-Some-clause-number
returns-in-Some-clause-number g c =
    let value = rw (c.block_in-block.ensures, c.bits.ensures.value) at c.in-Some.ensures.both in
    rw c.min.ensures.corner ((corner (bits_of g.row.U g.row.L g.row.F) c.args.bounds c.in-Some.part c.key_corner.result value (both _ _ c.min.ensures.bounds).0).1 ∙ c.key_corner.ensures.number)

pub returns-in-Some-clause-entered : goal.returns-in-Some-clause-entered
returns-in-Some-clause-entered g c =
    let value = rw (c.block_in-block.ensures, c.bits.ensures.value) at c.in-Some.ensures.both in
    let number = (corner (bits_of g.row.U g.row.L g.row.F) c.args.bounds c.in-Some.part c.key_corner.result value (both _ _ c.min.ensures.bounds).0).1 ∙ c.key_corner.ensures.number in
    rw c.min.ensures.corner (subst (λ (k : Coord). IsSome (root_at c.args.self.now.root k)) (sym number) c.requires)

pub returns-in-Some-clause-first : goal.returns-in-Some-clause-first
returns-in-Some-clause-first g c = λ q inside same before.
    let bits = bits_of g.row.U g.row.L g.row.F in
    let n = c.key_corner.result in
    let value = rw (c.block_in-block.ensures, c.bits.ensures.value) at c.in-Some.ensures.both in
    let there = and_true (is_inside c.args.bounds q) (is_inside (block_around bits Upper n) q) inside (inside_numbered bits Upper (block_number bits Upper n) q (same ∙ sym c.key_corner.ensures.number)) in
    not_before_min bits c.in-Some.part q (value q ∙ there) (rw c.min.ensures.corner at before)

pub returns-in-None-clause-none : goal.returns-in-None-clause-none
returns-in-None-clause-none g c = λ q inside same.
    let bits = bits_of g.row.U g.row.L g.row.F in
    let n = c.key_corner.result in
    let value = rw (c.block_in-block.ensures, c.bits.ensures.value) at c.in-None.ensures.none in
    never {b = is_inside c.args.bounds q && is_inside (block_around bits Upper n) q} (value q)
    (and_true (is_inside c.args.bounds q) (is_inside (block_around bits Upper n) q) inside (inside_numbered bits Upper (block_number bits Upper n) q (same ∙ sym c.key_corner.ensures.number)))
