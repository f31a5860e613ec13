use Rattle.vdb_tree.proofs.Common.{◌≡◌, ◌∙◌, ap, sym, subst, true, block, block_number, block_numbers, Box, is_inside, Bits, Upper, number_of_corner, bits_of}
use Rattle.vdb_tree.proofs.tree.TreeOf.key_corner.Goals as goal

pub numbered_block_in-requires-clause-within : goal.numbered_block_in-requires-clause-within
numbered_block_in-requires-clause-within g c = subst (λ (b : Bits). is_inside (block_numbers b Upper) c.args.key ≡ true) (sym c.bits.ensures.value) (c.self.invariant.1.keys c.args.key (rw (← c.self.view_is) at c.requires))

pub returns-clause-number : goal.returns-clause-number
returns-clause-number g c =
    let bits = bits_of g.row.U g.row.L g.row.F in
    let corner = c.min.ensures.corner ∙ ap (λ (b : Box). b.min) c.numbered_block_in.ensures ∙ ap (λ (b : Bits). (block b Upper c.args.key).min) c.bits.ensures.value in
    ap (block_number bits Upper) corner ∙ number_of_corner bits Upper c.args.key
