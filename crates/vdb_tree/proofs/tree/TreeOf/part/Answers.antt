use Rattle.vdb_tree.proofs.Common.{◌∙◌, sym, block_around, block_number, is_inside, and_true, both, inside_around, inside_numbered, number_in_block, bits_of}
use Rattle.vdb_tree.proofs.Blocks.{never}
use Rattle.vdb_tree.proofs.tree.TreeOf.part.Goals as goal

pub unreachable-requires : goal.unreachable-requires
unreachable-requires g c =
    let bits = c.bits.result in
    let block = block_around bits c.args.level c.args.p in
    let none = rw c.block_in.ensures at c.in-None.ensures.none in
    never (none c.args.p) (and_true (is_inside c.args.bounds c.args.p) (is_inside block c.args.p) c.requires (inside_around bits c.args.level c.args.p))

pub returns-clause-within : goal.returns-clause-within
returns-clause-within g c = λ q inside.
    let bits = bits_of g.row.U g.row.L g.row.F in
    let p = c.args.p in
    let level = c.args.level in
    let value = rw (c.block_in.ensures, c.bits.ensures.value) at c.in-Some.ensures.both in
    let parts = both (is_inside c.args.bounds q) (is_inside (block_around bits level p) q) (sym (value q) ∙ inside) in
    (parts.0, number_in_block bits level (block_number bits level p) q parts.1)

pub returns-clause-all : goal.returns-clause-all
returns-clause-all g c = λ q inside same.
    let bits = bits_of g.row.U g.row.L g.row.F in
    let p = c.args.p in
    let level = c.args.level in
    let value = rw (c.block_in.ensures, c.bits.ensures.value) at c.in-Some.ensures.both in
    value q ∙ and_true (is_inside c.args.bounds q) (is_inside (block_around bits level p) q) inside (inside_numbered bits level (block_number bits level p) q same)
