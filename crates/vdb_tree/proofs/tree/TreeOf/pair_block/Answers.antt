use Rattle.vdb_tree.proofs.Common.{rules, fits_everywhere, bits_of}
use Rattle.vdb_tree.proofs.PairWalks.{around_is, over_first, over_second, pair_level_is}
use Rattle.vdb_tree.proofs.tree.TreeOf.pair_block.Goals as goal

pub returns-clause-level : goal.returns-clause-level
returns-clause-level g c =
    let bits = bits_of g.row.U g.row.L g.row.F in
    pair_level_is bits c.args.self.now c.args.other.now c.args.p c.level_of_end.result c.level_of_end-2.result c.lower_of-level.result c.level_of_end.ensures c.level_of_end-2.ensures c.lower_of-level.ensures

pub returns-clause-first : goal.returns-clause-first
returns-clause-first g c =
    let bits = bits_of g.row.U g.row.L g.row.F in
    let here = fits_everywhere c.args.p (search rules) (search rules) (search rules) in
    let is = pair_level_is bits c.args.self.now c.args.other.now c.args.p c.level_of_end.result c.level_of_end-2.result c.lower_of-level.result c.level_of_end.ensures c.level_of_end-2.ensures c.lower_of-level.ensures in
    let around = around_is bits c.args.self.now c.args.other.now c.args.p c.self.invariant.0.bits here c.lower_of-level.result is c.bits.result c.bits.ensures.value c.block_in-bounds.result c.block_in-bounds.ensures in
    over_first bits c.args.self.now c.args.other.now c.args.p c.lower_of-level.result c.block_in-bounds.result around c.args.first c.requires.first_end

pub returns-clause-second : goal.returns-clause-second
returns-clause-second g c =
    let bits = bits_of g.row.U g.row.L g.row.F in
    let here = fits_everywhere c.args.p (search rules) (search rules) (search rules) in
    let is = pair_level_is bits c.args.self.now c.args.other.now c.args.p c.level_of_end.result c.level_of_end-2.result c.lower_of-level.result c.level_of_end.ensures c.level_of_end-2.ensures c.lower_of-level.ensures in
    let around = around_is bits c.args.self.now c.args.other.now c.args.p c.self.invariant.0.bits here c.lower_of-level.result is c.bits.result c.bits.ensures.value c.block_in-bounds.result c.block_in-bounds.ensures in
    over_second bits c.args.self.now c.args.other.now c.args.p c.lower_of-level.result c.block_in-bounds.result around c.args.second c.requires.second_end
