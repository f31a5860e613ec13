use Rattle.vdb_mask.proofs.Common.{◌*◌, arith, sym, bits_of}
use Rattle.std.proofs.lemmas.Nat.{ones-le}
use Rattle.vdb_mask.proofs.MaskLemmas.{on_count-le, on_count-zero}
use Rattle.vdb_mask.proofs.RowBits.{is_on-at}
use Rattle.vdb_mask.proofs.WordCounts.{on_count-word}
use Rattle.vdb_mask.proofs.words.count_ones.Goals as goal

pub counted-init : goal.counted-init
counted-init c = sym (on_count-zero (bits_of c.args.words.now))

pub overflow_add-count : goal.overflow_add-count
overflow_add-count c =
    let before = on_count-le (bits_of c.args.words.now) (64 * c.counted.k) in
    let here = ones-le 64 _ (c.type_inv.words c.counted.k).fits in
    omega (arith, before, here, c.counted.invariant)

pub counted-preserved : goal.counted-preserved
counted-preserved c =
    let step = on_count-word (bits_of c.args.words.now) c.counted.k _ (is_on-at c.args.words.now c.counted.k) (c.type_inv.words c.counted.k).fits in
    omega (arith, step, c.counted.invariant)
