use Rattle.vdb_walk.proofs.Common.{◌≡◌, ◌+◌, arith, subst, Option, Coord, Upper, bits_of, field_of, count, active_from}
use Rattle.vdb_walk.proofs.BlockCounts.{first_counted, sum_all, sum_fits, sum_more}
use Rattle.vdb_walk.proofs.active_count.count_blocks.Goals as goal

pub starts-init : goal.starts-init
starts-init g c =
    let first = first_counted (bits_of g.row.U g.row.L g.row.F) c.args.tree.now c.args.bounds c.min.ensures.bounds Upper c.min.result c.min.ensures.corner in
    record { start = first.0; counted = first.1 }

pub overflow_add-total : goal.overflow_add-total
overflow_add-total g c =
    let bits = bits_of g.row.U g.row.L g.row.F in
    let t = c.args.tree.now in
    let before = subst (λ (o : Option Coord). c.starts.total + active_from bits t c.args.bounds o ≡ count (field_of bits t) c.args.bounds) c.in-Some.is c.starts.invariant.counted in
    let more = sum_more bits t c.args.bounds c.starts.total c.count_next-active.result.0 _ _ _ c.count_next-active.ensures.counted before in
    let few = sum_fits bits t c.args.bounds (c.starts.total + c.count_next-active.result.0) _ more c.min.ensures.bounds in
    omega (arith, few)

pub starts-preserved : goal.starts-preserved
starts-preserved g c =
    let bits = bits_of g.row.U g.row.L g.row.F in
    let t = c.args.tree.now in
    let before = subst (λ (o : Option Coord). c.starts.total + active_from bits t c.args.bounds o ≡ count (field_of bits t) c.args.bounds) c.in-Some.is c.starts.invariant.counted in
    record {
      start = c.count_next-active.ensures.start;
      counted = sum_more bits t c.args.bounds c.starts.total c.count_next-active.result.0 _ _ _ c.count_next-active.ensures.counted before;
    }

pub returns-clause-value : goal.returns-clause-value
returns-clause-value g c = sum_all (bits_of g.row.U g.row.L g.row.F) c.args.tree.now c.args.bounds c.starts.total c.starts.at c.in_default.not-Some c.starts.invariant.counted

pub returns-clause-bound : goal.returns-clause-bound
returns-clause-bound g c = sum_fits (bits_of g.row.U g.row.L g.row.F) c.args.tree.now c.args.bounds c.starts.total _ c.starts.invariant.counted c.min.ensures.bounds
