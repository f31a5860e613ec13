-- The edge of a block between two numbers.
use Rattle.vdb_walk.proofs.Common.{SFits, rules, w32, to_z-of_z, first_of, le_from_test}
use Rattle.vdb_walk.proofs.BoxOrder.{edge_between, edge_first, edge_fits}
use Rattle.vdb_walk.proofs.halves.edge.Goals as goal

pub middle-requires : goal.middle-requires
middle-requires c =
    let first : SFits w32 c.number-first.result = search rules in
    let last : SFits w32 c.number-last.result = search rules in
    simp to_z-of_z (search rules)

pub overflow_mul-result : goal.overflow_mul-result
overflow_mul-result c =
    let first : SFits w32 c.number-first.result = search rules in
    let last : SFits w32 c.number-last.result = search rules in
    let at : SFits w32 c.middle.result = search rules in
    let span : SFits w32 c.span.result = search rules in
    let between = rw (to_z-of_z w32 c.number-first.result first, to_z-of_z w32 c.number-last.result last, c.number-first.ensures, c.number-last.ensures, to_z-of_z w32 c.args.low c.ranges.low, to_z-of_z w32 c.args.high c.ranges.high) at c.middle.ensures in
    rw (to_z-of_z w32 c.middle.result at, to_z-of_z w32 c.span.result span, c.span.ensures) (edge_fits c.args.least c.args.low c.args.high c.middle.result c.ranges.low c.ranges.high between.0 between.1)

pub returns-then-last-first-clause-none : goal.returns-then-last-first-clause-none
returns-then-last-first-clause-none c = λ _.
    let first : SFits w32 c.number-first.result = search rules in
    let last : SFits w32 c.number-last.result = search rules in
    le_from_test _ _ (rw (to_z-of_z w32 c.number-first.result first, to_z-of_z w32 c.number-last.result last, c.number-first.ensures, c.number-last.ensures, to_z-of_z w32 c.args.low c.ranges.low, to_z-of_z w32 c.args.high c.ranges.high) at c.if-last-first.true)

pub returns-clause-some : goal.returns-clause-some
returns-clause-some c =
    let first : SFits w32 c.number-first.result = search rules in
    let last : SFits w32 c.number-last.result = search rules in
    let at : SFits w32 c.middle.result = search rules in
    let span : SFits w32 c.span.result = search rules in
    let between = rw (to_z-of_z w32 c.number-first.result first, to_z-of_z w32 c.number-last.result last, c.number-first.ensures, c.number-last.ensures, to_z-of_z w32 c.args.low c.ranges.low, to_z-of_z w32 c.args.high c.ranges.high) at c.middle.ensures in
    let fits = edge_fits c.args.least c.args.low c.args.high c.middle.result c.ranges.low c.ranges.high between.0 between.1 in
    rw (to_z-of_z w32 c.middle.result at, to_z-of_z w32 c.span.result span, c.span.ensures, to_z-of_z w32 (first_of c.args.least c.middle.result) fits)
    (edge_between c.args.least c.args.low c.args.high c.middle.result c.ranges.low c.ranges.high between.0 between.1)

pub returns-clause-first : goal.returns-clause-first
returns-clause-first c =
    let first : SFits w32 c.number-first.result = search rules in
    let last : SFits w32 c.number-last.result = search rules in
    let at : SFits w32 c.middle.result = search rules in
    let span : SFits w32 c.span.result = search rules in
    let between = rw (to_z-of_z w32 c.number-first.result first, to_z-of_z w32 c.number-last.result last, c.number-first.ensures, c.number-last.ensures, to_z-of_z w32 c.args.low c.ranges.low, to_z-of_z w32 c.args.high c.ranges.high) at c.middle.ensures in
    let fits = edge_fits c.args.least c.args.low c.args.high c.middle.result c.ranges.low c.ranges.high between.0 between.1 in
    rw (to_z-of_z w32 c.middle.result at, to_z-of_z w32 c.span.result span, c.span.ensures, to_z-of_z w32 (first_of c.args.least c.middle.result) fits)
    (edge_first c.args.least c.middle.result)
