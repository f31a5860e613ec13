use Rattle.vdb_walk.proofs.Common.{◌≡◌, ◌+◌, rules, subst, ap, ◌∙◌, Option, Box, Coord, Field, bits_of, field_of, non_constant, non_constant_from}
use Rattle.vdb_walk.proofs.NonConstantBlocks.{all_counted, first_counted, sum_few, sum_on, sum_same}
use Rattle.vdb_walk.proofs.node_census.non_constant_blocks.Goals as goal

pub starts-init : goal.starts-init
starts-init g c =
    let bits = bits_of g.row.U g.row.L g.row.F in
    let first = first_counted g.V.PartialEq.eq bits (rw c.bits.ensures.value at c.bits.ensures.configured) c.args.level (field_of bits c.args.tree.now) c.min.result (c.min.ensures.corner ∙ ap (λ (b : Box). b.min) c.all.ensures) in
    record { start = first.0; counted = first.1 }

pub overflow_add-total : goal.overflow_add-total
overflow_add-total g c =
    let bits = bits_of g.row.U g.row.L g.row.F in
    let f : Field g.row.V.Denot = field_of bits c.args.tree.now in
    let before = subst (λ (o : Option Coord). c.starts.total + non_constant_from g.V.PartialEq.eq bits c.args.level f o ≡ non_constant g.V.PartialEq.eq bits c.args.level f) c.in-Some.is c.starts.invariant.counted in
    let more = sum_on c.starts.total c.next_block-differs.result.0 _ _ _ c.next_block-differs.ensures.counted before c.if-differs.true in
    let few = sum_few c.starts.total _ _ c.node_count.result more c.node_count.ensures in
    search (rules, few)

pub starts-preserved-then-differs : goal.starts-preserved-then-differs
starts-preserved-then-differs g c =
    let bits = bits_of g.row.U g.row.L g.row.F in
    let f : Field g.row.V.Denot = field_of bits c.args.tree.now in
    let before = subst (λ (o : Option Coord). c.starts.total + non_constant_from g.V.PartialEq.eq bits c.args.level f o ≡ non_constant g.V.PartialEq.eq bits c.args.level f) c.in-Some.is c.starts.invariant.counted in
    record {
      start = c.next_block-differs.ensures.start;
      counted = sum_on c.starts.total c.next_block-differs.result.0 _ _ _ c.next_block-differs.ensures.counted before c.if-differs.true;
    }

pub starts-preserved : goal.starts-preserved
starts-preserved g c =
    let bits = bits_of g.row.U g.row.L g.row.F in
    let f : Field g.row.V.Denot = field_of bits c.args.tree.now in
    let before = subst (λ (o : Option Coord). c.starts.total + non_constant_from g.V.PartialEq.eq bits c.args.level f o ≡ non_constant g.V.PartialEq.eq bits c.args.level f) c.in-Some.is c.starts.invariant.counted in
    record {
      start = c.next_block-differs.ensures.start;
      counted = sum_same c.starts.total c.next_block-differs.result.0 _ _ _ c.next_block-differs.ensures.counted before c.if-differs.false;
    }

pub returns : goal.returns
returns g c =
    let bits = bits_of g.row.U g.row.L g.row.F in
    let f : Field g.row.V.Denot = field_of bits c.args.tree.now in
    all_counted g.V.PartialEq.eq bits c.args.level f c.starts.total c.starts.at c.in_default.not-Some c.starts.invariant.counted
