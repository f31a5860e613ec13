use Rattle.vdb_tree.proofs.Common.{arith, rules, ◌+◌, ◌∙◌, Lower, fits_everywhere, bits_of, field_of}
use Rattle.vdb_tree.proofs.ActiveCounts.{all_counted, below_all, below_enough, below_few, below_next, below_none, leaf_part}
use Rattle.vdb_tree.proofs.Constants.{entries_few}
use Rattle.vdb_tree.proofs.UnlikeEntries.{index_after, index_fits, least, nearer}
use Rattle.vdb_tree.proofs.tree.TreeOf.active_in_lower_node.Goals as goal

pub entries-init : goal.entries-init
entries-init g c =
    let bits = bits_of g.row.U g.row.L g.row.F in
    record {
      counted = all_counted c.args.enough _ 0 (below_none (field_of bits c.args.self.now) bits Lower c.args.p);
      within = least _;
    }

pub overflow_add-total : goal.overflow_add-total
overflow_add-total g c =
    let bits = bits_of g.row.U g.row.L g.row.F in
    let f = field_of bits c.args.self.now in
    let more = below_next f bits Lower c.args.p c.entries.from c.in-Some.index c.in-Some.ensures.from_on c.in-Some.ensures.within c.in-Some.ensures.before c.args.enough c.entries.total c.active_in_leaf-total.result _ (leaf_part bits c.args.p c.leaf_corner-corner.result c.in-Some.index c.leaf_corner-corner.ensures.block c.leaf_corner-corner.ensures.entry) c.entries.invariant.counted (all_counted c.args.enough _ c.active_in_leaf-total.result c.active_in_leaf-total.ensures.value) in
    let few = below_few f bits Lower c.args.p c.self.invariant.0.bits (fits_everywhere c.args.p (search rules) (search rules) (search rules)) (c.in-Some.index + 1) (c.entries.total + c.active_in_leaf-total.result) more.0 in
    omega (arith, few)

pub overflow_add-from : goal.overflow_add-from
overflow_add-from g c = let k = index_fits c.in-Some.index _ c.in-Some.ensures.within (entries_few (bits_of g.row.U g.row.L g.row.F) Lower c.self.invariant.0.bits) in omega (arith, k)

pub entries-smaller : goal.entries-smaller
entries-smaller g c = nearer c.entries.from c.in-Some.index _ c.in-Some.ensures.from_on c.in-Some.ensures.within

pub entries-preserved : goal.entries-preserved
entries-preserved g c =
    let bits = bits_of g.row.U g.row.L g.row.F in
    let f = field_of bits c.args.self.now in
    record {
      counted = below_next f bits Lower c.args.p c.entries.from c.in-Some.index c.in-Some.ensures.from_on c.in-Some.ensures.within c.in-Some.ensures.before c.args.enough c.entries.total c.active_in_leaf-total.result _ (leaf_part bits c.args.p c.leaf_corner-corner.result c.in-Some.index c.leaf_corner-corner.ensures.block c.leaf_corner-corner.ensures.entry) c.entries.invariant.counted (all_counted c.args.enough _ c.active_in_leaf-total.result c.active_in_leaf-total.ensures.value);
      within = index_after c.in-Some.index _ c.in-Some.ensures.within;
    }

pub returns-in_default-clause-value : goal.returns-in_default-clause-value
returns-in_default-clause-value g c =
    let bits = bits_of g.row.U g.row.L g.row.F in
    all_counted c.args.enough _ c.entries.total
    (c.entries.invariant.counted.1 c.entries-test.true ∙ below_all (field_of bits c.args.self.now) bits Lower c.args.p c.entries.from c.in_default.ensures)

pub returns-in_default-clause-bound : goal.returns-in_default-clause-bound
returns-in_default-clause-bound g c =
    let bits = bits_of g.row.U g.row.L g.row.F in
    below_few (field_of bits c.args.self.now) bits Lower c.args.p c.self.invariant.0.bits (fits_everywhere c.args.p (search rules) (search rules) (search rules)) c.entries.from c.entries.total c.entries.invariant.counted.0

pub returns-clause-value : goal.returns-clause-value
returns-clause-value g c =
    let bits = bits_of g.row.U g.row.L g.row.F in
    below_enough (field_of bits c.args.self.now) bits Lower c.args.p c.args.enough c.entries.from c.entries.total c.entries.invariant.counted (omega (arith, c.entries-test.false))

pub returns-clause-bound : goal.returns-clause-bound
returns-clause-bound g c =
    let bits = bits_of g.row.U g.row.L g.row.F in
    below_few (field_of bits c.args.self.now) bits Lower c.args.p c.self.invariant.0.bits (fits_everywhere c.args.p (search rules) (search rules) (search rules)) c.entries.from c.entries.total c.entries.invariant.counted.0
