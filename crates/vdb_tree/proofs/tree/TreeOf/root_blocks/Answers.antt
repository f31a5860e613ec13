use Rattle.vdb_tree.proofs.Common.{rules, ◌<◌, arith, subst, bits_of, IsSound}
use Rattle.vdb_tree.proofs.KeysPast.{fewer_past}
use Rattle.vdb_tree.proofs.RootCounts.{count_within, counted_end, counted_start, next_background, next_non_background}
use Rattle.vdb_tree.proofs.Uniform.{exact_by}
use Rattle.vdb_tree.proofs.tree.TreeOf.root_blocks.Goals as goal

pub loop-key-init : goal.loop-key-init
loop-key-init g c =
    let exact = exact_by g.V.PartialEq.eq g.V.Ord.cmp g.met.V.Ord.matches_eq g.met.V.Voxel.exact in
    let itself = g.met.V.Eq.laws.refl in
    let bits = bits_of g.row.U g.row.L g.row.F in
    let t = c.args.self.now in
    counted_start g.V.PartialEq.eq exact itself bits c.self.invariant.0.bits t

pub loop-key-smaller-then-root_block_is : goal.loop-key-smaller-then-root_block_is
loop-key-smaller-then-root_block_is g c = fewer_past c.args.self.now.root c.loop-key.passed c.in-Some.key c.in-Some.ensures.least

pub loop-key-preserved-then-root_block_is : goal.loop-key-preserved-then-root_block_is
loop-key-preserved-then-root_block_is g c =
    let exact = exact_by g.V.PartialEq.eq g.V.Ord.cmp g.met.V.Ord.matches_eq g.met.V.Voxel.exact in
    let itself = g.met.V.Eq.laws.refl in
    let bits = bits_of g.row.U g.row.L g.row.F in
    let t = c.args.self.now in
    let test = rw c.background_cell-background_cell.ensures at c.root_block_is.ensures in
    next_background g.V.PartialEq.eq exact itself bits c.self.invariant.0.bits t c.loop-key.passed c.loop-key.count c.loop-key.invariant c.in-Some.key c.in-Some.ensures.least
    c.key_corner.result c.key_corner.ensures.number c.key_corner.ensures.inside c.root_block_is.result test c.if-root_block_is.true

pub overflow_add-count : goal.overflow_add-count
overflow_add-count g c =
    let exact = exact_by g.V.PartialEq.eq g.V.Ord.cmp g.met.V.Ord.matches_eq g.met.V.Voxel.exact in
    let itself = g.met.V.Eq.laws.refl in
    let bits = bits_of g.row.U g.row.L g.row.F in
    let t = c.args.self.now in
    let sound = subst (IsSound bits) c.self.view_is c.self.invariant.1 in
    let few = count_within g.V.PartialEq.eq exact itself bits c.self.invariant.0.bits t c.loop-key.passed c.loop-key.count sound c.loop-key.invariant c.in-Some.key c.in-Some.ensures.least in
    let limit : t.limit < 4294967296 = search rules in
    omega (arith, few, limit)

pub loop-key-smaller : goal.loop-key-smaller
loop-key-smaller g c = fewer_past c.args.self.now.root c.loop-key.passed c.in-Some.key c.in-Some.ensures.least

pub loop-key-preserved : goal.loop-key-preserved
loop-key-preserved g c =
    let exact = exact_by g.V.PartialEq.eq g.V.Ord.cmp g.met.V.Ord.matches_eq g.met.V.Voxel.exact in
    let itself = g.met.V.Eq.laws.refl in
    let bits = bits_of g.row.U g.row.L g.row.F in
    let t = c.args.self.now in
    let test = rw c.background_cell-background_cell.ensures at c.root_block_is.ensures in
    next_non_background g.V.PartialEq.eq exact itself bits c.self.invariant.0.bits t c.loop-key.passed c.loop-key.count c.loop-key.invariant c.in-Some.key c.in-Some.ensures.least
    c.key_corner.result c.key_corner.ensures.number c.key_corner.ensures.inside c.root_block_is.result test (c.in-Some.ensures.inside c.in-Some.key c.in-Some.ensures.least.0) c.if-root_block_is.false

pub returns : goal.returns
returns g c =
    let exact = exact_by g.V.PartialEq.eq g.V.Ord.cmp g.met.V.Ord.matches_eq g.met.V.Voxel.exact in
    let itself = g.met.V.Eq.laws.refl in
    let bits = bits_of g.row.U g.row.L g.row.F in
    let t = c.args.self.now in
    counted_end g.V.PartialEq.eq exact itself bits c.self.invariant.0.bits t c.loop-key.passed c.loop-key.count c.loop-key.invariant c.in_default.ensures.least
