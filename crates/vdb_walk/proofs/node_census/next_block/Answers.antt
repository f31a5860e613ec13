use Rattle.vdb_walk.proofs.Common.{IsNextCoord, everywhere, bits_of, exact_by}
use Rattle.vdb_walk.proofs.NonConstantBlocks.{non_constant_end, non_constant_next, nearer_next, start_next}
use Rattle.vdb_walk.proofs.NonConstantLeaves.{leaf_nearer, leaf_start, leaves_next}
use Rattle.vdb_walk.proofs.node_census.next_block.Goals as goal

pub returns-in-Some-clause-counted : goal.returns-in-Some-clause-counted
returns-in-Some-clause-counted g c =
    let exact = exact_by g.V.PartialEq.eq g.V.Ord.cmp g.met.V.Ord.matches_eq g.met.V.Voxel.exact in
    let bits = bits_of g.row.U g.row.L g.row.F in
    let is_next : IsNextCoord bits c.block_at-outer.result.0 everywhere c.in-Some.q c.next_coord_in.result = rw (c.all-in-Some.ensures, c.bits-bits.ensures.value) at c.next_coord_in.ensures.next in
    non_constant_next g.V.PartialEq.eq exact g.met.V.Eq.laws.refl bits (rw c.bits-bits.ensures.value at c.bits-bits.ensures.configured) c.args.level c.args.tree.now c.args.p c.requires c.in-Some.q (rw c.all.ensures at c.in-Some.ensures) c.block_at-outer.result.0 c.block_at-outer.result.1 c.block_at-outer.ensures c.next_coord_in.result is_next

pub returns-in-Some-clause-start : goal.returns-in-Some-clause-start
returns-in-Some-clause-start g c =
    let exact = exact_by g.V.PartialEq.eq g.V.Ord.cmp g.met.V.Ord.matches_eq g.met.V.Voxel.exact in
    let bits = bits_of g.row.U g.row.L g.row.F in
    let is_next : IsNextCoord bits c.block_at-outer.result.0 everywhere c.in-Some.q c.next_coord_in.result = rw (c.all-in-Some.ensures, c.bits-bits.ensures.value) at c.next_coord_in.ensures.next in
    start_next g.V.PartialEq.eq exact g.met.V.Eq.laws.refl bits (rw c.bits-bits.ensures.value at c.bits-bits.ensures.configured) c.args.level c.args.tree.now c.args.p c.requires c.in-Some.q (rw c.all.ensures at c.in-Some.ensures) c.block_at-outer.result.0 c.block_at-outer.result.1 c.block_at-outer.ensures c.next_coord_in.result is_next

pub returns-in-Some-clause-nearer : goal.returns-in-Some-clause-nearer
returns-in-Some-clause-nearer g c =
    let exact = exact_by g.V.PartialEq.eq g.V.Ord.cmp g.met.V.Ord.matches_eq g.met.V.Voxel.exact in
    let bits = bits_of g.row.U g.row.L g.row.F in
    let is_next : IsNextCoord bits c.block_at-outer.result.0 everywhere c.in-Some.q c.next_coord_in.result = rw (c.all-in-Some.ensures, c.bits-bits.ensures.value) at c.next_coord_in.ensures.next in
    nearer_next g.V.PartialEq.eq exact g.met.V.Eq.laws.refl bits (rw c.bits-bits.ensures.value at c.bits-bits.ensures.configured) c.args.level c.args.tree.now c.args.p c.requires c.in-Some.q (rw c.all.ensures at c.in-Some.ensures) c.block_at-outer.result.0 c.block_at-outer.result.1 c.block_at-outer.ensures c.next_coord_in.result is_next

pub returns-in-None-clause-counted : goal.returns-in-None-clause-counted
returns-in-None-clause-counted g c =
    let exact = exact_by g.V.PartialEq.eq g.V.Ord.cmp g.met.V.Ord.matches_eq g.met.V.Voxel.exact in
    let bits = bits_of g.row.U g.row.L g.row.F in
    non_constant_end g.V.PartialEq.eq exact g.met.V.Eq.laws.refl bits (rw c.bits-bits.ensures.value at c.bits-bits.ensures.configured) c.args.level c.args.tree.now c.args.p (rw c.all.ensures at c.in-None.ensures)

pub returns-in-Leaf-clause-counted : goal.returns-in-Leaf-clause-counted
returns-in-Leaf-clause-counted g c =
    let exact = exact_by g.V.PartialEq.eq g.V.Ord.cmp g.met.V.Ord.matches_eq g.met.V.Voxel.exact in
    let bits = bits_of g.row.U g.row.L g.row.F in
    rw c.in-Leaf.is
    (leaves_next g.V.PartialEq.eq exact g.met.V.Eq.laws.refl bits (rw c.bits-bits.ensures.value at c.bits-bits.ensures.configured) c.args.tree.now c.args.p (rw c.in-Leaf.is at c.requires) c.leaf_at.result.1 c.leaf_at.ensures.next c.leaf_at.result.0 c.leaf_at.ensures.test)

pub returns-in-Leaf-clause-start : goal.returns-in-Leaf-clause-start
returns-in-Leaf-clause-start g c =
    let exact = exact_by g.V.PartialEq.eq g.V.Ord.cmp g.met.V.Ord.matches_eq g.met.V.Voxel.exact in
    let bits = bits_of g.row.U g.row.L g.row.F in
    rw c.in-Leaf.is
    (leaf_start g.V.PartialEq.eq exact g.met.V.Eq.laws.refl bits (rw c.bits-bits.ensures.value at c.bits-bits.ensures.configured) c.args.tree.now c.args.p (rw c.in-Leaf.is at c.requires) c.leaf_at.result.1 c.leaf_at.ensures.next)

pub returns-in-Leaf-clause-nearer : goal.returns-in-Leaf-clause-nearer
returns-in-Leaf-clause-nearer g c =
    let exact = exact_by g.V.PartialEq.eq g.V.Ord.cmp g.met.V.Ord.matches_eq g.met.V.Voxel.exact in
    let bits = bits_of g.row.U g.row.L g.row.F in
    leaf_nearer g.V.PartialEq.eq exact g.met.V.Eq.laws.refl bits (rw c.bits-bits.ensures.value at c.bits-bits.ensures.configured) c.args.tree.now c.args.p (rw c.in-Leaf.is at c.requires) c.leaf_at.result.1 c.leaf_at.ensures.next
