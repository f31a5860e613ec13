use Rattle.vdb_file.proofs.Common.{◌<◌, ℕ, refl, subst, arith, rules, err_from_is_err_and, entries, vdb, Leaf, SetsVoxel, cell_in, off, entry_count, exact_by, ahead}
use Rattle.vdb_file.proofs.Fronts.{took_nothing}
use Rattle.vdb_file.proofs.HeadCodes.{voxel_values}
use Rattle.vdb_file.proofs.LeafReads.{all_read, first_cells, more_cells, none_read, one_put, voxel_read, voxels_fail}
use Rattle.vdb_file.proofs.Standard.{standard_bits, standard_leaf_small}
use Rattle.vdb_file.proofs.loading.leaf.take_each_voxel.Goals as goal

pub loop-init : goal.loop-init
loop-init g c =
    let values = voxel_values g.V.PartialEq.eq g.V.Voxel.bytes_of g.V.Voxel.is_value g.V.Voxel.KIND (exact_by g.V.PartialEq.eq g.V.Ord.cmp g.met.V.Ord.matches_eq g.met.V.Voxel.exact) g.met.V.Eq.laws.refl g.met.V.Voxel.bytes_known g.met.V.Voxel.bytes_exact in
    record {
      ends = c.requires.ends;
      total = λ n h. h;
      given = λ n m h. h;
      failed = refl;
      cells = first_cells values vdb standard_bits c.args.background c.args.leaf.now c.requires.value (entry_count 3) refl c.requires.empty;
      each = λ p. none_read values vdb standard_bits c.args.background p c.args.leaf.now (ahead c.args.input.now (g.S.Source.state c.args.reader.now)) (ahead c.args.input.now (g.S.Source.state c.args.reader.now)) (took_nothing (ahead c.args.input.now (g.S.Source.state c.args.reader.now))) (entry_count 3) refl c.requires.empty;
    }

pub returns-in_err-voxel-clause-reads : goal.returns-in_err-voxel-clause-reads
returns-in_err-voxel-clause-reads g c p =
    let values = voxel_values g.V.PartialEq.eq g.V.Voxel.bytes_of g.V.Voxel.is_value g.V.Voxel.KIND (exact_by g.V.PartialEq.eq g.V.Ord.cmp g.met.V.Ord.matches_eq g.met.V.Voxel.exact) g.met.V.Eq.laws.refl g.met.V.Voxel.bytes_known g.met.V.Voxel.bytes_exact in
    let e = err_from_is_err_and c.from_residual.result c.from_residual.ensures.1 in
    rw (e.1, e.2) (voxels_fail values vdb standard_bits c.args.background p (cell_in (off c.args.background) c.loop.leaf) c.requires.value c.loop.invariant.cells
    (ahead c.args.input.now (g.S.Source.state c.args.reader.now)) (ahead c.loop.input (g.S.Source.state c.loop.reader)) c.loop.counter c.args.count c.loop.before (c.loop.invariant.each p)
    c.in_err-voxel.field-0.0 c.loop-test.true 512 refl c.in_err-voxel.ensures.reads)

pub set-requires : goal.set-requires
set-requires g c =
    let small = g.met.V.Stored.row_small in
    let less = c.in_ok-voxel.ensures.reads.0.index.within in
    let same = c.from.ensures in
    (standard_leaf_small _ _ _ small.1 small.1 small.0, omega (arith, less, same))

pub loop-preserved : goal.loop-preserved
loop-preserved g c =
    let values = voxel_values g.V.PartialEq.eq g.V.Voxel.bytes_of g.V.Voxel.is_value g.V.Voxel.KIND (exact_by g.V.PartialEq.eq g.V.Ord.cmp g.met.V.Ord.matches_eq g.met.V.Voxel.exact) g.met.V.Eq.laws.refl g.met.V.Voxel.bytes_known g.met.V.Voxel.bytes_exact in
    let i = c.in_ok-voxel.voxel.0 in
    let cell = c.in_ok-voxel.voxel.1 in
    let is = c.in_ok-voxel.ensures.reads.0 in
    let within = is.index.within in
    let less : i < entries vdb Leaf = within in
    let sets : SetsVoxel c.loop.leaf c.set.new.self i cell = subst (λ (k : ℕ). SetsVoxel c.loop.leaf c.set.new.self k cell) c.from.ensures c.set.ensures in
    let put = one_put values vdb standard_bits c.args.background sets in
    record {
      ends = c.in_ok-voxel.ensures.moves.ends;
      total = λ n h. c.in_ok-voxel.ensures.moves.total n (c.loop.invariant.total n h);
      given = λ n m h. c.in_ok-voxel.ensures.moves.given n m (c.loop.invariant.given n m h);
      failed = search rules;
      cells = more_cells values vdb standard_bits c.args.background (cell_in (off c.args.background) c.loop.leaf) (cell_in (off c.args.background) c.set.new.self) i cell put is.cell.value c.loop.invariant.cells;
      each = λ p. voxel_read values vdb standard_bits c.args.background p (cell_in (off c.args.background) c.loop.leaf) (cell_in (off c.args.background) c.set.new.self) i cell put less is.cell.other
          (ahead c.args.input.now (g.S.Source.state c.args.reader.now)) (ahead c.loop.input (g.S.Source.state c.loop.reader)) (ahead c.take_voxel.new.input (g.S.Source.state c.take_voxel.new.reader))
          c.loop.counter c.loop.before (c.loop.invariant.each p) is.index.later c.in_ok-voxel.ensures.reads.1;
    }

pub returns-clause-reads : goal.returns-clause-reads
returns-clause-reads g c p =
    let values = voxel_values g.V.PartialEq.eq g.V.Voxel.bytes_of g.V.Voxel.is_value g.V.Voxel.KIND (exact_by g.V.PartialEq.eq g.V.Ord.cmp g.met.V.Ord.matches_eq g.met.V.Voxel.exact) g.met.V.Eq.laws.refl g.met.V.Voxel.bytes_known g.met.V.Voxel.bytes_exact in
    let last = c.loop.auto.counter-end in
    let past = c.loop-test.false in
    all_read values vdb standard_bits c.args.background p (cell_in (off c.args.background) c.loop.leaf) c.requires.value c.loop.invariant.cells
    (ahead c.args.input.now (g.S.Source.state c.args.reader.now)) (ahead c.loop.input (g.S.Source.state c.loop.reader)) c.loop.counter c.args.count c.loop.before (c.loop.invariant.each p) (omega (arith, last, past))
