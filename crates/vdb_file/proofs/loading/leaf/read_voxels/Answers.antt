use Rattle.vdb_file.proofs.Common.{◌≡◌, ◌≤◌, ◌<◌, ◌∙◌, ℕ, suc, ◌+◌, ◌-◌, ◌*◌, Err, List, Some, [], ap, refl, sym, subst, arith, length, length-drop, length-take, drop, err_from_is_err_and, cell_in, entries, off, vdb, Leaf, SetsVoxel, entry_count, exact_by, byte_count, Took, position}
use Rattle.std.proofs.Math.Nat.{add-mul}
use Rattle.std.specs.List.{slice_range}
use native.Mathlib.Nat.{mul-le-mul_right}
use Rattle.vdb_file.specs.internal.Reading.{passed}
use Rattle.vdb_file.proofs.FieldBytes.{front_read, part_read}
use Rattle.vdb_file.proofs.FullRows.{full_cells, full_read, full_row}
use Rattle.vdb_file.proofs.HeadCodes.{voxel_values}
use Rattle.vdb_file.proofs.LeafReads.{HasRead, all_read, first_cells, more_cells, none_read, one_put, voxel_answer, voxel_read, voxels_fail}
use Rattle.vdb_file.proofs.Standard.{standard_bits}
use Rattle.vdb_file.proofs.loading.leaf.read_voxels.Goals as goal

-- the bytes of some more voxels
reach : (k j m at size : ℕ) → at ≡ k * m → size ≡ j * m → at + size ≡ (k + j) * m
reach k j m at size here more = omega (arith, here, more, add-mul k j m)

fits : (k j n m at all size : ℕ) → k + j ≤ n → at ≡ k * m → all ≡ n * m → size ≡ j * m → at + size ≤ all
fits k j n m at all size less here there more = omega (arith, reach k j m at size here more, mul-le-mul_right m less, there)

sliced : (bytes : List ℕ) (at size : ℕ) → at + size ≤ length bytes → length (slice_range bytes at (at + size)) ≡ size
sliced bytes at size more = length-take (at + size - at) (drop at bytes) ∙ omega (arith, more, length-drop at bytes)

pub rows-init : goal.rows-init
rows-init g c =
    let values = voxel_values g.V.PartialEq.eq g.V.Voxel.bytes_of g.V.Voxel.is_value g.V.Voxel.KIND (exact_by g.V.PartialEq.eq g.V.Ord.cmp g.met.V.Ord.matches_eq g.met.V.Voxel.exact) g.met.V.Eq.laws.refl g.met.V.Voxel.bytes_known g.met.V.Voxel.bytes_exact in
    record {
      few = omega arith;
      reached = omega arith;
      cells = first_cells values vdb standard_bits c.args.background c.args.leaf.now c.requires.value (entry_count 3) refl c.requires.empty;
      each = λ p s known same room. none_read values vdb standard_bits c.args.background p c.args.leaf.now (position s known) (position (passed 0 s) known)
          (front_read s (passed 0 s) known [] 0 refl (omega arith) (omega arith) refl refl) (entry_count 3) refl c.requires.empty;
    }

pub rows-preserved : goal.rows-preserved
rows-preserved g c =
    let values = voxel_values g.V.PartialEq.eq g.V.Voxel.bytes_of g.V.Voxel.is_value g.V.Voxel.KIND (exact_by g.V.PartialEq.eq g.V.Ord.cmp g.met.V.Ord.matches_eq g.met.V.Voxel.exact) g.met.V.Eq.laws.refl g.met.V.Voxel.bytes_known g.met.V.Voxel.bytes_exact in
    let background = c.args.background in
    let at = c.rows.at in
    let m = 3 + byte_count g.V.Voxel.KIND in
    let one = c.voxels_len-size.ensures in
    let row = c.in-Some.row.1 in
    let first = c.in-Some.row.0 in
    let is = c.in-Some.ensures.first.0 in
    let here = c.rows.invariant.reached in
    let size : 8 * c.voxels_len-size.result ≡ 8 * m = omega (arith, one) in
    let more : c.rows.n + 8 ≤ c.args.count = let left = c.in-Some.ensures.few in let most = c.rows.invariant.few in omega (arith, left, most) in
    let from : c.from.result ≡ first = c.from.ensures in
    let sets = c.set_cells.ensures in
    let long = c.in-Some.ensures.length in
    let has = full_row background c.rows.leaf c.set_cells.new.self c.from.result first 8 row c.filled.result from long (λ i less. c.filled.ensures.within i (omega (arith, less))) sets.cells sets.before sets.after in
    record {
      few = more;
      reached = reach c.rows.n 8 m at (8 * c.voxels_len-size.result) here size;
      cells = full_cells values vdb standard_bits background c.rows.leaf c.set_cells.new.self first 8 row has m c.args.bytes.now at (λ k less. c.in-Some.ensures.voxels k background less) c.rows.invariant.cells;
      each = λ p s known same room.
          let within = is.within in
          let last = c.in-Some.ensures.first.1 in
          let past : 8 * m ≡ 8 * c.voxels_len-size.result = sym size in
          subst (λ (l : ℕ). HasRead g.V.PartialEq.eq g.V.Voxel.bytes_of vdb background p (cell_in (off background) c.set_cells.new.self) (position s known) (position (passed (at + l) s) known) (c.rows.n + 8) (Some (first + 7))) past
          (full_read values vdb standard_bits background c.rows.leaf c.set_cells.new.self first 8 row has m c.args.bytes.now at (λ k less. c.in-Some.ensures.voxels k background less) p s known same room
          (fits c.rows.n 8 c.args.count m at (length c.args.bytes.now) (8 * m) more here c.requires.length refl) (omega (arith, within, last)) 7 refl c.rows.n c.rows.before is.later (c.rows.invariant.each p s known same room));
    }

pub returns-in_err-voxel-clause-reads : goal.returns-in_err-voxel-clause-reads
returns-in_err-voxel-clause-reads g c p s known same room =
    let values = voxel_values g.V.PartialEq.eq g.V.Voxel.bytes_of g.V.Voxel.is_value g.V.Voxel.KIND (exact_by g.V.PartialEq.eq g.V.Ord.cmp g.met.V.Ord.matches_eq g.met.V.Voxel.exact) g.met.V.Eq.laws.refl g.met.V.Voxel.bytes_known g.met.V.Voxel.bytes_exact in
    let at = c.voxels.at in
    let size = c.voxels_len-size.result in
    let one = c.voxels_len-size.ensures in
    let next : c.voxels.n + 1 ≤ c.args.count = let test = c.voxels-test.true in omega (arith, test) in
    let more = fits c.voxels.n 1 c.args.count (3 + byte_count g.V.Voxel.KIND) at (length c.args.bytes.now) size next c.voxels.invariant.reached c.requires.length one in
    let long : length (slice_range c.args.bytes.now at (at + size)) ≡ 3 + byte_count g.V.Voxel.KIND = sliced c.args.bytes.now at size more ∙ omega (arith, one) in
    let answer = voxel_answer g.V.PartialEq.eq g.V.Voxel.bytes_of g.V.Voxel.is_value g.V.Voxel.KIND g.met.V.Voxel.bytes_known c.args.background 512 c.voxels.before (position (passed at s) known) (position (passed (at + size) s) known) _ long
    (part_read s known c.args.bytes.now at size same room more) (Err c.in_err-voxel.field-0.0) c.in_err-voxel.ensures.voxel c.in_err-voxel.ensures.bytes c.in_err-voxel.ensures.none in
    let e = err_from_is_err_and c.from_residual.result c.from_residual.ensures.1 in
    rw (e.1, e.2) (voxels_fail values vdb standard_bits c.args.background p (cell_in (off c.args.background) c.voxels.leaf) c.requires.value c.voxels.invariant.cells (position s known) (position (passed at s) known) c.voxels.n c.args.count c.voxels.before
    (c.voxels.invariant.each p s known same room) c.in_err-voxel.field-0.0 c.voxels-test.true 512 refl answer)

pub voxels-preserved : goal.voxels-preserved
voxels-preserved g c =
    let values = voxel_values g.V.PartialEq.eq g.V.Voxel.bytes_of g.V.Voxel.is_value g.V.Voxel.KIND (exact_by g.V.PartialEq.eq g.V.Ord.cmp g.met.V.Ord.matches_eq g.met.V.Voxel.exact) g.met.V.Eq.laws.refl g.met.V.Voxel.bytes_known g.met.V.Voxel.bytes_exact in
    let at = c.voxels.at in
    let size = c.voxels_len-size.result in
    let m = 3 + byte_count g.V.Voxel.KIND in
    let one = c.voxels_len-size.ensures in
    let next : c.voxels.n + 1 ≤ c.args.count = let test = c.voxels-test.true in omega (arith, test) in
    let more = fits c.voxels.n 1 c.args.count m at (length c.args.bytes.now) size next c.voxels.invariant.reached c.requires.length one in
    let i = c.in_ok-voxel.voxel.0 in
    let cell = c.in_ok-voxel.voxel.1 in
    let is = c.in_ok-voxel.ensures.voxel in
    let within = is.index.within in
    let less : i < entries vdb Leaf = within in
    let sets : SetsVoxel c.voxels.leaf c.set.new.self i cell = subst (λ (k : ℕ). SetsVoxel c.voxels.leaf c.set.new.self k cell) c.from-in-voxels.ensures c.set.ensures in
    let put = one_put values vdb standard_bits c.args.background sets in
    record {
      few = next;
      reached = reach c.voxels.n 1 m at size c.voxels.invariant.reached one;
      cells = more_cells values vdb standard_bits c.args.background (cell_in (off c.args.background) c.voxels.leaf) (cell_in (off c.args.background) c.set.new.self) i cell put is.cell.value c.voxels.invariant.cells;
      each = λ p s known same room. voxel_read values vdb standard_bits c.args.background p (cell_in (off c.args.background) c.voxels.leaf) (cell_in (off c.args.background) c.set.new.self) i cell put less is.cell.other
          (position s known) (position (passed at s) known) (position (passed (at + size) s) known) c.voxels.n c.voxels.before (c.voxels.invariant.each p s known same room) is.index.later
          (subst (Took (position (passed at s) known) (position (passed (at + size) s) known)) (sym c.in_ok-voxel.ensures.bytes) (part_read s known c.args.bytes.now at size same room more));
    }

pub returns-clause-reads : goal.returns-clause-reads
returns-clause-reads g c p s known same room =
    let values = voxel_values g.V.PartialEq.eq g.V.Voxel.bytes_of g.V.Voxel.is_value g.V.Voxel.KIND (exact_by g.V.PartialEq.eq g.V.Ord.cmp g.met.V.Ord.matches_eq g.met.V.Voxel.exact) g.met.V.Eq.laws.refl g.met.V.Voxel.bytes_known g.met.V.Voxel.bytes_exact in
    let last = c.voxels.invariant.few in
    let past = c.voxels-test.false in
    let done : c.voxels.n ≡ c.args.count = omega (arith, last, past) in
    let all : c.voxels.at ≡ length c.args.bytes.now = c.voxels.invariant.reached ∙ ap (λ (k : ℕ). k * (3 + byte_count g.V.Voxel.KIND)) done ∙ sym c.requires.length in
    let read = all_read values vdb standard_bits c.args.background p (cell_in (off c.args.background) c.voxels.leaf) c.requires.value c.voxels.invariant.cells (position s known) (position (passed c.voxels.at s) known) c.voxels.n c.args.count c.voxels.before (c.voxels.invariant.each p s known same room) done in
    (read.0, rw all at read.1)
