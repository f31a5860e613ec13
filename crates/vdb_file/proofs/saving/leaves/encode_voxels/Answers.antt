use Rattle.vdb_file.proofs.Common.{arith, ◌≡◌, ◌<◌, ◌∙◌, ℕ, ◌+◌, ◌*◌, ◌-◌, ◌^◌, rules, sym, subst, ap, List, Bool, true, false, beq, length, cell_in, Cell, cell_bytes, numbered, passing}
use Rattle.std.specs.Int.{bit_at}
use Rattle.std.specs.Prelude.{slice_index_or}
use Rattle.std.proofs.Common.{◌==◌}
use Rattle.std.proofs.lemmas.Bool.{eqb-true}
use Rattle.std.proofs.lemmas.Nat.Bits.{bit_at_ones}
use Rattle.vdb_file.proofs.LeafVoxels.{AreEncoded, cell_from, none_encoded, one_encoded, one_passed, stands}
use Rattle.vdb_file.proofs.Passing.{passing_few}
use Rattle.vdb_file.proofs.saving.leaves.encode_voxels.Goals as goal
use Rattle.vdb_file.proofs.saving.leaves.encode_voxels.Goals.{then-is_unlike, else-is_unlike}

pub rows-init : goal.rows-init
rows-init g c = none_encoded g.V.PartialEq.eq g.V.Voxel.bytes_of c.args.leaf.now c.args.background 0 (omega arith) c.args.bytes.now c.told-bytes

pub row-init : goal.row-init
row-init g c =
    let e : 64 * c.rows.k + 0 ≡ 64 * c.rows.k = omega arith in
    subst (λ (n : ℕ). AreEncoded g.V.PartialEq.eq g.V.Voxel.bytes_of c.args.leaf.now c.args.background n c.rows.len c.rows.count c.rows.bytes) (sym e) c.rows.invariant

pub overflow_add-count : goal.overflow_add-count
overflow_add-count g c =
    let few = passing_few (stands g.V.PartialEq.eq c.args.leaf.now c.args.background c.args.background) (64 * c.rows.k + c.row.j) in
    let counted = c.row.invariant.count c.args.background in
    let row = c.rows-test.true in
    let less = c.row-test.true in
    let most = c.requires.few in
    omega (arith, few, counted, row, less, most)

pub is_unlike-requires : goal.is_unlike-requires
is_unlike-requires g c told =
    let h = c.row-test.true in
    let whole : c.word-all.result ≡ 2 ^ 64 - 1 = eqb-true c.word-all.result (2 ^ 64 - 1) told in
    let on : slice_index_or c.states-states.result.now (64 * c.rows.k + c.row.j) false ≡ true = c.word-all.ensures c.row.j h ∙ ap (λ (w : ℕ). bit_at w c.row.j == 1) whole ∙ ap (λ (n : ℕ). n == 1) (bit_at_ones 64 c.row.j h) in
    ap (λ (b : Bool). beq b c.args.background.on) (sym c.test.ensures ∙ on) ∙ ap (beq true) c.requires.inactive

pub row-preserved : goal.row-preserved
row-preserved g c =
    let eq = g.V.PartialEq.eq in
    let bytes = g.V.Voxel.bytes_of in
    let leaf = c.args.leaf.now in
    let i = 64 * c.rows.k + c.row.j in
    let next = 64 * c.rows.k + (c.row.j + 1) in
    let step : next ≡ i + 1 = omega arith in
    let h = c.row-test.true in
    let k = c.rows-test.true in
    let most = c.requires.few in
    let less : i < 512 = omega (arith, h, k, most) in
    let read = c.index-values-j.result in
    let value = slice_index_or c.copy_values.new.into c.row.j read in
    let at : (d : Cell g.row.V.Denot) → cell_in d leaf i ≡ record { value = value; on = c.test.result } =
    λ d. cell_from leaf i d value c.test.result (sym (c.copy_values.ensures.values d c.row.j read (first_of (omega (arith, h), search (rules, h)))))
    (ap (λ (m : List Bool). slice_index_or m i false) (sym c.states-states.ensures.same) ∙ c.test.ensures) in
    elim c.if-is_unlike.branch [
      | then-is_unlike w ↦
          let put = w.put_voxel-len in
          rw (w.len-is, w.count-is, w.bytes-is)
          (one_encoded eq bytes leaf c.args.background i next c.row.len c.row.count c.row.bytes step c.row.invariant _ at put.result put.new.bytes less (sym c.is_unlike.ensures ∙ w.if-is_unlike.true) put.ensures.length put.ensures.few put.ensures.bytes)
      | else-is_unlike w ↦
          rw (w.len-is, w.count-is, w.bytes-is) (one_passed eq bytes leaf c.args.background i next c.row.len c.row.count c.row.bytes step c.row.invariant _ at (sym c.is_unlike.ensures ∙ w.if-is_unlike.false))
    ]

pub rows-preserved : goal.rows-preserved
rows-preserved g c =
    let last = c.row.auto.j-end in
    let past = c.row-test.false in
    let e : 64 * c.rows.k + c.row.j ≡ 64 * (c.rows.k + 1) = omega (arith, last, past) in
    subst (λ (n : ℕ). AreEncoded g.V.PartialEq.eq g.V.Voxel.bytes_of c.args.leaf.now c.args.background n c.row.len c.row.count c.row.bytes) e c.row.invariant

pub returns-clause-count : goal.returns-clause-count
returns-clause-count g c d =
    let last = c.rows.auto.k-end in
    let past = c.rows-test.false in
    let whole = c.requires.rows in
    let e : 64 * c.rows.k ≡ c.args.n = omega (arith, last, past, whole) in
    c.rows.invariant.count d ∙ ap (λ (n : ℕ). length (passing (stands g.V.PartialEq.eq c.args.leaf.now d c.args.background) n)) e

pub returns-clause-bytes : goal.returns-clause-bytes
returns-clause-bytes g c d =
    let last = c.rows.auto.k-end in
    let past = c.rows-test.false in
    let whole = c.requires.rows in
    let e : 64 * c.rows.k ≡ c.args.n = omega (arith, last, past, whole) in
    c.rows.invariant.bytes d ∙ ap (λ (n : ℕ). numbered (λ k. cell_bytes g.V.PartialEq.eq g.V.Voxel.bytes_of (cell_in d c.args.leaf.now k)) (passing (stands g.V.PartialEq.eq c.args.leaf.now d c.args.background) n)) e
