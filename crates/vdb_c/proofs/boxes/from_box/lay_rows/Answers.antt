use Rattle.vdb_c.proofs.Common.{◌≡◌, ◌+◌, ◌*◌, ◌<◌, ℕ, arith, subst}
use Rattle.vdb_c.specs.FromBox.{cell_at, cells_of}
use Rattle.vdb_c.proofs.GivenLeaves.{HaveCells, have_next, have_none, row_apart, row_below}
use Rattle.vdb_c.proofs.boxes.from_box.lay_rows.Goals as goal

pub rows-init : goal.rows-init
rows-init g c = λ d.
    have_none (λ (k : ℕ). k < c.args.count) (λ y k. c.args.offset + 8 * y + k) (λ y k. cell_at g.V.PartialEq.eq g.T.Given.value c.args.background c.args.values.now (c.args.first + y * c.args.step + k * c.args.stride)) (cells_of c.args.background c.args.blank c.args.leaf.now d)

pub rows-preserved : goal.rows-preserved
rows-preserved g c = λ d.
    let o = c.args.offset in
    let n = c.args.count in
    have_next (λ (k : ℕ). k < n) (λ y k. o + 8 * y + k) (λ y k. cell_at g.V.PartialEq.eq g.T.Given.value c.args.background c.args.values.now (c.args.first + y * c.args.step + k * c.args.stride)) c.rows.y
    (cells_of c.args.background c.args.blank c.args.leaf.now d) (cells_of c.args.background c.rows.blank c.rows.leaf d) (cells_of c.args.background c.lay_row-blank.result c.lay_row-blank.new.leaf d)
    (c.rows.invariant d) (c.lay_row-blank.ensures d) (λ y k less h. row_below o y k n c.requires.in_row (c.requires.within y (let l = c.rows-test.true in omega (arith, less, l))) h) (λ y i j less h k. row_apart o c.rows.y y i j n less h k c.requires.in_row)

pub returns : goal.returns
returns g c = λ d.
    let end : c.rows.y ≡ c.args.rows = omega (arith, c.rows-test.false, c.rows.auto.y-end) in
    subst
    (λ (m : ℕ). HaveCells (λ (k : ℕ). k < c.args.count) (λ y k. c.args.offset + 8 * y + k) (λ y k. cell_at g.V.PartialEq.eq g.T.Given.value c.args.background c.args.values.now (c.args.first + y * c.args.step + k * c.args.stride)) m
    (cells_of c.args.background c.args.blank c.args.leaf.now d) (cells_of c.args.background c.rows.blank c.rows.leaf d))
    end (c.rows.invariant d)
