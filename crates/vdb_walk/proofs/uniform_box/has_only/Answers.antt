use Rattle.vdb_walk.proofs.Common.{ap, sym, ◌∙◌, Field, off, bits_of, field_of, cell_exact, exact_by}
use Rattle.vdb_walk.proofs.PartCells.{background_uniform, exact_test, rooted_uniform}
use Rattle.vdb_walk.proofs.uniform_box.has_only.Goals as goal

pub returns-then-eq : goal.returns-then-eq
returns-then-eq g c =
    let exact = exact_by g.V.PartialEq.eq g.V.Ord.cmp g.met.V.Ord.matches_eq g.met.V.Voxel.exact in
    let bits = bits_of g.row.U g.row.L g.row.F in
    let t = c.args.tree.now in
    let f : Field g.row.V.Denot = field_of (bits_of g.row.U g.row.L g.row.F) c.args.tree.now in
    let is = cell_exact g.V.PartialEq.eq exact g.met.V.Eq.laws.refl c.args.cell _ (sym c.eq.ensures ∙ c.if-eq.true) ∙ ap (λ (v : g.row.V.Denot). off v) c.background.ensures in
    exact_test g.V.PartialEq.eq exact g.met.V.Eq.laws.refl bits t c.args.bounds c.args.cell f c.parts_are.result
    (λ h. background_uniform g.V.PartialEq.eq exact g.met.V.Eq.laws.refl bits t c.args.bounds c.args.cell is (c.parts_are.ensures.same h)) c.parts_are.ensures.differs

pub returns-then-not-roots_have : goal.returns-then-not-roots_have
returns-then-not-roots_have g c = sym (c.roots_have.ensures.differs c.if-not-roots_have.true)

pub returns : goal.returns
returns g c =
    let exact = exact_by g.V.PartialEq.eq g.V.Ord.cmp g.met.V.Ord.matches_eq g.met.V.Voxel.exact in
    let bits = bits_of g.row.U g.row.L g.row.F in
    let t = c.args.tree.now in
    let f : Field g.row.V.Denot = field_of (bits_of g.row.U g.row.L g.row.F) c.args.tree.now in
    exact_test g.V.PartialEq.eq exact g.met.V.Eq.laws.refl bits t c.args.bounds c.args.cell f c.parts_are-2.result
    (λ h. rooted_uniform g.V.PartialEq.eq exact g.met.V.Eq.laws.refl bits t c.args.bounds c.args.cell (c.roots_have.ensures.same c.if-not-roots_have.false) (c.parts_are-2.ensures.same h)) c.parts_are-2.ensures.differs
