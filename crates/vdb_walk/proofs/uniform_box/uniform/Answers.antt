use Rattle.vdb_walk.proofs.Common.{◌∙◌, ap, sym, Field, bits_of, field_of, is_uniform}
use Rattle.vdb_walk.proofs.uniform_box.uniform.Goals as goal

pub returns-then-has_only-clause-some : goal.returns-then-has_only-clause-some
returns-then-has_only-clause-some g c = sym c.has_only.ensures ∙ c.if-has_only.true

pub returns-else-has_only-clause-none : goal.returns-else-has_only-clause-none
returns-else-has_only-clause-none g c = λ _.
    let f : Field g.row.V.Denot = field_of (bits_of g.row.U g.row.L g.row.F) c.args.tree.now in
    ap (is_uniform g.V.PartialEq.eq f c.args.bounds) (sym (c.get-cell.ensures.cell ∙ ap f.cell c.min.ensures.corner)) ∙ sym c.has_only.ensures ∙ c.if-has_only.false
