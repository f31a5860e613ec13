use Rattle.vdb_walk.proofs.Common.{refl, sym, ◌∙◌, Field, bits_of, field_of, exact_by, uniform_cells}
use Rattle.vdb_walk.proofs.PartCells.{gone_end, gone_next, gone_start, part_differs, part_within}
use Rattle.vdb_walk.proofs.uniform_box.rest_is.Goals as goal

pub parts-init : goal.parts-init
parts-init g c =
    let bits = bits_of g.row.U g.row.L g.row.F in
    let t = c.args.tree.now in
    record {
      walk = c.requires.walk;
      gone = gone_start bits t c.args.walk.now.box c.args.cell c.args.walk.now.skip c.args.walk.now refl refl c.requires.at;
    }

pub returns-then-not-part_is-clause-differs : goal.returns-then-not-part_is-clause-differs
returns-then-not-part_is-clause-differs g c = λ _.
    let exact = exact_by g.V.PartialEq.eq g.V.Ord.cmp g.met.V.Ord.matches_eq g.met.V.Voxel.exact in
    let bits = bits_of g.row.U g.row.L g.row.F in
    let t = c.args.tree.now in
    let f : Field g.row.V.Denot = field_of (bits_of g.row.U g.row.L g.row.F) c.args.tree.now in
    part_differs g.V.PartialEq.eq exact g.met.V.Eq.laws.refl f c.args.walk.now.box c.args.cell c.in-Some.part.bounds
    (part_within bits t c.args.walk.now.box c.args.cell c.args.walk.now.skip c.parts.walk c.next_part.new.walk c.parts.invariant.gone c.in-Some.part.bounds c.in-Some.ensures.part)
    c.part_is.result c.part_is.ensures c.if-not-part_is.true

pub parts-preserved : goal.parts-preserved
parts-preserved g c =
    let exact = exact_by g.V.PartialEq.eq g.V.Ord.cmp g.met.V.Ord.matches_eq g.met.V.Voxel.exact in
    let bits = bits_of g.row.U g.row.L g.row.F in
    let t = c.args.tree.now in
    let f : Field g.row.V.Denot = field_of (bits_of g.row.U g.row.L g.row.F) c.args.tree.now in
    record {
      walk = c.in-Some.ensures.walk;
      gone =
          gone_next bits t c.args.walk.now.box c.args.cell c.args.walk.now.skip c.parts.walk c.next_part.new.walk c.parts.invariant.gone c.in-Some.part.bounds c.in-Some.ensures.part
          (uniform_cells g.V.PartialEq.eq exact g.met.V.Eq.laws.refl f c.in-Some.part.bounds c.args.cell (sym c.part_is.ensures ∙ c.if-not-part_is.false));
    }

pub returns-clause-same : goal.returns-clause-same
returns-clause-same g c = λ _.
    let bits = bits_of g.row.U g.row.L g.row.F in
    let t = c.args.tree.now in
    gone_end bits t c.args.walk.now.box c.args.cell c.args.walk.now.skip c.parts.walk c.next_part.new.walk c.parts.invariant.gone c.in_default.ensures.end c.in_default.ensures.none_left
