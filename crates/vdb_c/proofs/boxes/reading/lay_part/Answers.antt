use Rattle.std.proofs.Common.{rules}
use Rattle.vdb_c.proofs.Common.{subst, sym, is_inside, cell_in, vdb, content_cell, IsLaid}
use Rattle.vdb_c.proofs.Laid.{laid_empty}
use Rattle.vdb_c.proofs.boxes.reading.lay_part.Goals as goal

pub returns-then-out-eq0 : goal.returns-then-out-eq0
returns-then-out-eq0 g c = λ d. laid_empty _ _ _ _ _ (search rules)

pub returns-in-Leaf : goal.returns-in-Leaf
returns-in-Leaf g c = λ d.
    subst (λ content. IsLaid c.args.bounds c.args.strides.now (is_inside c.args.part) (λ p. g.S.Shown.of (content_cell vdb (λ leaf. cell_in d leaf.now) content p)) c.args.out.now c.lay_rows.new.out) (sym c.in-Leaf.is)
    (c.lay_rows.ensures d)

pub returns-in-Leaf-2 : goal.returns-in-Leaf-2
returns-in-Leaf-2 g c = λ d.
    subst (λ content. IsLaid c.args.bounds c.args.strides.now (is_inside c.args.part) (λ p. g.S.Shown.of (content_cell vdb (λ leaf. cell_in d leaf.now) content p)) c.args.out.now c.lay_leaf.new.out) (sym c.in-Leaf-2.is)
    (c.lay_leaf.ensures d)

pub returns-in-Tile : goal.returns-in-Tile
returns-in-Tile g c = λ d.
    subst (λ content. IsLaid c.args.bounds c.args.strides.now (is_inside c.args.part) (λ p. g.S.Shown.of (content_cell vdb (λ leaf. cell_in d leaf.now) content p)) c.args.out.now c.lay_tile.new.out) (sym c.in-Tile.is)
    c.lay_tile.ensures
