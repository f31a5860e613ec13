use Rattle.vdb_c.proofs.boxes.copies.copy_plane.Goals as goal

pub returns-then-count-eq8 : goal.returns-then-count-eq8
returns-then-count-eq8 g c = rw (c.if-strides-eq1.true, c.if-steps-eq0.true, c.if-count-eq8.true) c.copy_lines.ensures

pub returns-then-steps-eq0-2 : goal.returns-then-steps-eq0-2
returns-then-steps-eq0-2 g c = rw (c.if-strides-eq1-2.true, c.if-steps-eq0-2.true) c.copy_lines-then-steps-eq0-2.ensures

pub returns-then-count-eq8-2 : goal.returns-then-count-eq8-2
returns-then-count-eq8-2 g c = rw (c.if-strides-eq1-3.true, c.if-steps-eq64.true, c.if-count-eq8-2.true) c.copy_lines-then-count-eq8-2.ensures
