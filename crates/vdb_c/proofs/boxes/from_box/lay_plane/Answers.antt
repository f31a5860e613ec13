use Rattle.vdb_c.proofs.boxes.from_box.lay_plane.Goals as goal

pub returns-then-strides-eq1 : goal.returns-then-strides-eq1
returns-then-strides-eq1 g c = λ d. rw (c.if-count-eq8.true, c.if-strides-eq1.true) (c.lay_rows.ensures d)

pub returns-then-count-eq8-2 : goal.returns-then-count-eq8-2
returns-then-count-eq8-2 g c = λ d. rw c.if-count-eq8-2.true (c.lay_rows-then-count-eq8-2.ensures d)
