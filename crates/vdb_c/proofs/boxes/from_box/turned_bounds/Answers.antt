use Rattle.vdb_c.proofs.Common.{◌∙◌, ap}
use Rattle.vdb_c.specs.FromBox.{turned}
use Rattle.vdb_c.proofs.GivenFields.{turned_box_of}
use Rattle.vdb_c.proofs.boxes.from_box.turned_bounds.Goals as goal

pub returns-in-Some : goal.returns-in-Some
returns-in-Some c =
    let turn = c.args.turn in
    let e = c.in-Some.ensures
    ∙ turned_box_of turn c.args.bounds c.min.ensures.bounds _ _ (c.turned-min.ensures ∙ ap (turned turn) c.min.ensures.corner) (c.turned-max.ensures ∙ ap (turned turn) c.max.ensures.corner) in
    cc

pub returns-in-None : goal.returns-in-None
returns-in-None c =
    let turn = c.args.turn in
    let e = c.in-None.ensures
    ∙ turned_box_of turn c.args.bounds c.min.ensures.bounds _ _ (c.turned-min.ensures ∙ ap (turned turn) c.min.ensures.corner) (c.turned-max.ensures ∙ ap (turned turn) c.max.ensures.corner) in
    absurd cc
