-- The neighbours of the corners at the face are the corners of the box behind it.
use Rattle.std.proofs.Common.{◌∙◌, sym}
use Rattle.vdb_morph.proofs.Layers.{no_greatest, no_least, slab_none, slab_some}
use Rattle.vdb_morph.proofs.faces.behind.Goals as goal

pub returns-in_err-min-clause-nowhere : goal.returns-in_err-min-clause-nowhere
returns-in_err-min-clause-nowhere c = λ _.
    no_least c.args.bounds c.layer.ensures.bounds c.args.face c.layer.result.0 c.layer.ensures.min (sym c.neighbour.ensures ∙ c.in_err-min.was)

pub returns-in_err-max-clause-nowhere : goal.returns-in_err-max-clause-nowhere
returns-in_err-max-clause-nowhere c = λ _.
    no_greatest c.args.bounds c.layer.ensures.bounds c.args.face c.layer.result.1 c.layer.ensures.max (sym c.neighbour-2.ensures ∙ c.in_err-max.was)

pub returns-clause-there : goal.returns-clause-there
returns-clause-there c =
    slab_some c.args.bounds c.layer.ensures.bounds c.args.face c.layer.result.0 c.layer.result.1 c.in_ok-min.min c.in_ok-max.max c.layer.ensures.min c.layer.ensures.max
    (sym c.neighbour.ensures ∙ c.in_ok-min.was) (sym c.neighbour-2.ensures ∙ c.in_ok-max.was) c.new.result c.new.ensures

pub returns-clause-nowhere : goal.returns-clause-nowhere
returns-clause-nowhere c = λ none q _.
    slab_none c.args.bounds c.layer.ensures.bounds c.args.face c.layer.result.0 c.layer.result.1 c.in_ok-min.min c.in_ok-max.max c.layer.ensures.min c.layer.ensures.max
    (sym c.neighbour.ensures ∙ c.in_ok-min.was) (sym c.neighbour-2.ensures ∙ c.in_ok-max.was) c.new.result c.new.ensures none q
