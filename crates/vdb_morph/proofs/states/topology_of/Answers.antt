-- The states join an empty tree.
use Rattle.vdb_morph.proofs.Common.{◌∙◌, Bool, ap, vdb, Field, unite, field_of}
use Rattle.vdb_morph.proofs.Marks.{united_new}
use Rattle.vdb_morph.proofs.states.topology_of.Goals as goal

pub returns : goal.returns
returns g c =
    let f = field_of vdb c.args.tree.now in
    c.in_ok-combine_states.ensures.outcome.0 ∙ ap (λ (h : Field Bool). unite h f) c.new-copy.ensures.field ∙ united_new f
