use Rattle.vdb_composite.proofs.MixLeaves.{bounds_corner}
use Rattle.vdb_composite.proofs.search.tiles_meet.Goals as goal

pub returns-clause-met : goal.returns-clause-met
returns-clause-met g c = λ yes.
    let i = bounds_corner c.args.bounds c.min.ensures.bounds in
    (c.args.bounds.min, i, rw (c.requires.first c.args.bounds.min i, c.requires.second c.args.bounds.min i, ← c.of.ensures) (c.is_met.ensures.met yes))
