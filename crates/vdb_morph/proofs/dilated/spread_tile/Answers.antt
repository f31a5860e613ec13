use Rattle.vdb_morph.proofs.Common.{Bool, ◌&&◌, ◌∙◌, ap, sym, vdb, is_inside, cell_at, field_of}
use Rattle.vdb_morph.proofs.Spreading.{spread_alike, spread_none}
use Rattle.vdb_morph.proofs.dilated.spread_tile.Goals as goal

pub returns-then-on : goal.returns-then-on
returns-then-on c = λ ok.
    c.spread_voxels.ensures ok
    ∙ spread_alike (is_inside c.args.bounds) (λ q. c.args.on && is_inside c.args.bounds q) (field_of vdb c.args.states.now) (λ p inside. sym (ap (λ (b : Bool). b && is_inside c.args.bounds p) c.if-on.true))

pub returns-else-on : goal.returns-else-on
returns-else-on c = λ ok.
    spread_none (λ q. c.args.on && is_inside c.args.bounds q) c.args.states.now.background (cell_at vdb c.args.states.now) (λ p inside. ap (λ (b : Bool). b && is_inside c.args.bounds p) c.if-on.false)
