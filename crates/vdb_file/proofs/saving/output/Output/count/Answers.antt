use Rattle.vdb_file.proofs.Common.{◌≡◌, ap, arith}
use Rattle.vdb_file.specs.internal.Written.{Kept}
use Rattle.vdb_file.proofs.saving.output.Output.count.Goals as goal

pub returns : goal.returns
returns g c before after bytes long =
    let sum = c.saturating_add-self-inside.ensures in
    let kept : c.self.inside.total ≡ c.args.self.now.total = ap (λ (k : Kept). k.total) c.self.view_is in
    rw c.requires (record {
      known = tt;
      total = omega (arith, sum, long, kept);
    })
