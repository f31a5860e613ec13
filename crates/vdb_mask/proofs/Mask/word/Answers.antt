use Rattle.vdb_mask.proofs.RowBits.{is_on-at}
use Rattle.vdb_mask.proofs.Mask.word.Goals as goal

pub returns : goal.returns
returns g c = rw (← c.self.view_is) (is_on-at c.self.inside.words c.args.k)
