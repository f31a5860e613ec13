use Rattle.std.proofs.Common.{arith}
use Rattle.vdb_mask.proofs.RowBits.{is_on-set_here, is_on-set_other}
use Rattle.vdb_mask.proofs.Mask.set_word.Goals as goal

pub returns-clause-here : goal.returns-clause-here
returns-clause-here g c = is_on-set_here c.self.inside.words c.args.k c.args.word (omega (arith, c.self.told, c.requires))

pub returns-clause-others : goal.returns-clause-others
returns-clause-others g c = rw (← c.self.view_is) (is_on-set_other c.self.inside.words c.args.k c.args.word)
