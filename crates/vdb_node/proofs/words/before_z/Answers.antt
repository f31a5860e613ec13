use Rattle.vdb_node.proofs.ShiftedWords.{before_z_is}
use Rattle.vdb_node.proofs.words.before_z.Goals as goal

pub returns : goal.returns
returns c = λ j h. before_z_is c.args.own c.args.other j h
