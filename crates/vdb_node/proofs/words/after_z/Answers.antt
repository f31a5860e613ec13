use Rattle.vdb_node.proofs.ShiftedWords.{after_z_is}
use Rattle.vdb_node.proofs.words.after_z.Goals as goal

pub returns : goal.returns
returns c = λ j h. after_z_is c.args.own c.args.other j h
