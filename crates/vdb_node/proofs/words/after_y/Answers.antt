use Rattle.vdb_node.proofs.ShiftedWords.{after_y_is}
use Rattle.vdb_node.proofs.words.after_y.Goals as goal

pub returns : goal.returns
returns c = λ j h. after_y_is c.args.own c.args.other j c.ranges.own.fits h
