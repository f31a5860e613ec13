use Rattle.vdb_node.proofs.ShiftedWords.{before_y_is}
use Rattle.vdb_node.proofs.words.before_y.Goals as goal

pub returns : goal.returns
returns c = λ j h. before_y_is c.args.own c.args.other j c.ranges.other.fits h
