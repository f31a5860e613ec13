use Rattle.std.proofs.Common.{◌∙◌, sym}
use Rattle.vdb_coord.proofs.Boxes.{box_of_some}
use Rattle.vdb_tree.proofs.queries.pieces.single.Goals as goal

pub returns : goal.returns
returns c = (box_of_some c.args.p c.args.p _ (sym c.new.ensures ∙ c.in-Some.is)).1
