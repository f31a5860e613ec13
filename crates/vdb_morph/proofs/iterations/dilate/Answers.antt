use Rattle.vdb_morph.proofs.Common.{vdb, field_of}
use Rattle.vdb_morph.proofs.IterationLaws.{dilated_outcome}
use Rattle.vdb_morph.proofs.iterations.dilate.Goals as goal

pub returns-in-Some-clause-outcome : goal.returns-in-Some-clause-outcome
returns-in-Some-clause-outcome g c =
    dilated_outcome g.V.PartialEq.eq vdb c.args.tree.now.limit c.args.iterations c.requires.some (field_of vdb c.args.tree.now) (field_of vdb c.unite.new.tree) (field_of vdb c.in-Some.states) (c.in-Some.ensures c.requires.some) c.unite.result c.unite.ensures.outcome
