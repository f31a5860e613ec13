use Rattle.std.proofs.Common.{◌∙◌, SFits, w32, rules}
use Rattle.vdb_c.proofs.Places.{passed_gap}
use Rattle.vdb_c.proofs.boxes.elements.gap.Goals as goal

pub returns-clause-value : goal.returns-clause-value
returns-clause-value c =
    let from : SFits w32 c.args.from = search rules in
    let to : SFits w32 c.args.to = search rules in
    c.abs_diff.ensures ∙ passed_gap c.args.from c.args.to from to c.requires
