use Rattle.vdb_scene.proofs.Common.{◌≡◌, ◌∙◌, sym, rules, extent}
use Rattle.vdb_scene.proofs.Rows.{rows_many}
use Rattle.vdb_scene.proofs.slice.Slice.len.Goals as goal

pub returns-in-Some : goal.returns-in-Some
returns-in-Some c =
    let many : c.numbers.result ≡ extent c.in-Some.y c.args.self.now.max.y = search rules in many ∙ sym (rows_many c.args.self.now c.in-Some.y c.in-Some.is)
