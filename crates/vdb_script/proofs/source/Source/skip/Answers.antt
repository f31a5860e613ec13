use Rattle.vdb_script.proofs.Common.{length, drop, ap, ◌∙◌, arith, Stock}
use Rattle.vdb_script.proofs.Pieces.{behind_first}
use Rattle.vdb_script.proofs.source.Source.skip.Goals as goal

pub returns-clause-unread : goal.returns-clause-unread
returns-clause-unread c =
    let s = c.self.inside in
    let unread = ap (λ (t : Stock). t.unread) c.self.view_is in
    behind_first s.piece s.start c.args.count s.end (omega (arith, ap length unread)) ∙ ap (drop c.args.count) unread
