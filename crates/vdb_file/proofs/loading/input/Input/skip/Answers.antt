use Rattle.vdb_file.proofs.Common.{◌≡◌, ◌-◌, ◌∙◌, ap, arith, drop, length, length-take, take, Stock}
use Rattle.vdb_file.proofs.FieldBytes.{later_part}
use Rattle.vdb_file.proofs.loading.input.Input.skip.Goals as goal

pub returns-clause-unread : goal.returns-clause-unread
returns-clause-unread c =
    let s = c.self.inside in
    let few = c.requires.within in
    let long : length (take (s.end - s.start) (drop s.start s.page)) ≡ length c.args.self.now.unread = ap (λ (s : Stock). length s.unread) c.self.view_is in
    let most = length-take (s.end - s.start) (drop s.start s.page) in
    later_part s.page s.start s.end c.args.count (omega (arith, few, long, most, c.self.invariant.0)) ∙ ap (λ (s : Stock). drop c.args.count s.unread) c.self.view_is
