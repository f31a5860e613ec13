use Rattle.vdb_tree.proofs.Common.{◌≡◌, ◌<◌, arith, rules, sym, ◌∙◌, Upper, bits_of, field_of}
use Rattle.vdb_tree.proofs.ActiveBlocks.{active_counted, inactive_counted}
use Rattle.vdb_tree.proofs.tree.TreeOf.has_active.Goals as goal

pub returns-clause-found : goal.returns-clause-found
returns-clause-found g c = λ h.
    let bits = bits_of g.row.U g.row.L g.row.F in
    let some : 0 < c.active_in_upper.result = search rules in
    let most = c.active_in_upper.ensures.value.0 in
    active_counted bits (field_of bits c.args.self.now) Upper c.args.p (omega (arith, some, most))

pub returns-clause-none : goal.returns-clause-none
returns-clause-none g c = λ h.
    let bits = bits_of g.row.U g.row.L g.row.F in
    let none : c.active_in_upper.result ≡ 0 = search rules in
    inactive_counted bits (field_of bits c.args.self.now) Upper c.args.p (sym (c.active_in_upper.ensures.value.1 (omega (arith, none))) ∙ none)
