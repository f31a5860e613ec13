use Rattle.vdb_tree.proofs.Common.{◌≡◌, ◌∙◌, ap, refl, sym, None, Some, key, bits_of, root_at}
use Rattle.vdb_tree.proofs.KeysMet.{met_first, met_past_first_entry}
use Rattle.vdb_tree.proofs.tree.TreeOf.first_entry_in.Goals as goal

pub returns-in-Some : goal.returns-in-Some
returns-in-Some g c =
    let bits = bits_of g.row.U g.row.L g.row.F in
    let root = c.args.self.now.root in
    let first : c.key-first.result ≡ key bits c.args.bounds.min = c.key-first.ensures.value ∙ ap (key bits) c.min.ensures.corner in
    let at : root_at root c.key-first.result ≡ Some c.in-Some.entry = rw (← c.self.view_is) (sym c.get.ensures ∙ c.in-Some.is) in
    rw first (met_first bits c.args.bounds root (rw (rw first at at) refl), rw first at at)

pub returns : goal.returns
returns g c =
    let bits = bits_of g.row.U g.row.L g.row.F in
    let root = c.args.self.now.root in
    let first : c.key-first.result ≡ key bits c.args.bounds.min = c.key-first.ensures.value ∙ ap (key bits) c.min.ensures.corner in
    let none : root_at root c.key-first.result ≡ None = rw (← c.self.view_is) (sym c.get.ensures ∙ c.in_default.is) in
    met_past_first_entry bits c.args.bounds root (rw first at none) c.entry_met.result (rw first at c.entry_met.ensures)
