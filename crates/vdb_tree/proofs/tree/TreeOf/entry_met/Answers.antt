use Rattle.vdb_tree.proofs.Common.{◌≡◌, ◌∙◌, ap, refl, sym, false, None, Some, numbers_over, is_inside, Upper, bits_of, root_at}
use Rattle.vdb_tree.specs.Table.{IsNextEntry}
use Rattle.vdb_tree.proofs.KeysPast.{fewer_leap}
use Rattle.vdb_tree.proofs.KeySkips.{met_end, met_found, met_last, met_on, met_over, met_start, met_there}
use Rattle.vdb_tree.proofs.tree.TreeOf.entry_met.Goals as goal

pub loop-key-init : goal.loop-key-init
loop-key-init g c = met_start (bits_of g.row.U g.row.L g.row.F) c.args.bounds c.args.self.now.root c.args.after

pub returns-then-eq : goal.returns-then-eq
returns-then-eq g c =
    let bits = bits_of g.row.U g.row.L g.row.F in
    let keys : c.block_numbers_in-keys.result ≡ numbers_over bits Upper c.args.bounds = c.block_numbers_in-keys.ensures.numbers ∙ ap (λ b. numbers_over b Upper c.args.bounds) c.bits.ensures.value in
    let last = c.max.ensures.corner ∙ ap (λ b. b.max) keys in
    met_last bits c.args.bounds c.args.self.now.root c.args.after (rw last at (sym c.eq.ensures ∙ c.if-eq.true))

pub returns-then-contains : goal.returns-then-contains
returns-then-contains g c =
    let root = c.args.self.now.root in
    let least : IsNextEntry c.args.self.now.root (Some c.loop-key.passed) (Some (c.in-Some.key, c.in-Some.entry)) = rw (← c.self.view_is) c.in-Some.ensures in
    (met_found (bits_of g.row.U g.row.L g.row.F) c.args.bounds root c.args.after c.loop-key.passed c.loop-key.invariant c.in-Some.key least.0, least.1)

pub returns : goal.returns
returns g c = met_end (bits_of g.row.U g.row.L g.row.F) c.args.bounds c.args.self.now.root c.args.after c.loop-key.passed c.loop-key.invariant (rw (← c.self.view_is) c.in_default.ensures)

pub returns-in_default-skip_to : goal.returns-in_default-skip_to
returns-in_default-skip_to g c =
    let bits = bits_of g.row.U g.row.L g.row.F in
    let keys : c.block_numbers_in-keys.result ≡ numbers_over bits Upper c.args.bounds = c.block_numbers_in-keys.ensures.numbers ∙ ap (λ b. numbers_over b Upper c.args.bounds) c.bits.ensures.value in
    let not : is_inside c.block_numbers_in-keys.result c.in-Some.key ≡ false = sym c.contains.ensures ∙ c.if-contains.false in
    let least : IsNextEntry c.args.self.now.root (Some c.loop-key.passed) (Some (c.in-Some.key, c.in-Some.entry)) = rw (← c.self.view_is) c.in-Some.ensures in
    met_over bits c.args.bounds c.args.self.now.root c.args.after c.loop-key.passed c.loop-key.invariant c.in-Some.key least.0 (rw keys at not) (rw keys at c.in_default-skip_to.ensures)

pub returns-in-Some-get : goal.returns-in-Some-get
returns-in-Some-get g c =
    let bits = bits_of g.row.U g.row.L g.row.F in
    let root = c.args.self.now.root in
    let next = c.in-Some-skip_to.next in
    let keys : c.block_numbers_in-keys.result ≡ numbers_over bits Upper c.args.bounds = c.block_numbers_in-keys.ensures.numbers ∙ ap (λ b. numbers_over b Upper c.args.bounds) c.bits.ensures.value in
    let not : is_inside c.block_numbers_in-keys.result c.in-Some.key ≡ false = sym c.contains.ensures ∙ c.if-contains.false in
    let at : root_at root next ≡ Some c.in-Some-get.entry = rw (← c.self.view_is) (sym c.get.ensures ∙ c.in-Some-get.is) in
    let least : IsNextEntry c.args.self.now.root (Some c.loop-key.passed) (Some (c.in-Some.key, c.in-Some.entry)) = rw (← c.self.view_is) c.in-Some.ensures in
    (met_there bits c.args.bounds root c.args.after c.loop-key.passed c.loop-key.invariant c.in-Some.key least.0 (rw keys at not) next (rw keys at c.in-Some-skip_to.ensures) (rw at refl), at)

pub loop-key-smaller : goal.loop-key-smaller
loop-key-smaller g c =
    let least : IsNextEntry c.args.self.now.root (Some c.loop-key.passed) (Some (c.in-Some.key, c.in-Some.entry)) = rw (← c.self.view_is) c.in-Some.ensures in
    fewer_leap c.args.self.now.root (Some c.loop-key.passed) c.in-Some.key c.in-Some-skip_to.next least.0.0 least.0.1 c.in-Some-skip_to.ensures.0

pub loop-key-preserved : goal.loop-key-preserved
loop-key-preserved g c =
    let bits = bits_of g.row.U g.row.L g.row.F in
    let root = c.args.self.now.root in
    let next = c.in-Some-skip_to.next in
    let keys : c.block_numbers_in-keys.result ≡ numbers_over bits Upper c.args.bounds = c.block_numbers_in-keys.ensures.numbers ∙ ap (λ b. numbers_over b Upper c.args.bounds) c.bits.ensures.value in
    let not : is_inside c.block_numbers_in-keys.result c.in-Some.key ≡ false = sym c.contains.ensures ∙ c.if-contains.false in
    let none : root_at root next ≡ None = rw (← c.self.view_is) (sym c.get.ensures ∙ c.in_default-get.is) in
    let least : IsNextEntry c.args.self.now.root (Some c.loop-key.passed) (Some (c.in-Some.key, c.in-Some.entry)) = rw (← c.self.view_is) c.in-Some.ensures in
    met_on bits c.args.bounds root c.args.after c.loop-key.passed c.loop-key.invariant c.in-Some.key least.0 (rw keys at not) next (rw keys at c.in-Some-skip_to.ensures) none
