use Rattle.vdb_tree.proofs.Common.{◌≤◌, ◌∙◌, ◌<◌, ℕ, arith, refl, Upper, entries_is, bits_of, IsAmong}
use Rattle.vdb_tree.proofs.Passes.{root_entry_same}
use Rattle.vdb_tree.proofs.Ruled.{refined_after, sets_last, sets_none, sets_on}
use Rattle.vdb_tree.proofs.tree.TreeOf.set_upper_states.Goals as goal

least : (n : ℕ) → 0 ≤ n
least n = omega arith

at_most : (a b : ℕ) → a < b → a ≤ b
at_most a b h = omega (arith, h)

pub loop-next-init : goal.loop-next-init
loop-next-init g c =
    record { within = least _; above = refl; node = c.requires.node; refined = c.requires.refined; sets = sets_none (bits_of g.row.U g.row.L g.row.F) c.args.rule c.args.other.now Upper c.args.p c.args.self.now }

pub loop-next-preserved : goal.loop-next-preserved
loop-next-preserved g c =
    let bits = bits_of g.row.U g.row.L g.row.F in
    let mid = c.loop-next.self in
    let new = c.set_next_lower.new.self in
    let made = c.in-Some.ensures in
    record {
      within = made.further.1;
      above = made.root ∙ c.loop-next.invariant.above;
      node = root_entry_same bits mid new made.sets.head made.root c.args.p ∙ c.loop-next.invariant.node;
      refined = refined_after bits c.args.rule c.args.other.now (IsAmong bits Upper c.args.p c.loop-next.from c.in-Some.next) mid new made.sets c.loop-next.invariant.refined;
      sets = sets_on bits c.args.rule c.args.other.now Upper c.args.p c.args.self.now mid new c.loop-next.from c.in-Some.next (at_most _ _ made.further.0) c.loop-next.invariant.sets made.sets;
    }

pub returns-clause-sets : goal.returns-clause-sets
returns-clause-sets g c =
    let bits = bits_of g.row.U g.row.L g.row.F in
    sets_last bits c.args.rule c.args.other.now Upper c.args.p c.args.self.now c.loop-next.self c.set_next_lower.new.self c.loop-next.from
    (rw (entries_is bits Upper) c.loop-next.invariant.within) c.loop-next.invariant.sets c.in_default.ensures.sets

pub returns-clause-root : goal.returns-clause-root
returns-clause-root g c = c.in_default.ensures.root ∙ c.loop-next.invariant.above
