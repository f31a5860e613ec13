use Rattle.vdb_tree.proofs.Common.{◌≡◌, refl, subst, sym, ruled, Layout, bits_of, field_of}
use Rattle.vdb_tree.proofs.KeysPast.{fewer_past}
use Rattle.vdb_tree.proofs.Ruled.{next_at_first, roots_end, roots_next, roots_none}
use Rattle.vdb_tree.proofs.tree.TreeOf.set_refined_states.Goals as goal

pub loop-key-init : goal.loop-key-init
loop-key-init g c = roots_none (bits_of g.row.U g.row.L g.row.F) c.args.rule c.args.other.now c.args.self.now c.requires

pub loop-key-smaller : goal.loop-key-smaller
loop-key-smaller g c =
    fewer_past c.args.self.now.root c.loop-key.passed c.in-Some.key
    (next_at_first (bits_of g.row.U g.row.L g.row.F) c.args.rule c.args.other.now c.args.self.now c.loop-key.self c.loop-key.passed c.in-Some.key c.loop-key.invariant c.in-Some.ensures.next)

pub loop-key-preserved : goal.loop-key-preserved
loop-key-preserved g c =
    roots_next (bits_of g.row.U g.row.L g.row.F) c.args.rule c.args.other.now c.args.self.now c.loop-key.self c.set_next_root.new.self c.loop-key.passed c.in-Some.key c.requires c.loop-key.invariant c.in-Some.ensures.next c.in-Some.ensures.sets

pub returns-clause-field : goal.returns-clause-field
returns-clause-field g c =
    let bits = bits_of g.row.U g.row.L g.row.F in
    subst (λ (t : Layout g.row.V.Denot). field_of bits t ≡ ruled c.args.rule (field_of bits c.args.self.now) (field_of bits c.args.other.now)) (sym (c.in_default.ensures.none refl))
    (roots_end bits c.args.rule c.args.other.now c.args.self.now c.loop-key.self c.loop-key.passed c.requires c.loop-key.invariant c.in_default.ensures.next)

pub returns-clause-limit : goal.returns-clause-limit
returns-clause-limit g c =
    subst (λ (t : Layout g.row.V.Denot). t.limit ≡ c.args.self.now.limit) (sym (c.in_default.ensures.none refl)) c.loop-key.invariant.sets.head.limit
