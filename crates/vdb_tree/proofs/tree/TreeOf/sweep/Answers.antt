use Rattle.vdb_tree.proofs.Common.{refl, subst, sym, Coord, Upper, IsNeededTo, IsNoBackgroundRoot, Keeps, Layout, bits_of}
use Rattle.vdb_tree.proofs.KeysPast.{fewer_past}
use Rattle.vdb_tree.proofs.RootSweeps.{next_as_before, sweep_end, sweep_next, sweep_none}
use Rattle.vdb_tree.proofs.tree.TreeOf.sweep.Goals as goal

pub loop-key-init : goal.loop-key-init
loop-key-init g c = sweep_none _ c.args.self.now

pub loop-key-smaller : goal.loop-key-smaller
loop-key-smaller g c =
    fewer_past c.args.self.now.root c.loop-key.passed c.in-Some.key
    (next_as_before (bits_of g.row.U g.row.L g.row.F) c.args.self.now c.loop-key.self c.loop-key.passed c.in-Some.key c.loop-key.invariant c.in-Some.ensures.next)

pub loop-key-preserved : goal.loop-key-preserved
loop-key-preserved g c =
    sweep_next (bits_of g.row.U g.row.L g.row.F) c.args.self.now c.loop-key.self c.prune_next_root.new.self c.loop-key.passed c.in-Some.key c.loop-key.invariant c.in-Some.ensures.next c.in-Some.ensures.pruned

pub returns-clause-needed : goal.returns-clause-needed
returns-clause-needed g c =
    let bits = bits_of g.row.U g.row.L g.row.F in
    subst (λ (t : Layout g.row.V.Denot). (p : Coord) → IsNeededTo bits Upper t p) (sym (c.in_default.ensures.none refl))
    (λ p. (sweep_end bits c.args.self.now c.loop-key.self c.loop-key.passed c.loop-key.invariant c.in_default.ensures.next p).0)

pub returns-clause-swept : goal.returns-clause-swept
returns-clause-swept g c =
    let bits = bits_of g.row.U g.row.L g.row.F in
    subst (λ (t : Layout g.row.V.Denot). (p : Coord) → IsNoBackgroundRoot bits t p) (sym (c.in_default.ensures.none refl))
    (λ p. (sweep_end bits c.args.self.now c.loop-key.self c.loop-key.passed c.loop-key.invariant c.in_default.ensures.next p).1)

pub returns-clause-keeps : goal.returns-clause-keeps
returns-clause-keeps g c =
    subst (λ (t : Layout g.row.V.Denot). Keeps (bits_of g.row.U g.row.L g.row.F) c.args.self.now t) (sym (c.in_default.ensures.none refl)) c.loop-key.invariant.keeps
