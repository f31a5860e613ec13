use Rattle.vdb_tree.proofs.Common.{◌∙◌, refl, subst, sym, Coord, IsNoBackgroundRoot, Keeps, Layout, bits_of, AddsBackgroundTiles, MakesNoKey}
use Rattle.vdb_tree.proofs.Erasing.{erased_end, erased_next, erased_none, next_of_old}
use Rattle.vdb_tree.proofs.KeysPast.{fewer_past}
use Rattle.vdb_tree.proofs.tree.TreeOf.erase_background.Goals as goal

pub loop-key-init : goal.loop-key-init
loop-key-init g c = erased_none _ c.args.self.now

pub loop-key-smaller : goal.loop-key-smaller
loop-key-smaller g c =
    fewer_past c.args.self.now.root c.loop-key.passed c.in-Some.key
    (next_of_old (bits_of g.row.U g.row.L g.row.F) c.args.self.now c.loop-key.self c.loop-key.passed c.in-Some.key c.loop-key.invariant c.in-Some.ensures.next)

pub loop-key-preserved : goal.loop-key-preserved
loop-key-preserved g c =
    erased_next (bits_of g.row.U g.row.L g.row.F) c.args.self.now c.loop-key.self c.erase_next_background.new.self c.loop-key.passed c.in-Some.key c.loop-key.invariant c.in-Some.ensures.next c.in-Some.ensures.erased

pub returns-clause-adds : goal.returns-clause-adds
returns-clause-adds g c =
    subst (λ (t : Layout g.row.V.Denot). AddsBackgroundTiles (bits_of g.row.U g.row.L g.row.F) c.args.self.now t) (sym (c.self-2.view_is ∙ c.in_default.ensures.none refl)) c.loop-key.invariant.adds

pub returns-clause-swept : goal.returns-clause-swept
returns-clause-swept g c =
    let bits = bits_of g.row.U g.row.L g.row.F in
    subst (λ (t : Layout g.row.V.Denot). (p : Coord) → IsNoBackgroundRoot bits t p) (sym (c.self-2.view_is ∙ c.in_default.ensures.none refl))
    (erased_end bits c.args.self.now c.loop-key.self c.loop-key.passed c.loop-key.invariant c.in_default.ensures.next)

pub returns-clause-keeps : goal.returns-clause-keeps
returns-clause-keeps g c =
    subst (λ (t : Layout g.row.V.Denot). Keeps (bits_of g.row.U g.row.L g.row.F) c.args.self.now t) (sym (c.self-2.view_is ∙ c.in_default.ensures.none refl)) c.loop-key.invariant.adds.keeps

pub returns-clause-keys : goal.returns-clause-keys
returns-clause-keys g c =
    subst (λ (t : Layout g.row.V.Denot). MakesNoKey c.args.self.now t) (sym (c.self-2.view_is ∙ c.in_default.ensures.none refl)) c.loop-key.invariant.keys
