use Rattle.std.proofs.Common.{◌≡◌, ◌∙◌, sym, ap, subst, ◌++◌, ◌∷◌, [], append_assoc}
use Rattle.std.proofs.lemmas.Cmp.{nat_list_cmp_total}
use Rattle.vdb_scene.specs.Metas.{HasRisingKeys, Pairs}
use Rattle.vdb_scene.proofs.Copying.{insert_last}
use Rattle.vdb_scene.proofs.metas.Metas.try_copy.Goals as goal

pub loop-key-preserved : goal.loop-key-preserved
loop-key-preserved c =
    let so_far : Pairs = c.loop-key.pairs.entries in
    let left : Pairs = c.next.new.self in
    let whole : so_far ++ (c.in-Some.key.now, c.in-Some.text.now) ∷ left ≡ c.args.self.now = ap (λ l. so_far ++ l) (sym c.in-Some.ensures.steps) ∙ c.loop-key.invariant in
    let rising : HasRisingKeys (so_far ++ (c.in-Some.key.now, c.in-Some.text.now) ∷ left) = subst HasRisingKeys (sym whole) (subst HasRisingKeys c.self.view_is c.self.invariant.1) in
    ap (λ l. l ++ left) (c.in_ok-insert.ensures.entries ∙ insert_last nat_list_cmp_total so_far left (c.in-Some.key.now, c.in-Some.text.now) rising)
    ∙ append_assoc so_far ((c.in-Some.key.now, c.in-Some.text.now) ∷ []) left ∙ whole
