use Rattle.vdb_c.proofs.Common.{◌∙◌, refl, subst, sym, Box, field_of, vdb}
use Rattle.vdb_c.specs.Parts.{PassesTo}
use Rattle.vdb_c.proofs.PartsPast.{idle_next, idle_start, passes_all, passes_to}
use Rattle.vdb_c.proofs.parts.next_part_past.Goals as goal

pub parts-init : goal.parts-init
parts-init g c = record {
  walk = c.requires.walk;
  idle = idle_start c.args.tree.now c.args.after c.args.walk.now.at c.args.walk.now refl c.requires.bounds c.requires.skip;
}

pub parts-preserved : goal.parts-preserved
parts-preserved g c = record {
  walk = c.next_part.ensures.walk;
  idle =
      idle_next c.args.tree.now c.args.after c.args.walk.now.at c.parts.walk c.next_part.new.walk c.parts.invariant.idle c.in-Some.part.bounds c.in-Some.ensures.part
      (sym c.is_after.ensures ∙ c.if-is_after.false);
}

pub returns-then-is_after-clause-bounds : goal.returns-then-is_after-clause-bounds
returns-then-is_after-clause-bounds g c = c.in-Some.ensures.part.passes.box ∙ c.parts.invariant.idle.box

pub returns-then-is_after-clause-skip : goal.returns-then-is_after-clause-skip
returns-then-is_after-clause-skip g c = c.in-Some.ensures.part.passes.skip ∙ c.parts.invariant.idle.skip

pub returns-then-is_after-clause-passes : goal.returns-then-is_after-clause-passes
returns-then-is_after-clause-passes g c =
    subst (λ (b : Box). PassesTo (field_of vdb c.args.tree.now) c.args.after c.args.walk.now.at c.next_part.new.walk.at b) (sym c.part_of.ensures.voxels)
    (passes_to c.args.tree.now c.args.after c.args.walk.now.at c.parts.walk c.next_part.new.walk c.parts.invariant.idle c.in-Some.part.bounds c.in-Some.ensures.part c.part_of.ensures.within
    (sym c.is_after.ensures ∙ c.if-is_after.true))

pub returns-clause-none : goal.returns-clause-none
returns-clause-none g c =
    passes_all c.args.tree.now c.args.after c.args.walk.now.at c.parts.walk c.next_part.new.walk c.parts.invariant.idle c.in_default.ensures.end c.in_default.ensures.none_left
