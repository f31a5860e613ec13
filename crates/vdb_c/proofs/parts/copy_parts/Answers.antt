use Rattle.vdb_c.proofs.Common.{◌≡◌, arith, length, subst, vdb, ℕ, field_of}
use Rattle.vdb_c.specs.Parts.{ArePartsPast}
use Rattle.vdb_c.proofs.PartsPast.{copied_all, copied_full, copied_next, copied_none}
use Rattle.vdb_c.proofs.parts.copy_parts.Goals as goal

pub loop-k-init : goal.loop-k-init
loop-k-init g c = record {
  walk = c.begun-walk.ensures.walk;
  bounds = c.begun-walk.ensures.bounds;
  skip = c.begun-walk.ensures.skip;
  copied = copied_none g.V.Number.number_of (field_of vdb c.args.tree.now) c.args.after c.args.parts.now c.begun-walk.result.at c.begun-walk.ensures.earlier;
}

pub loop-k-preserved : goal.loop-k-preserved
loop-k-preserved g c =
    let inv = c.loop-k.invariant in record {
      walk = c.next_part_past.ensures.walk;
      bounds = c.next_part_past.ensures.bounds;
      skip = c.next_part_past.ensures.skip;
      copied =
          copied_next g.V.Number.number_of (field_of vdb c.args.tree.now) c.args.after c.loop-k.k c.args.parts.now c.loop-k.parts c.loop-k.walk.at inv.copied c.in-Some.part c.next_part_past.new.walk.at c.in-Some.ensures.passes
          (omega (arith, c.loop-k-test.true, c.loop-k.auto.parts)) c.in-Some.ensures.part;
    }

pub returns-in_default : goal.returns-in_default
returns-in_default g c =
    copied_all g.V.Number.number_of (field_of vdb c.args.tree.now) c.args.after c.loop-k.k c.args.parts.now c.loop-k.parts c.loop-k.walk.at c.loop-k.invariant.copied c.in_default.ensures.none
    (omega (arith, c.loop-k-test.true, c.loop-k.auto.parts))

pub returns : goal.returns
returns g c =
    let f = field_of vdb c.args.tree.now in
    let all : c.loop-k.k ≡ length c.loop-k.parts = omega (arith, c.loop-k-test.false, c.loop-k.auto.k-end, c.loop-k.auto.parts) in
    let full : c.loop-k.k ≡ length c.args.parts.now = omega (arith, all, c.loop-k.auto.parts) in
    subst (λ (n : ℕ). ArePartsPast g.V.Number.number_of f c.args.after n c.args.parts.now c.loop-k.parts) all
    (copied_full g.V.Number.number_of f c.args.after c.loop-k.k c.args.parts.now c.loop-k.parts c.loop-k.walk.at c.loop-k.invariant.copied full)
