use Rattle.vdb_c.proofs.Common.{◌∙◌, ap, arith, refl, vdb, both, min_inside, Field, field, field_of}
use Rattle.std.proofs.lemmas.Grind.{common_steps}
use Rattle.vdb_tree.proofs.Uniform.{exact_by}
use Rattle.vdb_c.specs.FromBox.{cell_given}
use Rattle.vdb_c.proofs.GivenFields.{as_given, either_given, given_first, given_last, given_next, part_roots, past_limit, still_blank}
use Rattle.vdb_c.proofs.boxes.from_box.give_leaves.Goals as goal

pub leaves-init : goal.leaves-init
leaves-init g c =
    let at_min = c.min-p.ensures.corner in
    record {
      inside = rw at_min (min_inside c.turned_bounds-order.result (both _ _ c.min-p.ensures.bounds).0);
      limit = refl;
      given = given_first c.args.bounds _ _ c.turned_bounds-order.result c.turned_bounds-order.ensures c.min-p.result at_min _;
    }

pub give_leaf-requires-clause-blank : goal.give_leaf-requires-clause-blank
give_leaf-requires-clause-blank g c = still_blank c.args.bounds _ c.args.background _ c.leaves.p c.turned-at.result c.turned-at.ensures _ _ c.requires.blank c.leaves.invariant.given

pub leaves-preserved : goal.leaves-preserved
leaves-preserved g c =
    let inv = c.leaves.invariant in
    record {
      inside = c.in-Some.ensures.next.0;
      limit = c.give_leaf.ensures.limit ∙ inv.limit;
      given = given_next c.args.bounds _ _ c.leaves.p c.turned-at.result c.turned-at.ensures _ _ _ inv.given c.in_ok-give_leaf.ensures.given c.turned_bounds-order.result c.turned_bounds-order.ensures c.in-Some.next c.in-Some.ensures.next;
    }

pub returns-in-None-clause-given : goal.returns-in-None-clause-given
returns-in-None-clause-given g c =
    let b = c.args.bounds in
    let cell = cell_given g.V.PartialEq.eq g.T.Given.value c.args.background b c.args.strides.now c.args.values.now in
    as_given b cell c.args.background _ _ c.requires.blank
    (given_last b cell _ c.leaves.p c.turned-at.result c.turned-at.ensures _ _ _ c.leaves.invariant.given c.in_ok-give_leaf.ensures.given c.turned_bounds-order.result c.turned_bounds-order.ensures c.in-None.ensures.next)

pub returns-in_err-give_leaf-clause-full : goal.returns-in_err-give_leaf-clause-full
returns-in_err-give_leaf-clause-full g c = λ h.
    let exact = exact_by g.V.PartialEq.eq g.V.Ord.cmp g.met.V.Ord.matches_eq g.met.V.Voxel.exact in
    let itself = g.met.V.Eq.laws.refl in
    let inv = c.leaves.invariant in
    let b = c.args.bounds in
    let cell = cell_given g.V.PartialEq.eq g.T.Given.value c.args.background b c.args.strides.now c.args.values.now in
    let found = c.in_err-give_leaf.ensures.full (grind (arith, common_steps, c.from_residual.ensures, h)) in
    let same = inv.given.background ∙ ap (λ (f : Field g.row.V.Denot). f.background) c.requires.blank in
    let few = part_roots b cell c.args.background g.V.PartialEq.eq exact itself (field_of vdb c.args.tree.now) c.leaves.tree.background found.0 c.requires.blank same
    (either_given b cell _ c.leaves.p c.turned-at.result c.turned-at.ensures (field_of vdb c.args.tree.now) (field_of vdb c.leaves.tree) (field c.leaves.tree.background found.0) inv.given found.1) in
    past_limit c.args.tree.now.limit c.leaves.tree.limit _ _ inv.limit found.2 few
