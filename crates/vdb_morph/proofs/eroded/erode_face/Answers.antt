use Rattle.vdb_morph.proofs.Common.{◌≡◌, refl, subst, sym, ◌∙◌, false, vdb, is_inside, Coord, Face, Field, field_of, is_behind}
use Rattle.vdb_morph.proofs.Eroding.{bounds_within}
use Rattle.vdb_morph.proofs.Settling.{settled_full, settled_layer, settled_no_layer, settled_nowhere}
use Rattle.vdb_morph.proofs.eroded.erode_face.Goals as goal

pub returns-in_default-clause-settled : goal.returns-in_default-clause-settled
returns-in_default-clause-settled g c =
    let f : Field g.row.V.Denot = field_of vdb c.args.tree.now in
    λ ok. settled_nowhere c.args.face c.args.bounds f c.requires (field_of vdb c.args.states.now) (c.in_default.ensures.nowhere refl)

pub returns-then-count-volume-clause-settled : goal.returns-then-count-volume-clause-settled
returns-then-count-volume-clause-settled g c =
    let f : Field g.row.V.Denot = field_of vdb c.args.tree.now in
    λ ok. settled_full c.args.face c.args.bounds f c.requires (field_of vdb c.args.states.now) c.in-Some.slab c.in-Some.ensures.there (sym c.count.ensures.value ∙ (c.if-count-volume.true ∙ c.volume.ensures.value))

pub returns-in-Some-behind-clause-settled : goal.returns-in-Some-behind-clause-settled
returns-in-Some-behind-clause-settled g c =
    let f : Field g.row.V.Denot = field_of vdb c.args.tree.now in
    let layer = c.in-Some-behind.layer in
    let slab = c.in-Some.slab in
    λ ok. settled_layer c.args.face c.args.bounds f c.requires (field_of vdb c.erode_blocks.new.states) slab c.in-Some.ensures.there layer
    (subst (λ (face : Face). (q : Coord) → is_inside layer q ≡ is_behind face slab q) c.opposite.ensures c.in-Some-behind.ensures.there) (c.erode_blocks.ensures.here ok)

pub returns-in-None-clause-settled : goal.returns-in-None-clause-settled
returns-in-None-clause-settled g c =
    let f : Field g.row.V.Denot = field_of vdb c.args.tree.now in
    let slab = c.in-Some.slab in
    λ ok q i. settled_no_layer c.args.face c.args.bounds f c.requires (field_of vdb c.args.states.now) slab c.in-Some.ensures.there
    (λ r there inside. subst (λ (face : Face). is_behind face slab r ≡ false) c.opposite.ensures (c.in-None.ensures.nowhere refl r there)) q (bounds_within c.args.bounds c.min.ensures.bounds q i) i
