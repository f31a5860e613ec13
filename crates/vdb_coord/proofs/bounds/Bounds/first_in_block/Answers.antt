-- The least corner of what the box has of a block comes before its other coordinates.
use Rattle.vdb_coord.proofs.Common.{◌≡◌, ◌∙◌, SFits, ap, rules, subst, sym, w32, block_around, IsFirstInBlock, Box, Coord}
use Rattle.vdb_coord.proofs.Meeting.{fits_everywhere}
use Rattle.vdb_coord.proofs.NextCoord.{corner, first_at_corner}
use Rattle.vdb_coord.proofs.bounds.Bounds.first_in_block.Goals as goal

pub returns-clause-first : goal.returns-clause-first
returns-clause-first c =
    let around = block_around c.args.bits c.args.level c.args.p in
    let other : c.min-2.result ≡ around.min = c.min-2.ensures.corner ∙ ap (λ (b : Box). b.min) c.block_in.ensures in
    let answer : c.greater.result ≡ corner c.args.self around = rw (c.greater.ensures, c.min.ensures.corner, other) in
    subst (λ (t : Coord). IsFirstInBlock c.args.bits c.args.level c.args.self c.args.p t) (sym answer) (first_at_corner c.args.bits c.args.level c.args.self c.args.p c.requires.inside)

pub returns-clause-within : goal.returns-clause-within
returns-clause-within c =
    let x : SFits w32 c.greater.result.x = search rules in
    let y : SFits w32 c.greater.result.y = search rules in
    let z : SFits w32 c.greater.result.z = search rules in
    fits_everywhere c.greater.result x y z
