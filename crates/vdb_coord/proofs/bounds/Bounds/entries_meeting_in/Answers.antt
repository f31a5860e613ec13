-- The positions of the corners that the box and the node have in common.
use Rattle.vdb_coord.proofs.Common.{◌≡◌, true, ap, sym, ◌∙◌, block_around, box_of, position, position_of, Box, is_box, is_inside}
use Rattle.vdb_coord.proofs.Boxes.{box_of_none, box_of_some}
use Rattle.vdb_coord.proofs.Ranges.{high_corner, high_of_same, low_corner, low_of_same, none_meets, positions_are_box, positions_meet, same_answer, same_box}
use Rattle.vdb_coord.proofs.bounds.Bounds.entries_meeting_in.Goals as goal

pub between-requires : goal.between-requires
between-requires c =
    let bits = c.args.bits in
    let level = c.args.level in
    let b = c.args.self in
    let block = block_around bits level c.args.p in
    let inner : Box = record { min = c.self.inside.min; max = c.self.inside.max } in
    let around : Box = record { min = c.block.inside.min; max = c.block.inside.max } in
    let blocked : around ≡ block = c.block.view_is ∙ c.block_in-block.ensures in
    let low = low_of_same inner b around block c.greater-min.result c.greater-min.ensures c.self.view_is blocked in
    let high = high_of_same inner b around block c.lesser-max.result c.lesser-max.ensures c.self.view_is blocked in
    let answer : c.new.result ≡ box_of (low_corner b block) (high_corner b block) = c.new.ensures ∙ same_answer c.greater-min.result c.lesser-max.result (low_corner b block) (high_corner b block) low high in
    let made = box_of_some (low_corner b block) (high_corner b block) c.in-Some.field-0 (sym answer ∙ c.in-Some.is) in
    let first : c.position_in.result ≡ position bits level (low_corner b block) = c.position_in.ensures ∙ ap (position bits level) low in
    let last : c.position_in-in-Some.result ≡ position bits level (high_corner b block) = c.position_in-in-Some.ensures ∙ ap (position bits level) high in
    let positions = same_box c.position_in.result c.position_in-in-Some.result (position bits level (low_corner b block)) (position bits level (high_corner b block)) first last in
    ap is_box positions ∙ positions_are_box bits level c.args.p b made.0

pub returns-in-Some-clause-some : goal.returns-in-Some-clause-some
returns-in-Some-clause-some c =
    let bits = c.args.bits in
    let level = c.args.level in
    let b = c.args.self in
    let block = block_around bits level c.args.p in
    let inner : Box = record { min = c.self.inside.min; max = c.self.inside.max } in
    let around : Box = record { min = c.block.inside.min; max = c.block.inside.max } in
    let blocked : around ≡ block = c.block.view_is ∙ c.block_in-block.ensures in
    let low = low_of_same inner b around block c.greater-min.result c.greater-min.ensures c.self.view_is blocked in
    let high = high_of_same inner b around block c.lesser-max.result c.lesser-max.ensures c.self.view_is blocked in
    let answer : c.new.result ≡ box_of (low_corner b block) (high_corner b block) = c.new.ensures ∙ same_answer c.greater-min.result c.lesser-max.result (low_corner b block) (high_corner b block) low high in
    let made = box_of_some (low_corner b block) (high_corner b block) c.in-Some.field-0 (sym answer ∙ c.in-Some.is) in
    let first : c.position_in.result ≡ position bits level (low_corner b block) = c.position_in.ensures ∙ ap (position bits level) low in
    let last : c.position_in-in-Some.result ≡ position bits level (high_corner b block) = c.position_in-in-Some.ensures ∙ ap (position bits level) high in
    let positions = same_box c.position_in.result c.position_in-in-Some.result (position bits level (low_corner b block)) (position bits level (high_corner b block)) first last in
    λ i h. ap (λ (t : Box). is_inside t (position_of bits level i)) (c.between.ensures ∙ positions) ∙ positions_meet bits level c.args.p b i h made.0

pub returns-in-None-clause-none : goal.returns-in-None-clause-none
returns-in-None-clause-none c =
    let bits = c.args.bits in
    let level = c.args.level in
    let b = c.args.self in
    let block = block_around bits level c.args.p in
    let inner : Box = record { min = c.self.inside.min; max = c.self.inside.max } in
    let around : Box = record { min = c.block.inside.min; max = c.block.inside.max } in
    let blocked : around ≡ block = c.block.view_is ∙ c.block_in-block.ensures in
    let low = low_of_same inner b around block c.greater-min.result c.greater-min.ensures c.self.view_is blocked in
    let high = high_of_same inner b around block c.lesser-max.result c.lesser-max.ensures c.self.view_is blocked in
    let answer : c.new.result ≡ box_of (low_corner b block) (high_corner b block) = c.new.ensures ∙ same_answer c.greater-min.result c.lesser-max.result (low_corner b block) (high_corner b block) low high in
    let ordered : is_box b ≡ true = ap is_box (sym c.self.view_is) ∙ c.self.invariant in
    λ i h. none_meets bits level c.args.p b i h ordered (box_of_none (low_corner b block) (high_corner b block) (sym answer ∙ c.in-None.is))
