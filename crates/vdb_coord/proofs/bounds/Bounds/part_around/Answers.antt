-- The box and the block both hold p.
use Rattle.vdb_coord.proofs.Common.{◌≡◌, ◌∙◌, ap, false, sym, true, Box, is_inside}
use Rattle.vdb_coord.proofs.Boxes.{and_true}
use Rattle.vdb_coord.proofs.Nesting.{inside_around}
use Rattle.vdb_coord.proofs.bounds.Bounds.part_around.Goals as goal

pub unreachable-requires : goal.unreachable-requires
unreachable-requires c =
    let around = ap (λ (b : Box). is_inside b c.args.p) c.block_in.ensures ∙ inside_around c.args.bits c.args.level c.args.p in
    let never : false ≡ true = sym (c.in-None.ensures.none c.args.p) ∙ and_true _ _ c.requires.inside around in cc
