use Rattle.vdb_c.proofs.Common.{arith, length}
use Rattle.vdb_c.proofs.PartPlaces.{both_sides, part_laid, part_reach, part_turned, source_reach}
use Rattle.vdb_c.proofs.boxes.copies.copy_part.Goals as goal

pub copy_planes-requires-clause-sources : goal.copy_planes-requires-clause-sources
copy_planes-requires-clause-sources g c = λ x y z k l m.
    let gap = c.gaps-dx.ensures in
    let h = both_sides c.args.steps.now c.args.bounds c.args.strides.now c.args.part c.min-min.result c.max.result c.place-to.result _ _ _ c.requires.within c.min-min.ensures.bounds c.min-min.ensures.corner c.max.ensures.corner gap.x gap.y gap.z c.place-to.ensures in
    let below = source_reach _ _ _ _ _ c.args.at _ _ _ _ h.0 h.1 (length c.args.from.now) c.requires.sources z y x m l k in
    omega (arith, below)

pub copy_planes-requires-clause-targets : goal.copy_planes-requires-clause-targets
copy_planes-requires-clause-targets g c = λ x y z k l m.
    let gap = c.gaps-dx.ensures in
    let h = both_sides c.args.steps.now c.args.bounds c.args.strides.now c.args.part c.min-min.result c.max.result c.place-to.result _ _ _ c.requires.within c.min-min.ensures.bounds c.min-min.ensures.corner c.max.ensures.corner gap.x gap.y gap.z c.place-to.ensures in
    let below = part_reach _ _ _ _ _ _ _ _ h.1 (length c.args.into.now) c.requires.targets z y x m l k in
    omega (arith, below)

pub copy_planes-requires-else-along_x-clause-sources : goal.copy_planes-requires-else-along_x-clause-sources
copy_planes-requires-else-along_x-clause-sources g c = λ x y z k l m.
    let gap = c.gaps-dx.ensures in
    let h = both_sides c.args.steps.now c.args.bounds c.args.strides.now c.args.part c.min-min.result c.max.result c.place-to.result _ _ _ c.requires.within c.min-min.ensures.bounds c.min-min.ensures.corner c.max.ensures.corner gap.x gap.y gap.z c.place-to.ensures in
    source_reach _ _ _ _ _ c.args.at _ _ _ _ h.0 h.1 (length c.args.from.now) c.requires.sources x y z k l m

pub copy_planes-requires-else-along_x-clause-targets : goal.copy_planes-requires-else-along_x-clause-targets
copy_planes-requires-else-along_x-clause-targets g c = λ x y z k l m.
    let gap = c.gaps-dx.ensures in
    let h = both_sides c.args.steps.now c.args.bounds c.args.strides.now c.args.part c.min-min.result c.max.result c.place-to.result _ _ _ c.requires.within c.min-min.ensures.bounds c.min-min.ensures.corner c.max.ensures.corner gap.x gap.y gap.z c.place-to.ensures in
    part_reach _ _ _ _ _ _ _ _ h.1 (length c.args.into.now) c.requires.targets x y z k l m

pub returns-then-along_x : goal.returns-then-along_x
returns-then-along_x g c = λ of is.
    let gap = c.gaps-dx.ensures in
    let h = both_sides c.args.steps.now c.args.bounds c.args.strides.now c.args.part c.min-min.result c.max.result c.place-to.result _ _ _ c.requires.within c.min-min.ensures.bounds c.min-min.ensures.corner c.max.ensures.corner gap.x gap.y gap.z c.place-to.ensures in
    part_laid _ _ _ _ _ c.args.at _ _ _ _ h.0 h.1 c.args.from.now c.args.into.now _ c.requires.apart (part_turned _ _ _ _ _ c.args.at _ _ _ _ h.0 h.1 c.args.from.now c.args.into.now _ c.copy_planes.ensures) of is

pub returns-else-along_x : goal.returns-else-along_x
returns-else-along_x g c = λ of is.
    let gap = c.gaps-dx.ensures in
    let h = both_sides c.args.steps.now c.args.bounds c.args.strides.now c.args.part c.min-min.result c.max.result c.place-to.result _ _ _ c.requires.within c.min-min.ensures.bounds c.min-min.ensures.corner c.max.ensures.corner gap.x gap.y gap.z c.place-to.ensures in
    part_laid _ _ _ _ _ c.args.at _ _ _ _ h.0 h.1 c.args.from.now c.args.into.now _ c.requires.apart c.copy_planes-else-along_x.ensures of is
