use Rattle.vdb_composite.proofs.Common.{◌||◌, refl, vdb, Field, field_of}
use Rattle.vdb_composite.proofs.Mixed.{cell_of}
use Rattle.vdb_composite.proofs.MixSums.{lacks, lacks_none, none_from_map}
use Rattle.vdb_composite.proofs.sums.sum_refusal.Goals as goal

pub returns-then-lacks : goal.returns-then-lacks
returns-then-lacks g c =
    let f : Field g.row.V.Denot = field_of vdb c.args.tree.now in
    let h : Field g.row.V.Denot = field_of vdb c.args.other.now in
    let found = c.lacks.ensures.found c.if-lacks.true in
    (lacks g.V.Voxel.sum_of f h found.0 found.1 (none_from_map (λ (v : g.row.V.Denot). cell_of ((f.cell found.0).on || (h.cell found.0).on) v) (g.V.Voxel.sum_of (f.cell found.0).value (h.cell found.0).value) found.2), refl)

pub returns-in-RootLimit : goal.returns-in-RootLimit
returns-in-RootLimit g c =
    let f : Field g.row.V.Denot = field_of vdb c.args.tree.now in
    let h : Field g.row.V.Denot = field_of vdb c.args.other.now in
    (lacks_none g.V.Voxel.sum_of f h (c.lacks.ensures.none c.if-lacks.false), rw c.in-RootLimit.is at c.refusal.ensures, refl)

pub returns-in-Memory : goal.returns-in-Memory
returns-in-Memory g c =
    let f : Field g.row.V.Denot = field_of vdb c.args.tree.now in
    let h : Field g.row.V.Denot = field_of vdb c.args.other.now in
    (lacks_none g.V.Voxel.sum_of f h (c.lacks.ensures.none c.if-lacks.false), rw c.in-Memory.is at c.refusal.ensures, refl)
