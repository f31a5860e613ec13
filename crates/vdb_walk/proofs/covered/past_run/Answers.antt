use Rattle.vdb_walk.proofs.Common.{IsNextCoord, everywhere, IsCoveredUpTo}
use Rattle.vdb_walk.proofs.CoveredRuns.{covered_next, next_inside}
use Rattle.vdb_walk.proofs.covered.past_run.Goals as goal

pub returns-else-contains-clause-covered : goal.returns-else-contains-clause-covered
returns-else-contains-clause-covered c =
    let next : IsNextCoord c.args.bits c.args.level everywhere c.in-Some.last c.next_coord_in.result = rw c.all.ensures at c.next_coord_in.ensures.next in
    let up : IsCoveredUpTo c.args.bits c.args.around c.args.level c.args.part.min c.in-Some.last = rw c.min.ensures.corner at c.in-Some.ensures.covered in
    covered_next c.args.bits c.args.level c.args.around c.args.part.min c.in-Some.last up c.next_coord_in.result next

pub returns-else-contains-clause-inside : goal.returns-else-contains-clause-inside
returns-else-contains-clause-inside c =
    let next : IsNextCoord c.args.bits c.args.level everywhere c.in-Some.last c.next_coord_in.result = rw c.all.ensures at c.next_coord_in.ensures.next in
    next_inside c.args.bits c.args.level c.in-Some.last c.next_coord_in.result next
