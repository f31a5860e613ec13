use Rattle.vdb_c.proofs.Common.{◌≡◌, ◌+◌, ◌^◌, IsTrue, arith, both, is_inside, min_inside, subst, Coord, off}
use Rattle.vdb_c.specs.FromBox.{cell_at, cells_of}
use Rattle.vdb_c.proofs.GivenLeaves.{IsPartAt, have_next, have_none, part_at, part_entry, part_given, part_row, part_reach, plane_apart, plane_below}
use Rattle.vdb_c.proofs.boxes.from_box.lay.Goals as goal

pub place-first-requires-clause-inside : goal.place-first-requires-clause-inside
place-first-requires-clause-inside g c = c.requires.within c.min-min.result (rw c.min-min.ensures.corner (min_inside c.args.part (both _ _ c.min-min.ensures.bounds).0))

pub planes-init : goal.planes-init
planes-init g c =
    let inside : IsTrue (is_inside c.args.part c.min-min.result) = rw c.min-min.ensures.corner (min_inside c.args.part (both _ _ c.min-min.ensures.bounds).0) in
    let at = part_at c.args.bounds c.args.strides.now c.args.part c.min-min.result c.max.result c.offset-offset.result c.place-first.result c.gaps-dx.result.0 c.gaps-dx.result.1 c.gaps-dx.result.2 c.requires.within c.requires.block inside
    c.min-min.ensures.corner c.max.ensures.corner c.gaps-dx.ensures.x c.gaps-dx.ensures.y c.gaps-dx.ensures.z c.offset-offset.ensures.value c.place-first.ensures in
    record {
      part = subst (λ (p : Coord). IsPartAt c.args.bounds c.args.strides.now c.args.part p c.offset-offset.result c.place-first.result c.gaps-dx.result.0 c.gaps-dx.result.1 c.gaps-dx.result.2) c.min-min.ensures.corner at;
      given = λ d. have_none _ _ _ _;
    }

pub overflow_mul-x : goal.overflow_mul-x
overflow_mul-x g c = let small = part_entry _ _ _ _ _ _ _ _ _ c.planes.invariant.part c.planes.x 0 c.planes-test.true (omega arith) in omega (arith, small)

pub overflow_add-offset : goal.overflow_add-offset
overflow_add-offset g c = let small = part_entry _ _ _ _ _ _ _ _ _ c.planes.invariant.part c.planes.x 0 c.planes-test.true (omega arith) in omega (arith, small)

pub overflow_mul-x-in-planes : goal.overflow_mul-x-in-planes
overflow_mul-x-in-planes g c = let small = part_reach _ _ _ _ _ _ _ _ _ c.planes.invariant.part (2 ^ 64) c.requires.fits c.planes.x 0 0 c.planes-test.true (omega arith) (omega arith) in omega (arith, small)

pub overflow_add-first : goal.overflow_add-first
overflow_add-first g c = let small = part_reach _ _ _ _ _ _ _ _ _ c.planes.invariant.part (2 ^ 64) c.requires.fits c.planes.x 0 0 c.planes-test.true (omega arith) (omega arith) in omega (arith, small)

pub lay_plane-blank-requires-clause-in_row : goal.lay_plane-blank-requires-clause-in_row
lay_plane-blank-requires-clause-in_row g c = part_row _ _ _ _ _ _ _ _ _ c.planes.invariant.part c.planes.x

pub lay_plane-blank-requires-clause-within : goal.lay_plane-blank-requires-clause-within
lay_plane-blank-requires-clause-within g c = λ y h. part_entry _ _ _ _ _ _ _ _ _ c.planes.invariant.part c.planes.x y c.planes-test.true h

pub lay_plane-blank-requires-clause-reach : goal.lay_plane-blank-requires-clause-reach
lay_plane-blank-requires-clause-reach g c = λ y k h l. part_reach _ _ _ _ _ _ _ _ _ c.planes.invariant.part _ c.requires.reach c.planes.x y k c.planes-test.true h l

pub planes-preserved : goal.planes-preserved
planes-preserved g c =
    let at = c.planes.invariant.part in
    let background = c.args.background in
    record {
      part = at;
      given = λ d.
          have_next _ _ _ c.planes.x (λ i. off background) (cells_of background c.planes.blank c.planes.leaf d) (cells_of background c.lay_plane-blank.result c.lay_plane-blank.new.leaf d) (c.planes.invariant.given d) (c.lay_plane-blank.ensures d)
          (λ n j less w. plane_below _ _ _ _ _ _ _ _ _ at n j (let l = c.planes-test.true in omega (arith, less, l)) w) (λ n i j less k l. plane_apart _ _ _ _ _ _ _ _ _ at c.planes.x n i j less k l);
    }

pub returns : goal.returns
returns g c = λ d.
    let background = c.args.background in
    let end : c.planes.x ≡ c.gaps-dx.result.0 + 1 = omega (arith, c.planes-test.false, c.planes.auto.x-end) in
    part_given _ _ _ _ _ _ _ _ _ c.planes.invariant.part (cell_at g.V.PartialEq.eq g.T.Given.value background c.args.values.now) (λ i. off background) (cells_of background c.planes.blank c.planes.leaf d) c.planes.x end (c.planes.invariant.given d)
