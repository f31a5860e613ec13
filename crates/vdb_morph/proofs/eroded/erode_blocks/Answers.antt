use Rattle.vdb_morph.proofs.Common.{refl, subst, true, Option, vdb, Coord, Field, cell_at, field_of, is_around}
use Rattle.vdb_morph.proofs.Eroding.{IsDoneTo, done_more, done_none, erodes_none, erodes_taken, erodes_then, nearer_left, taken_eroded}
use Rattle.vdb_morph.proofs.eroded.erode_blocks.Goals as goal

pub coords-init : goal.coords-init
coords-init g c =
    let f : Field g.row.V.Denot = field_of vdb c.args.tree.now in
    record {
      done = done_none f vdb c.args.bounds (field_of vdb c.args.states.now) c.min.ensures.bounds c.min.result c.min.ensures.corner;
      erodes = erodes_none f (field_of vdb c.args.states.now);
    }

pub coords-smaller : goal.coords-smaller
coords-smaller g c =
    nearer_left vdb c.in-Some.p c.coords.at c.next_coord_in-at.result c.in-Some.is c.next_coord_in-at.ensures.nearer

pub coords-preserved : goal.coords-preserved
coords-preserved g c =
    let f : Field g.row.V.Denot = field_of vdb c.args.tree.now in
    let old = c.coords.states in
    let s = field_of vdb old in
    let u = field_of vdb c.erode_block.new.states in
    let p = c.in-Some.p in
    let is = c.in_ok-erode_block.ensures (refl {a = true}) in
    let erodes = erodes_taken f (is_around vdb p) old.background (cell_at vdb old) u is in
    let done = subst (λ (o : Option Coord). IsDoneTo f vdb c.args.bounds s o) c.in-Some.is c.coords.invariant.done in
    record {
      done =
          done_more f vdb c.args.bounds s u c.min.ensures.bounds p done erodes (taken_eroded f (is_around vdb p) old.background (cell_at vdb old) u is) c.next_coord_in-at.result c.next_coord_in-at.ensures.next;
      erodes = erodes_then f (field_of vdb c.args.states.now) s u c.coords.invariant.erodes erodes;
    }
