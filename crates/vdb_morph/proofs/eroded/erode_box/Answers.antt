use Rattle.vdb_morph.proofs.Common.{arith, refl, true, vdb, Field, field_of}
use Rattle.vdb_morph.proofs.Eroding.{erodes_none, erodes_then, still_either}
use Rattle.vdb_morph.proofs.Settling.{settled_more, settled_none, settled_whole}
use Rattle.vdb_morph.proofs.eroded.erode_box.Goals as goal

pub loop-face-init : goal.loop-face-init
loop-face-init g c =
    let f : Field g.row.V.Denot = field_of vdb c.args.tree.now in
    record { settled = settled_none f c.args.bounds (field_of vdb c.args.states.now); erodes = erodes_none f (field_of vdb c.args.states.now) }

pub loop-face-preserved : goal.loop-face-preserved
loop-face-preserved g c =
    let f : Field g.row.V.Denot = field_of vdb c.args.tree.now in
    let s = field_of vdb c.loop-face.states in
    let u = field_of vdb c.erode_face.new.states in
    let had = c.loop-face.invariant in
    let erodes = c.in_ok-erode_face.ensures.erodes (refl {a = true}) in
    record {
      settled = settled_more f c.args.bounds s u erodes c.loop-face.face-index had.settled (c.in_ok-erode_face.ensures.settled (refl {a = true}));
      erodes = erodes_then f (field_of vdb c.args.states.now) s u had.erodes erodes;
    }

pub returns-clause-here : goal.returns-clause-here
returns-clause-here g c =
    let f : Field g.row.V.Denot = field_of vdb c.args.tree.now in
    let states = field_of vdb c.loop-face.states in
    let had = c.loop-face.invariant in
    let test = c.loop-face-test.false in
    λ ok q i either. settled_whole f c.args.bounds states (λ k h. had.settled k (omega (arith, h, test))) q i (still_either f (field_of vdb c.args.states.now) states had.erodes q either)
