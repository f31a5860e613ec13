use Rattle.vdb_c.proofs.Common.{◌≡◌, subst, sym, false, true, ◌&&◌, offset, vdb, block_number, Box, coord_eq, is_inside, Coord, Field, cond, field_of, off, cell_in, Result, TreeRefusal}
use Rattle.vdb_coord.specs.declared.Level.TheVariants.{Leaf as leaf_level}
use Rattle.vdb_tree.specs.Leaves.{with_leaf}
use Rattle.vdb_tree.specs.Outcome.{IsOutcome}
use Rattle.vdb_c.specs.FromBox.{AreGiven, cell_given}
use Rattle.vdb_c.specs.LeafWrites.{IsBeside}
use Rattle.vdb_c.proofs.GivenFields.{blank_given, leaf_given, none_given, on_given}
use Rattle.vdb_c.proofs.GivenLeaves.{as_blank, as_laid}
use Rattle.vdb_c.proofs.LeafFields.{beside_part, no_part, part_beside, part_block}
use Rattle.vdb_c.proofs.boxes.from_box.give_leaf.Goals as goal

pub returns-in_default-clause-given : goal.returns-in_default-clause-given
returns-in_default-clause-given g c =
    none_given c.args.bounds _ _ _ (no_part c.args.bounds c.args.p (subst (λ (d : Box). (r : Coord) → (is_inside c.args.bounds r && is_inside d r) ≡ false) c.block.ensures c.in_default.ensures.none))

pub lay-requires-clause-within : goal.lay-requires-clause-within
lay-requires-clause-within g c = λ q i.
    (part_beside c.args.bounds c.in-Some.part c.args.p (subst (λ (d : Box). (r : Coord) → is_inside c.in-Some.part r ≡ (is_inside c.args.bounds r && is_inside d r)) c.block.ensures c.in-Some.ensures.both) q i).0

pub lay-requires-clause-block : goal.lay-requires-clause-block
lay-requires-clause-block g c =
    part_block c.args.bounds c.in-Some.part c.args.p (subst (λ (d : Box). (r : Coord) → is_inside c.in-Some.part r ≡ (is_inside c.args.bounds r && is_inside d r)) c.block.ensures c.in-Some.ensures.both)

pub returns-then-lay-clause-given : goal.returns-then-lay-clause-given
returns-then-lay-clause-given g c =
    let b = c.args.bounds in
    let p = c.args.p in
    let part = c.in-Some.part in
    let blank = off c.args.background in
    let is = subst (λ (d : Box). (r : Coord) → is_inside part r ≡ (is_inside b r && is_inside d r)) c.block.ensures c.in-Some.ensures.both in
    let all = as_blank _ _ _ _ c.args.background c.lay.new.leaf blank c.lay.result (c.lay.ensures blank) c.if-lay.true in
    blank_given b _ p (field_of vdb c.args.tree.now) blank c.requires.blank (λ q beside. sym (all.within q (beside_part b part p is q beside)))

pub returns-clause-given : goal.returns-clause-given
returns-clause-given g c =
    let b = c.args.bounds in
    let p = c.args.p in
    let part = c.in-Some.part in
    let f : Field g.row.V.Denot = field_of vdb c.args.tree.now in
    let laid = c.lay.new.leaf in
    let cell = cell_given g.V.PartialEq.eq g.T.Given.value c.args.background b c.args.strides.now c.args.values.now in
    let is = subst (λ (d : Box). (r : Coord) → is_inside part r ≡ (is_inside b r && is_inside d r)) c.block.ensures c.in-Some.ensures.both in
    let cells = as_laid _ _ cell _ c.args.background laid (off f.background) c.lay.result (c.lay.ensures (off f.background)) c.if-lay.false in
    let given = leaf_given b cell part p f laid (off c.args.background) (part_beside b part p is) (beside_part b part p is) c.requires.blank cells in
    on_given g.V.PartialEq.eq c.args.tree.now.limit f (with_leaf vdb p laid f) (field_of vdb c.write_leaf.new.self) c.write_leaf.result (AreGiven b (IsBeside b p) cell f) c.write_leaf.ensures.outcome given

pub returns-clause-full : goal.returns-clause-full
returns-clause-full g c = λ e.
    let b = c.args.bounds in
    let p = c.args.p in
    let part = c.in-Some.part in
    let f : Field g.row.V.Denot = field_of vdb c.args.tree.now in
    let laid = c.lay.new.leaf in
    let cell = cell_given g.V.PartialEq.eq g.T.Given.value c.args.background b c.args.strides.now c.args.values.now in
    let is = subst (λ (d : Box). (r : Coord) → is_inside part r ≡ (is_inside b r && is_inside d r)) c.block.ensures c.in-Some.ensures.both in
    let cells = as_laid _ _ cell _ c.args.background laid (off f.background) c.lay.result (c.lay.ensures (off f.background)) c.if-lay.false in
    let given = leaf_given b cell part p f laid (off c.args.background) (part_beside b part p is) (beside_part b part p is) c.requires.blank cells in
    let outcome = subst (λ (r : Result (Unit {0}) TreeRefusal). IsOutcome g.V.PartialEq.eq vdb c.args.tree.now.limit f (with_leaf vdb p laid f) (field_of vdb c.write_leaf.new.self) r) e c.write_leaf.ensures.outcome in
    ((λ (q : Coord). cond (coord_eq (block_number vdb leaf_level p) (block_number vdb leaf_level q)) (cell_in (off f.background) laid (offset vdb leaf_level q)) (f.cell q)), given, outcome.1)
