use Rattle.vdb_tree.proofs.Common.{refl, subst, Option, Coord, both, min_inside, bits_of, IsVoxelisedTo, IsActiveIn}
use Rattle.vdb_tree.proofs.Equations.{keeps_field}
use Rattle.vdb_tree.proofs.MadeNodes.{keys_twice, makes_none, makes_twice}
use Rattle.vdb_tree.proofs.Splits.{adds_itself, adds_twice, keeps_itself, keeps_twice}
use Rattle.vdb_tree.proofs.Voxels.{begins, goes_on}
use Rattle.vdb_tree.proofs.tree.TreeOf.make_leaves.Goals as goal

pub loop-next-init : goal.loop-next-init
loop-next-init g c =
    let bits = bits_of g.row.U g.row.L g.row.F in
    rw c.min.ensures.corner (record {
      keeps = keeps_itself bits c.args.self.now;
      made = makes_none bits (IsActiveIn bits c.args.bounds) c.args.self.now c.args.self.now (λ q level. refl);
      adds = adds_itself bits c.args.self.now;
      keys = λ k h. h;
      inside = min_inside c.args.bounds (both _ _ c.min.ensures.bounds).0;
      done = begins bits c.args.bounds c.args.self.now;
    })

pub loop-next-preserved : goal.loop-next-preserved
loop-next-preserved g c =
    let bits = bits_of g.row.U g.row.L g.row.F in
    let before = subst (λ (next : Option Coord). IsVoxelisedTo bits c.loop-next.self c.args.bounds next) c.in-Some.is c.loop-next.invariant.done in
    record {
      keeps = keeps_twice bits c.args.self.now c.loop-next.self c.voxelise_from.new.self c.loop-next.invariant.keeps c.in_ok-next.ensures.keeps;
      made = makes_twice bits (IsActiveIn bits c.args.bounds) c.args.self.now c.loop-next.self c.voxelise_from.new.self c.loop-next.invariant.keeps c.loop-next.invariant.made c.in_ok-next.ensures.made;
      adds = adds_twice bits c.args.self.now c.loop-next.self c.voxelise_from.new.self c.loop-next.invariant.adds c.in_ok-next.ensures.adds;
      keys = keys_twice c.args.self.now c.loop-next.self c.voxelise_from.new.self c.loop-next.invariant.keys c.in_ok-next.ensures.keys;
      inside = c.in_ok-next.ensures.inside;
      done = goes_on bits c.args.bounds c.loop-next.self c.voxelise_from.new.self c.in-Some.p c.in_ok-next.next before c.in_ok-next.ensures.keeps c.in_ok-next.ensures.adds c.in_ok-next.ensures.done;
    }

pub returns-in_err-next-clause-field : goal.returns-in_err-next-clause-field
returns-in_err-next-clause-field g c =
    let bits = bits_of g.row.U g.row.L g.row.F in
    keeps_field bits c.args.self.now c.voxelise_from.new.self (keeps_twice bits c.args.self.now c.loop-next.self c.voxelise_from.new.self c.loop-next.invariant.keeps c.in_err-next.ensures.keeps)

pub returns-clause-field : goal.returns-clause-field
returns-clause-field g c = keeps_field (bits_of g.row.U g.row.L g.row.F) c.args.self.now c.loop-next.self c.loop-next.invariant.keeps

pub returns-in_err-next-clause-made : goal.returns-in_err-next-clause-made
returns-in_err-next-clause-made g c =
    let bits = bits_of g.row.U g.row.L g.row.F in
    makes_twice bits (IsActiveIn bits c.args.bounds) c.args.self.now c.loop-next.self c.voxelise_from.new.self c.loop-next.invariant.keeps c.loop-next.invariant.made c.in_err-next.ensures.made

pub returns-in_err-next-clause-adds : goal.returns-in_err-next-clause-adds
returns-in_err-next-clause-adds g c =
    adds_twice (bits_of g.row.U g.row.L g.row.F) c.args.self.now c.loop-next.self c.voxelise_from.new.self c.loop-next.invariant.adds c.in_err-next.ensures.adds

pub returns-in_err-next-clause-keys : goal.returns-in_err-next-clause-keys
returns-in_err-next-clause-keys g c =
    keys_twice c.args.self.now c.loop-next.self c.voxelise_from.new.self c.loop-next.invariant.keys c.in_err-next.ensures.keys
