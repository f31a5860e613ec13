use Rattle.vdb_file.proofs.Common.{◌≡◌, ◌∙◌, arith, ap, vdb, Box, field_of, entries_few, exact_by}
use Rattle.vdb_file.proofs.ListedEntries.{around, flat_more, flat_rest, flat_test, listed_next}
use Rattle.vdb_file.proofs.Standard.{standard_bits}
use Rattle.vdb_file.proofs.saving.leaves.next_listed.Goals as goal

pub overflow_cast-i : goal.overflow_cast-i
overflow_cast-i g c =
    let few = entries_few vdb c.args.level standard_bits in
    let h = c.in-Some.ensures.within in
    omega (arith, few, h)

pub overflow_add-at : goal.overflow_add-at
overflow_add-at g c =
    let few = entries_few vdb c.args.level standard_bits in
    let h = c.in-Some.ensures.within in
    omega (arith, few, h)

pub returns-then-not-is_block_of : goal.returns-then-not-is_block_of
returns-then-not-is_block_of g c =
    let exact = exact_by g.V.PartialEq.eq g.V.Ord.cmp g.met.V.Ord.matches_eq g.met.V.Voxel.exact in
    let p = c.args.p in
    let f = field_of vdb c.args.tree.now in
    let next = rw c.background.ensures at c.in-Some.ensures in
    let corner : c.min-corner.result ≡ (around vdb p c.args.level c.in-Some.i).min = c.min-corner.ensures.corner ∙ ap (λ (b : Box). b.min) c.entry_block_in.ensures in
    let test = flat_test vdb p g.V.PartialEq.eq exact g.met.V.Eq.laws.refl f c.args.level c.args.below c.requires.levels c.in-Some.i next.within c.min-corner.result corner c.is_block_of.result (rw c.background.ensures at c.is_block_of.ensures) in
    listed_next vdb p g.V.PartialEq.eq exact g.met.V.Eq.laws.refl f c.args.level c.args.from c.loop-i.at c.loop-i.invariant.from_on c.loop-i.invariant.flat c.in-Some.i next
    (test ∙ c.if-not-is_block_of.true)

pub loop-i-preserved : goal.loop-i-preserved
loop-i-preserved g c =
    let exact = exact_by g.V.PartialEq.eq g.V.Ord.cmp g.met.V.Ord.matches_eq g.met.V.Voxel.exact in
    let p = c.args.p in
    let f = field_of vdb c.args.tree.now in
    let next = rw c.background.ensures at c.in-Some.ensures in
    let corner : c.min-corner.result ≡ (around vdb p c.args.level c.in-Some.i).min = c.min-corner.ensures.corner ∙ ap (λ (b : Box). b.min) c.entry_block_in.ensures in
    let test = flat_test vdb p g.V.PartialEq.eq exact g.met.V.Eq.laws.refl f c.args.level c.args.below c.requires.levels c.in-Some.i next.within c.min-corner.result corner c.is_block_of.result (rw c.background.ensures at c.is_block_of.ensures) in
    record {
      within = let h = next.within in omega (arith, h);
      from_on = let a = c.loop-i.invariant.from_on in let b = next.from_on in omega (arith, a, b);
      flat = flat_more vdb p g.V.PartialEq.eq exact g.met.V.Eq.laws.refl f c.args.level c.args.from c.loop-i.at c.loop-i.invariant.from_on c.loop-i.invariant.flat c.in-Some.i next
          (test ∙ c.if-not-is_block_of.false);
    }

pub returns : goal.returns
returns g c =
    let exact = exact_by g.V.PartialEq.eq g.V.Ord.cmp g.met.V.Ord.matches_eq g.met.V.Voxel.exact in
    flat_rest vdb c.args.p g.V.PartialEq.eq exact g.met.V.Eq.laws.refl (field_of vdb c.args.tree.now) c.args.level c.args.from c.loop-i.at c.loop-i.invariant.from_on c.loop-i.invariant.flat (rw c.background.ensures at c.in_default.ensures)
