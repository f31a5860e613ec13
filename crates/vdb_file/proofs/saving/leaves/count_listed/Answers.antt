use Rattle.vdb_file.proofs.Common.{arith, ◌∙◌, ap, sym, length, block_around, entries, vdb, field_of, entries_few}
use Rattle.vdb_file.proofs.ListedEntries.{flat, listed_is}
use Rattle.vdb_file.proofs.Passing.{others, others_counted, others_end, passing_few}
use Rattle.vdb_file.proofs.Standard.{standard_bits}
use Rattle.vdb_file.proofs.saving.leaves.count_listed.Goals as goal

pub overflow_add-count : goal.overflow_add-count
overflow_add-count g c =
    let entries_are = entries_few vdb c.args.level standard_bits in
    let few = passing_few (others (flat vdb c.args.p g.V.PartialEq.eq (field_of vdb c.args.tree.now) c.args.level)) c.loop-i.from in
    let counted = c.loop-i.invariant.counted in
    let on = c.in-Some.ensures.from_on in
    let within = c.in-Some.ensures.within in
    omega (arith, entries_are, few, counted, on, within)

pub overflow_add-from : goal.overflow_add-from
overflow_add-from g c =
    let few = entries_few vdb c.args.level standard_bits in
    let within = c.in-Some.ensures.within in
    omega (arith, few, within)

pub loop-i-preserved : goal.loop-i-preserved
loop-i-preserved g c =
    record {
      within = let h = c.in-Some.ensures.within in omega (arith, h);
      counted = others_counted (flat vdb c.args.p g.V.PartialEq.eq (field_of vdb c.args.tree.now) c.args.level) (entries vdb c.args.level) c.loop-i.from c.in-Some.i c.loop-i.count c.in-Some.ensures c.loop-i.invariant.counted;
    }

pub returns : goal.returns
returns g c =
    let f = field_of vdb c.args.tree.now in
    c.loop-i.invariant.counted
    ∙ ap length (sym (others_end (flat vdb c.args.p g.V.PartialEq.eq f c.args.level) (entries vdb c.args.level) c.loop-i.from c.loop-i.invariant.within c.in_default.ensures))
    ∙ ap length (sym (listed_is g.V.PartialEq.eq g.V.Voxel.bytes_of vdb f c.args.level (block_around vdb c.args.level c.args.p)))
