use Rattle.vdb_file.proofs.Common.{◌≡◌, ◌∙◌, ◌++◌, ap, arith, refl, rules, subst, sym, on_ok_weaker, w16, to_be_bytes, block_around, vdb, Box, fits_everywhere, field_of, entries_few, exact_by, source, level_body, Puts, sent}
use Rattle.vdb_file.proofs.LeafVoxels.{one_everywhere}
use Rattle.vdb_file.proofs.ListedEntries.{around, entry_block}
use Rattle.vdb_file.proofs.PutBlocks.{all_put, cell_put, listed_put, node_put}
use Rattle.vdb_file.proofs.Standard.{standard_bits}
use Rattle.vdb_file.proofs.saving.nodes.+blocks.Goals as goal

pub put_block-returns-in-Leaf-clause-puts : goal.put_block-returns-in-Leaf-clause-puts
put_block-returns-in-Leaf-clause-puts g t c = rw c.in-Leaf.is c.put_leaf.ensures.puts

pub put_block-returns-in-Lower-clause-puts : goal.put_block-returns-in-Lower-clause-puts
put_block-returns-in-Lower-clause-puts g t c = rw c.in-Lower.is c.put_node.ensures.puts

pub put_block-returns-in-Upper-clause-puts : goal.put_block-returns-in-Upper-clause-puts
put_block-returns-in-Upper-clause-puts g t c = rw c.in-Upper.is c.put_node-in-Upper.ensures.puts

pub put_node-returns-in-Some-clause-puts : goal.put_node-returns-in-Some-clause-puts
put_node-returns-in-Some-clause-puts g t c =
    let exact = exact_by g.V.PartialEq.eq g.V.Ord.cmp g.met.V.Ord.matches_eq g.met.V.Voxel.exact in
    let level = c.args.level in
    let f = field_of vdb c.args.tree.now in
    let eq = g.V.PartialEq.eq in
    let bytes = g.V.Voxel.bytes_of in
    let inside = fits_everywhere c.args.p (search rules) (search rules) (search rules) in
    let one = one_everywhere eq exact g.met.V.Eq.laws.refl vdb standard_bits level f c.args.p inside c.in-Some.cell ((c.in-Some.ensures.cell c.in-Some.cell).0 refl) in
    on_ok_weaker c.put_cell.result (λ h. cell_put eq bytes vdb f (level_body eq bytes vdb c.args.below f) level (block_around vdb level c.args.p) _ _ c.in-Some.cell one.0 one.1 h) c.put_cell.ensures.puts

pub put_node-returns-clause-puts : goal.put_node-returns-clause-puts
put_node-returns-clause-puts g t c =
    let level = c.args.level in
    let f = field_of vdb c.args.tree.now in
    let eq = g.V.PartialEq.eq in
    let bytes = g.V.Voxel.bytes_of in
    on_ok_weaker c.put_entries.result
    (λ h. node_put eq bytes vdb f (level_body eq bytes vdb c.args.below f) level (block_around vdb level c.args.p) _ _ _ _ (sym c.in_default.ensures.test) c.in_ok-put_node_head.ensures.puts refl h)
    c.put_entries.ensures.puts

pub put_entries-overflow_cast-i : goal.put_entries-overflow_cast-i
put_entries-overflow_cast-i g t c = let few = entries_few vdb c.args.level standard_bits in let h = c.in-Some.ensures.within in omega (arith, few, h)

pub put_entries-overflow_cast-i-in-Some : goal.put_entries-overflow_cast-i-in-Some
put_entries-overflow_cast-i-in-Some g t c = let few = entries_few vdb c.args.level standard_bits in let h = c.in-Some.ensures.within in omega (arith, few, h)

pub put_entries-overflow_add-from : goal.put_entries-overflow_add-from
put_entries-overflow_add-from g t c = let few = entries_few vdb c.args.level standard_bits in let h = c.in-Some.ensures.within in omega (arith, few, h)

pub put_entries-loop-i-preserved : goal.put_entries-loop-i-preserved
put_entries-loop-i-preserved g t c =
    let p = c.args.p in
    let level = c.args.level in
    let eq = g.V.PartialEq.eq in
    let bytes = g.V.Voxel.bytes_of in
    let f = field_of vdb c.args.tree.now in
    let body = level_body eq bytes vdb c.args.below f in
    let corner : c.min-corner.result ≡ (around vdb p level c.in-Some.i).min = c.min-corner.ensures.corner ∙ ap (λ (b : Box). b.min) c.entry_block_in.ensures in
    let box = ap (block_around vdb c.args.below) corner ∙ entry_block vdb p level c.args.below c.requires.levels c.in-Some.i c.in-Some.ensures.within in
    record {
      within = let h = c.in-Some.ensures.within in omega (arith, h);
      puts = listed_put eq bytes vdb f body level p _ _ _ c.loop-i.from c.in-Some.i c.in-Some.ensures c.loop-i.invariant.puts
          (subst (λ (b : Box). Puts (sent g.row.C c.loop-i.out (g.W.Write.contents (source c.loop-i.writer))) (sent g.row.C c.put_entry.new.out (g.W.Write.contents (source c.put_entry.new.writer))) (to_be_bytes w16 c.in-Some.i ++ body b)) box c.in_ok-put_entry.ensures.puts);
      failed = search rules;
    }

pub put_entries-returns-clause-puts : goal.put_entries-returns-clause-puts
put_entries-returns-clause-puts g t c =
    let f = field_of vdb c.args.tree.now in
    let eq = g.V.PartialEq.eq in
    let bytes = g.V.Voxel.bytes_of in
    all_put eq bytes vdb f (level_body eq bytes vdb c.args.below f) c.args.level c.args.p _ _ c.loop-i.from c.loop-i.invariant.within c.in_default.ensures c.loop-i.invariant.puts
