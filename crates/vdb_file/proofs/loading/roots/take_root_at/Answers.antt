use Rattle.vdb_file.proofs.Common.{◌∙◌, ap, subst, on_ok_weaker, block, block_around, vdb, Box, Upper, number_of_corner, field_of, root_body, KeptOutside, ShowsIn, Reads, ahead}
use Rattle.vdb_file.proofs.loading.roots.take_root_at.Goals as goal

pub returns-clause-reads : goal.returns-clause-reads
returns-clause-reads g c =
    let corner = c.root_corner-corner.ensures in
    let at = ap (block_around vdb Upper) corner ∙ ap (block vdb Upper) (number_of_corner vdb Upper c.args.key) in
    let old = ahead c.args.input.now (g.S.Source.state c.args.reader.now) in
    let new = ahead c.take_block.new.input (g.S.Source.state c.take_block.new.reader) in
    subst
    (λ (b : Box). Reads (λ _. field_of vdb c.take_block.new.tree) (ShowsIn g.V.PartialEq.eq g.V.Voxel.is_value c.args.tree.now.background b) (λ f. root_body g.V.PartialEq.eq g.V.Voxel.bytes_of vdb f b) c.take_block.result old new)
    at c.take_block.ensures.reads

pub returns-clause-kept : goal.returns-clause-kept
returns-clause-kept g c =
    let corner = c.root_corner-corner.ensures in
    let at = ap (block_around vdb Upper) corner ∙ ap (block vdb Upper) (number_of_corner vdb Upper c.args.key) in
    on_ok_weaker c.take_block.result (λ k. subst (λ (b : Box). KeptOutside b (field_of vdb c.args.tree.now) (field_of vdb c.take_block.new.tree)) at k) c.take_block.ensures.kept
