use Rattle.vdb_tree.proofs.Common.{◌∙◌, rules, sym, Leaf, block_in_range, fits_everywhere, bits_of, cell_at}
use Rattle.vdb_tree.proofs.Fields.{cell_inside}
use Rattle.vdb_tree.proofs.PartWalks.{part_is}
use Rattle.vdb_tree.proofs.PieceCells.{tile_block}
use Rattle.vdb_tree.proofs.tree.TreeOf.part_around.Goals as goal

pub returns-in-Leaf-clause-bounds : goal.returns-in-Leaf-clause-bounds
returns-in-Leaf-clause-bounds g c =
    let end = rw c.in-Leaf.is at c.requires.end in
    part_is (bits_of g.row.U g.row.L g.row.F) c.args.self.now c.args.bounds c.part-bounds.result Leaf c.args.p end.0 c.part-bounds.ensures.within c.part-bounds.ensures.all

pub returns-in-Leaf-clause-leaf : goal.returns-in-Leaf-clause-leaf
returns-in-Leaf-clause-leaf g c =
    let bits = bits_of g.row.U g.row.L g.row.F in
    let here = fits_everywhere c.args.p (search rules) (search rules) (search rules) in
    record {
      block = λ q r i j. (c.part-bounds.ensures.within q i).1 ∙ sym (c.part-bounds.ensures.within r j).1;
      cells = λ q i.
          let e = (c.part-bounds.ensures.within q i).1 in
          c.held_leaf-leaf.ensures.leaf q (block_in_range bits Leaf c.self.invariant.0.bits c.args.p q here e) e;
    }

pub returns-else-is_skipped-clause-bounds : goal.returns-else-is_skipped-clause-bounds
returns-else-is_skipped-clause-bounds g c =
    let end = rw c.in-Tile.is at c.requires.end in
    part_is (bits_of g.row.U g.row.L g.row.F) c.args.self.now c.args.bounds c.part-bounds-in-Tile.result c.in-Tile.level c.args.p end.0 c.part-bounds-in-Tile.ensures.within c.part-bounds-in-Tile.ensures.all

pub returns-else-is_skipped-clause-tile : goal.returns-else-is_skipped-clause-tile
returns-else-is_skipped-clause-tile g c = λ q i.
    let bits = bits_of g.row.U g.row.L g.row.F in
    let t = c.args.self.now in
    let here = fits_everywhere c.args.p (search rules) (search rules) (search rules) in
    let end = rw c.in-Tile.is at c.requires.end in
    let e = (c.part-bounds-in-Tile.ensures.within q i).1 in
    cell_inside t.background (cell_at bits t) q (block_in_range bits c.in-Tile.level c.self.invariant.0.bits c.args.p q here e) ∙ tile_block bits t c.in-Tile.level c.args.p q c.in-Tile.cell end.1 e
