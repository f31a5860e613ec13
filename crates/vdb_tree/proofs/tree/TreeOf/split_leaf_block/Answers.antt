use Rattle.vdb_tree.proofs.Common.{◌≢◌, ◌∙◌, ap, sym, Leaf, Tile, bits_of}
use Rattle.vdb_tree.proofs.Descents.{lower_by_block}
use Rattle.vdb_tree.proofs.Blocks.{never}
use Rattle.vdb_tree.proofs.MadeNodes.{cut_made}
use Rattle.vdb_tree.proofs.SplitTiles.{split_child, split_tiled}
use Rattle.vdb_tree.proofs.Uniform.{cell_exact, cell_same, exact_by}
use Rattle.vdb_tree.proofs.tree.TreeOf.split_leaf_block.Goals as goal

pub returns-then-eq-clause-edges : goal.returns-then-eq-clause-edges
returns-then-eq-clause-edges g c = λ q same.
    let bits = bits_of g.row.U g.row.L g.row.F in
    let exact = exact_by g.V.PartialEq.eq g.V.Ord.cmp g.met.V.Ord.matches_eq g.met.V.Voxel.exact in
    let is = cell_exact g.V.PartialEq.eq exact g.met.V.Eq.laws.refl c.in-Tile.tile c.args.cell (sym c.eq.ensures ∙ c.if-eq.true) in
    split_tiled bits c.args.bounds c.args.cell Leaf c.args.self.now q (lower_by_block bits c.args.self.now q c.args.p same ∙ c.lower_entry.ensures.value ∙ c.in-Tile.is ∙ ap Tile is)

pub returns-in-Child-clause-edges : goal.returns-in-Child-clause-edges
returns-in-Child-clause-edges g c = λ q same.
    let bits = bits_of g.row.U g.row.L g.row.F in
    split_child bits c.args.bounds c.args.cell Leaf c.args.self.now q _ (lower_by_block bits c.args.self.now q c.args.p same ∙ c.lower_entry.ensures.value ∙ c.in-Child.is)

pub returns-in_ok-split_lower-in-Tile-clause-edges : goal.returns-in_ok-split_lower-in-Tile-clause-edges
returns-in_ok-split_lower-in-Tile-clause-edges g c = λ q same.
    let bits = bits_of g.row.U g.row.L g.row.F in
    split_child bits c.args.bounds c.args.cell Leaf c.split_lower.new.self q _ (lower_by_block bits c.split_lower.new.self q c.args.p same ∙ c.in_ok-split_lower-in-Tile.ensures.ok)

pub returns-in_err-split_lower-in-Tile-clause-made : goal.returns-in_err-split_lower-in-Tile-clause-made
returns-in_err-split_lower-in-Tile-clause-made g c = λ inside.
    let exact = exact_by g.V.PartialEq.eq g.V.Ord.cmp g.met.V.Ord.matches_eq g.met.V.Voxel.exact in
    let other : c.in-Tile.tile ≢ c.args.cell = λ is. never c.if-eq.false (c.eq.ensures ∙ cell_same g.V.PartialEq.eq exact g.met.V.Eq.laws.refl c.in-Tile.tile c.args.cell is) in
    cut_made (bits_of g.row.U g.row.L g.row.F) c.args.bounds c.args.cell Leaf c.args.self.now c.split_lower.new.self c.args.p c.in-Tile.tile inside (λ covered. never c.if-is_covered.false (c.is_covered.ensures.1 covered))
    (c.lower_entry.ensures.value ∙ c.in-Tile.is) other c.in_err-split_lower-in-Tile.ensures.but

pub returns-in_ok-split_lower-in-Tile-clause-made : goal.returns-in_ok-split_lower-in-Tile-clause-made
returns-in_ok-split_lower-in-Tile-clause-made g c = λ inside.
    let exact = exact_by g.V.PartialEq.eq g.V.Ord.cmp g.met.V.Ord.matches_eq g.met.V.Voxel.exact in
    let other : c.in-Tile.tile ≢ c.args.cell = λ is. never c.if-eq.false (c.eq.ensures ∙ cell_same g.V.PartialEq.eq exact g.met.V.Eq.laws.refl c.in-Tile.tile c.args.cell is) in
    cut_made (bits_of g.row.U g.row.L g.row.F) c.args.bounds c.args.cell Leaf c.args.self.now c.split_lower.new.self c.args.p c.in-Tile.tile inside (λ covered. never c.if-is_covered.false (c.is_covered.ensures.1 covered))
    (c.lower_entry.ensures.value ∙ c.in-Tile.is) other c.in_ok-split_lower-in-Tile.ensures.but
