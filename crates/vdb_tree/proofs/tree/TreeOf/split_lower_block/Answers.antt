use Rattle.vdb_tree.proofs.Common.{◌≢◌, ◌∙◌, ap, refl, subst, sym, Lower, Tile, Layout, bits_of, IsCut, MakesOnly}
use Rattle.vdb_tree.proofs.Blocks.{never}
use Rattle.vdb_tree.proofs.Covered.{covered_by_block}
use Rattle.vdb_tree.proofs.Descents.{upper_by_block}
use Rattle.vdb_tree.proofs.MadeNodes.{cut_made, makes_none, makes_twice}
use Rattle.vdb_tree.proofs.Passes.{upper_entry_same}
use Rattle.vdb_tree.proofs.SplitTiles.{on_ok, split_child, split_tiled, split_within}
use Rattle.vdb_tree.proofs.Splits.{adds_twice, keeps_twice}
use Rattle.vdb_tree.proofs.Uniform.{cell_exact, cell_same, exact_by}
use Rattle.vdb_tree.proofs.tree.TreeOf.split_lower_block.Goals as goal
use Rattle.vdb_tree.proofs.tree.TreeOf.split_lower_block.Goals.{in-Tile+else-eq, in_default}

pub returns-then-is_covered-clause-edges : goal.returns-then-is_covered-clause-edges
returns-then-is_covered-clause-edges g c = λ q _ same.
    let bits = bits_of g.row.U g.row.L g.row.F in
    split_within bits c.args.bounds c.args.cell Lower c.args.self.now q (covered_by_block bits c.args.bounds Lower c.args.p q same (c.is_covered.ensures.0 c.if-is_covered.true))

pub returns-then-eq-clause-edges : goal.returns-then-eq-clause-edges
returns-then-eq-clause-edges g c = λ q _ same.
    let bits = bits_of g.row.U g.row.L g.row.F in
    let exact = exact_by g.V.PartialEq.eq g.V.Ord.cmp g.met.V.Ord.matches_eq g.met.V.Voxel.exact in
    let is = cell_exact g.V.PartialEq.eq exact g.met.V.Eq.laws.refl c.in-Tile.tile c.args.cell (sym c.eq.ensures ∙ c.if-eq.true) in
    split_tiled bits c.args.bounds c.args.cell Lower c.args.self.now q (upper_by_block bits c.args.self.now q c.args.p same ∙ c.upper_entry.ensures.value ∙ c.in-Tile.is ∙ ap Tile is)

pub returns-clause-keeps : goal.returns-clause-keeps
returns-clause-keeps g c =
    keeps_twice (bits_of g.row.U g.row.L g.row.F) c.args.self.now c.lower_in.new.self c.split_leaf_blocks.new.self c.in_ok-lower.ensures.keeps c.split_leaf_blocks.ensures.keeps

pub returns-clause-adds : goal.returns-clause-adds
returns-clause-adds g c =
    adds_twice (bits_of g.row.U g.row.L g.row.F) c.args.self.now c.lower_in.new.self c.split_leaf_blocks.new.self c.in_ok-lower.ensures.adds c.split_leaf_blocks.ensures.adds

pub returns-clause-edges : goal.returns-clause-edges
returns-clause-edges g c =
    let bits = bits_of g.row.U g.row.L g.row.F in
    let new = c.split_leaf_blocks.new.self in
    on_ok c.split_leaf_blocks.result c.split_leaf_blocks.ensures.edges (λ edges q inside same.
    let child = upper_by_block bits new q c.args.p same ∙ upper_entry_same bits c.lower_in.new.self new c.split_leaf_blocks.ensures.above c.args.p ∙ c.in_ok-lower.ensures.ok in
    (edges q (c.part-part.ensures.all q inside same), split_child bits c.args.bounds c.args.cell Lower new q _ child))

pub returns-in_err-lower-clause-made : goal.returns-in_err-lower-clause-made
returns-in_err-lower-clause-made g c =
    let bits = bits_of g.row.U g.row.L g.row.F in
    let exact = exact_by g.V.PartialEq.eq g.V.Ord.cmp g.met.V.Ord.matches_eq g.met.V.Voxel.exact in
    let old = c.args.self.now in
    let mid = c.lower_in.new.self in
    let kept : MakesOnly bits (IsCut bits c.args.bounds c.args.cell) old mid = elim c.match-upper_entry.branch [
      | in-Tile+else-eq w ↦
          let other : w.in-Tile.tile ≢ c.args.cell = λ is. never w.if-eq.false (w.eq.ensures ∙ cell_same g.V.PartialEq.eq exact g.met.V.Eq.laws.refl w.in-Tile.tile c.args.cell is) in
          cut_made bits c.args.bounds c.args.cell Lower old mid c.args.p w.in-Tile.tile c.requires.inside (λ covered. never c.if-is_covered.false (c.is_covered.ensures.1 covered))
          (c.upper_entry.ensures.value ∙ w.in-Tile.is) other c.in_err-lower.ensures.but
      | in_default w ↦
          let same = (c.in_err-lower.ensures.there _ (c.upper_entry.ensures.value ∙ w.in_default.is)).1 in
          subst (λ (t : Layout g.row.V.Denot). MakesOnly bits (IsCut bits c.args.bounds c.args.cell) old t) (sym same) (makes_none bits (IsCut bits c.args.bounds c.args.cell) old old (λ q level. refl))
    ] in
    kept

pub returns-clause-made : goal.returns-clause-made
returns-clause-made g c =
    let bits = bits_of g.row.U g.row.L g.row.F in
    let exact = exact_by g.V.PartialEq.eq g.V.Ord.cmp g.met.V.Ord.matches_eq g.met.V.Voxel.exact in
    let old = c.args.self.now in
    let mid = c.lower_in.new.self in
    let kept : MakesOnly bits (IsCut bits c.args.bounds c.args.cell) old mid = elim c.match-upper_entry.branch [
      | in-Tile+else-eq w ↦
          let other : w.in-Tile.tile ≢ c.args.cell = λ is. never w.if-eq.false (w.eq.ensures ∙ cell_same g.V.PartialEq.eq exact g.met.V.Eq.laws.refl w.in-Tile.tile c.args.cell is) in
          cut_made bits c.args.bounds c.args.cell Lower old mid c.args.p w.in-Tile.tile c.requires.inside (λ covered. never c.if-is_covered.false (c.is_covered.ensures.1 covered))
          (c.upper_entry.ensures.value ∙ w.in-Tile.is) other c.in_ok-lower.ensures.but
      | in_default w ↦
          let same = (c.in_ok-lower.ensures.there _ (c.upper_entry.ensures.value ∙ w.in_default.is)).1 in
          subst (λ (t : Layout g.row.V.Denot). MakesOnly bits (IsCut bits c.args.bounds c.args.cell) old t) (sym same) (makes_none bits (IsCut bits c.args.bounds c.args.cell) old old (λ q level. refl))
    ] in
    makes_twice bits (IsCut bits c.args.bounds c.args.cell) old mid c.split_leaf_blocks.new.self c.in_ok-lower.ensures.keeps kept c.split_leaf_blocks.ensures.made
