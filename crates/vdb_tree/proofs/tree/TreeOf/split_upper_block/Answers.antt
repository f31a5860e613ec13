use Rattle.vdb_tree.proofs.Common.{◌≢◌, ◌∙◌, ap, refl, subst, sym, key, Upper, Tile, Layout, bits_of, root_at, IsCut, MakesOnly}
use Rattle.vdb_tree.proofs.Blocks.{never}
use Rattle.vdb_tree.proofs.Covered.{covered_by_block}
use Rattle.vdb_tree.proofs.Descents.{entry_at, root_by_block}
use Rattle.vdb_tree.proofs.MadeNodes.{cut_made, keys_but, makes_none, makes_twice}
use Rattle.vdb_tree.proofs.Passes.{root_entry_same}
use Rattle.vdb_tree.proofs.SplitTiles.{on_ok, split_child, split_tiled, split_within}
use Rattle.vdb_tree.proofs.Splits.{adds_twice, keeps_twice}
use Rattle.vdb_tree.proofs.Uniform.{cell_exact, cell_same, exact_by}
use Rattle.vdb_tree.proofs.tree.TreeOf.split_upper_block.Goals as goal
use Rattle.vdb_tree.proofs.tree.TreeOf.split_upper_block.Goals.{in-Tile+else-eq, in_default}

pub returns-then-is_covered-clause-edges : goal.returns-then-is_covered-clause-edges
returns-then-is_covered-clause-edges g c = λ q _ same.
    let bits = bits_of g.row.U g.row.L g.row.F in
    split_within bits c.args.bounds c.args.cell Upper c.args.self.now q (covered_by_block bits c.args.bounds Upper c.args.p q same (c.is_covered.ensures.0 c.if-is_covered.true))

pub returns-then-eq-clause-edges : goal.returns-then-eq-clause-edges
returns-then-eq-clause-edges g c = λ q _ same.
    let bits = bits_of g.row.U g.row.L g.row.F in
    let exact = exact_by g.V.PartialEq.eq g.V.Ord.cmp g.met.V.Ord.matches_eq g.met.V.Voxel.exact in
    let is = cell_exact g.V.PartialEq.eq exact g.met.V.Eq.laws.refl c.in-Tile.tile c.args.cell (sym c.eq.ensures ∙ c.if-eq.true) in
    split_tiled bits c.args.bounds c.args.cell Upper c.args.self.now q (root_by_block bits c.args.self.now q c.args.p same ∙ entry_at bits c.args.self.now c.args.p c.args.entry c.requires.entered ∙ c.in-Tile.is ∙ ap Tile is)

pub returns-clause-keeps : goal.returns-clause-keeps
returns-clause-keeps g c =
    keeps_twice (bits_of g.row.U g.row.L g.row.F) c.args.self.now c.upper_of.new.self c.split_lower_blocks.new.self c.in_ok-upper.ensures.keeps c.split_lower_blocks.ensures.keeps

pub returns-clause-adds : goal.returns-clause-adds
returns-clause-adds g c =
    adds_twice (bits_of g.row.U g.row.L g.row.F) c.args.self.now c.upper_of.new.self c.split_lower_blocks.new.self c.in_ok-upper.ensures.adds c.split_lower_blocks.ensures.adds

pub returns-clause-edges : goal.returns-clause-edges
returns-clause-edges g c =
    let bits = bits_of g.row.U g.row.L g.row.F in
    let new = c.split_lower_blocks.new.self in
    on_ok c.split_lower_blocks.result c.split_lower_blocks.ensures.edges (λ edges q inside same.
    let child = root_by_block bits new q c.args.p same ∙ root_entry_same bits c.upper_of.new.self new c.split_lower_blocks.ensures.keeps.head c.split_lower_blocks.ensures.root c.args.p ∙ c.in_ok-upper.ensures.ok in
    let below = edges q (c.part-part.ensures.all q inside same) in
    (below.0, below.1, split_child bits c.args.bounds c.args.cell Upper new q _ child))

pub returns-clause-table : goal.returns-clause-table
returns-clause-table g c = λ k d.
    (λ i. root_at (c.split_lower_blocks.ensures.root i) k) ∙ c.in_ok-upper.ensures.table k d

pub returns-in_err-upper-clause-made : goal.returns-in_err-upper-clause-made
returns-in_err-upper-clause-made g c =
    let bits = bits_of g.row.U g.row.L g.row.F in
    let exact = exact_by g.V.PartialEq.eq g.V.Ord.cmp g.met.V.Ord.matches_eq g.met.V.Voxel.exact in
    let old = c.args.self.now in
    let mid = c.upper_of.new.self in
    let kept : MakesOnly bits (IsCut bits c.args.bounds c.args.cell) old mid = elim c.match-entry.branch [
      | in-Tile+else-eq w ↦
          let other : w.in-Tile.tile ≢ c.args.cell = λ is. never w.if-eq.false (w.eq.ensures ∙ cell_same g.V.PartialEq.eq exact g.met.V.Eq.laws.refl w.in-Tile.tile c.args.cell is) in
          cut_made bits c.args.bounds c.args.cell Upper old mid c.args.p w.in-Tile.tile c.requires.inside (λ covered. never c.if-is_covered.false (c.is_covered.ensures.1 covered))
          (entry_at bits old c.args.p c.args.entry c.requires.entered ∙ w.in-Tile.is) other c.in_err-upper.ensures.but
      | in_default w ↦
          let same = c.in_err-upper.ensures.there _ w.in_default.is in
          subst (λ (t : Layout g.row.V.Denot). MakesOnly bits (IsCut bits c.args.bounds c.args.cell) old t) (sym same) (makes_none bits (IsCut bits c.args.bounds c.args.cell) old old (λ q level. refl))
    ] in
    kept

pub returns-clause-made : goal.returns-clause-made
returns-clause-made g c =
    let bits = bits_of g.row.U g.row.L g.row.F in
    let exact = exact_by g.V.PartialEq.eq g.V.Ord.cmp g.met.V.Ord.matches_eq g.met.V.Voxel.exact in
    let old = c.args.self.now in
    let mid = c.upper_of.new.self in
    let kept : MakesOnly bits (IsCut bits c.args.bounds c.args.cell) old mid = elim c.match-entry.branch [
      | in-Tile+else-eq w ↦
          let other : w.in-Tile.tile ≢ c.args.cell = λ is. never w.if-eq.false (w.eq.ensures ∙ cell_same g.V.PartialEq.eq exact g.met.V.Eq.laws.refl w.in-Tile.tile c.args.cell is) in
          cut_made bits c.args.bounds c.args.cell Upper old mid c.args.p w.in-Tile.tile c.requires.inside (λ covered. never c.if-is_covered.false (c.is_covered.ensures.1 covered))
          (entry_at bits old c.args.p c.args.entry c.requires.entered ∙ w.in-Tile.is) other c.in_ok-upper.ensures.but
      | in_default w ↦
          let same = c.in_ok-upper.ensures.there _ w.in_default.is in
          subst (λ (t : Layout g.row.V.Denot). MakesOnly bits (IsCut bits c.args.bounds c.args.cell) old t) (sym same) (makes_none bits (IsCut bits c.args.bounds c.args.cell) old old (λ q level. refl))
    ] in
    makes_twice bits (IsCut bits c.args.bounds c.args.cell) old mid c.split_lower_blocks.new.self c.in_ok-upper.ensures.keeps kept c.split_lower_blocks.ensures.made

pub returns-in_err-upper-clause-keys : goal.returns-in_err-upper-clause-keys
returns-in_err-upper-clause-keys g c = keys_but c.args.self.now c.upper_of.new.self (key (bits_of g.row.U g.row.L g.row.F) c.args.p) (rw c.requires.entered refl) c.in_err-upper.ensures.table

pub returns-clause-keys : goal.returns-clause-keys
returns-clause-keys g c =
    keys_but c.args.self.now c.split_lower_blocks.new.self (key (bits_of g.row.U g.row.L g.row.F) c.args.p) (rw c.requires.entered refl) (λ k d. (λ i. root_at (c.split_lower_blocks.ensures.root i) k) ∙ c.in_ok-upper.ensures.table k d)
