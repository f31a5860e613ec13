use Rattle.vdb_tree.proofs.Common.{◌∙◌, ap, sym, Lower, Upper, Keeps, bits_of, lower_entry, with_leaf}
use Rattle.vdb_tree.proofs.Equations.{keeps_field}
use Rattle.vdb_tree.proofs.Levels.{tile_no_child}
use Rattle.vdb_tree.proofs.MadeNodes.{but_elsewhere, elsewhere_same, elsewhere_twice}
use Rattle.vdb_tree.proofs.Needed.{child_of}
use Rattle.vdb_tree.proofs.SplitTiles.{on_ok}
use Rattle.vdb_tree.proofs.Splits.{adds_leaves, keeps_twice}
use Rattle.vdb_tree.proofs.tree.TreeOf.put_leaf.Goals as goal

pub returns-in-Child-clause-field : goal.returns-in-Child-clause-field
returns-in-Child-clause-field g c =
    let bits = bits_of g.row.U g.row.L g.row.F in
    let t = c.args.self.now in
    let keeps = keeps_twice bits t c.upper_around.new.self c.lower_in.new.self c.in_ok-upper.ensures.keeps c.in_ok-lower.ensures.keeps in
    c.copy_leaf.ensures.field ∙ ap (with_leaf bits c.args.p c.args.leaf.now) (keeps_field bits t c.lower_in.new.self keeps)

pub returns-in-Tile-clause-field : goal.returns-in-Tile-clause-field
returns-in-Tile-clause-field g c =
    let bits = bits_of g.row.U g.row.L g.row.F in
    let t = c.args.self.now in
    let keeps = keeps_twice bits t c.upper_around.new.self c.lower_in.new.self c.in_ok-upper.ensures.keeps c.in_ok-lower.ensures.keeps in
    on_ok c.add_leaf.result c.add_leaf.ensures.field (λ e. e ∙ ap (with_leaf bits c.args.p c.args.leaf.now) (keeps_field bits t c.lower_in.new.self keeps))

pub returns-in-Tile-clause-kept : goal.returns-in-Tile-clause-kept
returns-in-Tile-clause-kept g c = λ failed.
    let bits = bits_of g.row.U g.row.L g.row.F in
    let t = c.args.self.now in
    let mid = c.lower_in.new.self in
    let keeps : Keeps bits t mid = keeps_twice bits t c.upper_around.new.self mid c.in_ok-upper.ensures.keeps c.in_ok-lower.ensures.keeps in
    keeps_twice bits t mid c.add_leaf.new.self keeps (c.add_leaf.ensures.kept failed)

pub returns-in-Tile-clause-there : goal.returns-in-Tile-clause-there
returns-in-Tile-clause-there g c = λ leaf.
    let bits = bits_of g.row.U g.row.L g.row.F in
    let mid = c.lower_in.new.self in
    let still = adds_leaves bits c.upper_around.new.self mid c.in_ok-lower.ensures.adds c.args.p (adds_leaves bits c.args.self.now c.upper_around.new.self c.in_ok-upper.ensures.adds c.args.p leaf) in
    let child = child_of (lower_entry bits mid c.args.p) still in
    absurd (tile_no_child _ child.0 (sym c.in-Tile.ensures.value ∙ child.1))

pub returns-in_err-upper-clause-elsewhere : goal.returns-in_err-upper-clause-elsewhere
returns-in_err-upper-clause-elsewhere g c =
    but_elsewhere (bits_of g.row.U g.row.L g.row.F) Upper c.args.self.now c.upper_around.new.self c.args.p c.in_err-upper.ensures.but

pub returns-in_err-lower-clause-elsewhere : goal.returns-in_err-lower-clause-elsewhere
returns-in_err-lower-clause-elsewhere g c =
    let bits = bits_of g.row.U g.row.L g.row.F in
    let at = c.upper_around.new.self in
    elsewhere_twice bits c.args.self.now at c.lower_in.new.self c.args.p
    (but_elsewhere bits Upper c.args.self.now at c.args.p c.in_ok-upper.ensures.but) (but_elsewhere bits Lower at c.lower_in.new.self c.args.p c.in_err-lower.ensures.but)

pub returns-in-Child-clause-elsewhere : goal.returns-in-Child-clause-elsewhere
returns-in-Child-clause-elsewhere g c =
    let bits = bits_of g.row.U g.row.L g.row.F in
    let at = c.upper_around.new.self in
    let mid = c.lower_in.new.self in
    elsewhere_twice bits c.args.self.now mid c.copy_leaf.new.self c.args.p
    (elsewhere_twice bits c.args.self.now at mid c.args.p
    (but_elsewhere bits Upper c.args.self.now at c.args.p c.in_ok-upper.ensures.but) (but_elsewhere bits Lower at mid c.args.p c.in_ok-lower.ensures.but))
    (elsewhere_same bits mid c.copy_leaf.new.self c.args.p c.copy_leaf.ensures.same)

pub returns-in-Tile-clause-elsewhere : goal.returns-in-Tile-clause-elsewhere
returns-in-Tile-clause-elsewhere g c =
    let bits = bits_of g.row.U g.row.L g.row.F in
    let at = c.upper_around.new.self in
    let mid = c.lower_in.new.self in
    elsewhere_twice bits c.args.self.now mid c.add_leaf.new.self c.args.p
    (elsewhere_twice bits c.args.self.now at mid c.args.p
    (but_elsewhere bits Upper c.args.self.now at c.args.p c.in_ok-upper.ensures.but) (but_elsewhere bits Lower at mid c.args.p c.in_ok-lower.ensures.but))
    c.add_leaf.ensures.elsewhere
