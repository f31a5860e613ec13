use Rattle.vdb_tree.proofs.Common.{◌∙◌, bits_of, background_cell, IsCut}
use Rattle.vdb_tree.proofs.Equations.{keeps_field}
use Rattle.vdb_tree.proofs.MadeNodes.{keys_in_none, keys_in_twice, keys_twice, makes_twice, no_node_makes}
use Rattle.vdb_tree.proofs.Splits.{adds_twice}
use Rattle.vdb_tree.proofs.SplitTiles.{box_stays, on_ok, split_whole}
use Rattle.vdb_tree.proofs.Capacities.{obeys_within}
use Rattle.vdb_tree.proofs.tree.TreeOf.split.Goals as goal

pub returns-in_err-enter_box-clause-field : goal.returns-in_err-enter_box-clause-field
returns-in_err-enter_box-clause-field g c = keeps_field (bits_of g.row.U g.row.L g.row.F) c.args.self.now c.enter_box.new.self c.in_err-enter_box.ensures.keeps

pub returns-in_err-enter_box-clause-kept : goal.returns-in_err-enter_box-clause-kept
returns-in_err-enter_box-clause-kept g c = c.in_err-enter_box.ensures.keeps.head.limit

pub returns-in_err-enter_box-clause-edges : goal.returns-in_err-enter_box-clause-edges
returns-in_err-enter_box-clause-edges g c = c.in_err-enter_box.ensures.edges

pub returns-clause-field : goal.returns-clause-field
returns-clause-field g c =
    let bits = bits_of g.row.U g.row.L g.row.F in
    keeps_field bits c.enter_box.new.self c.split_root_blocks.new.self c.split_root_blocks.ensures.keeps ∙ keeps_field bits c.args.self.now c.enter_box.new.self c.in_ok-enter_box.ensures.keeps

pub returns-clause-kept : goal.returns-clause-kept
returns-clause-kept g c = c.split_root_blocks.ensures.keeps.head.limit ∙ c.in_ok-enter_box.ensures.keeps.head.limit

pub returns-clause-limit : goal.returns-clause-limit
returns-clause-limit g c =
    obeys_within g.V.PartialEq.eq (bits_of g.row.U g.row.L g.row.F) c.args.self.now.limit _ c.split_root_blocks.result c.split_root_blocks.ensures.memory c.in_ok-enter_box.ensures.limit

pub returns-clause-background_cell : goal.returns-clause-background_cell
returns-clause-background_cell g c = λ same. c.split_root_blocks.ensures.memory

pub returns-clause-edges : goal.returns-clause-edges
returns-clause-edges g c = λ box was.
    box_stays (bits_of g.row.U g.row.L g.row.F) box (background_cell c.args.self.now) c.enter_box.new.self c.split_root_blocks.new.self c.split_root_blocks.ensures.keeps c.split_root_blocks.ensures.adds
    (c.in_ok-enter_box.ensures.edges box was)

pub returns-in_err-enter_box-clause-made : goal.returns-in_err-enter_box-clause-made
returns-in_err-enter_box-clause-made g c =
    let bits = bits_of g.row.U g.row.L g.row.F in
    no_node_makes bits (IsCut bits c.args.bounds c.args.cell) c.args.self.now c.enter_box.new.self c.in_err-enter_box.ensures.nodes

pub returns-clause-made : goal.returns-clause-made
returns-clause-made g c =
    let bits = bits_of g.row.U g.row.L g.row.F in
    makes_twice bits (IsCut bits c.args.bounds c.args.cell) c.args.self.now c.enter_box.new.self c.split_root_blocks.new.self c.in_ok-enter_box.ensures.keeps
    (no_node_makes bits (IsCut bits c.args.bounds c.args.cell) c.args.self.now c.enter_box.new.self c.in_ok-enter_box.ensures.nodes) c.split_root_blocks.ensures.made

pub returns-clause-keys : goal.returns-clause-keys
returns-clause-keys g c =
    let bits = bits_of g.row.U g.row.L g.row.F in
    keys_in_twice bits c.args.bounds c.args.self.now c.enter_box.new.self c.split_root_blocks.new.self c.in_ok-enter_box.ensures.keys
    (keys_in_none bits c.args.bounds c.enter_box.new.self c.split_root_blocks.new.self c.split_root_blocks.ensures.keys)

pub returns-clause-no_keys : goal.returns-clause-no_keys
returns-clause-no_keys g c = λ same. keys_twice c.args.self.now c.enter_box.new.self c.split_root_blocks.new.self (c.in_ok-enter_box.ensures.no_keys same) c.split_root_blocks.ensures.keys

pub returns-clause-adds : goal.returns-clause-adds
returns-clause-adds g c = λ h. adds_twice (bits_of g.row.U g.row.L g.row.F) c.args.self.now c.enter_box.new.self c.split_root_blocks.new.self (c.in_ok-enter_box.ensures.adds h) c.split_root_blocks.ensures.adds

pub returns-clause-done : goal.returns-clause-done
returns-clause-done g c =
    on_ok c.split_root_blocks.result c.split_root_blocks.ensures.edges (λ edges.
    split_whole (bits_of g.row.U g.row.L g.row.F) c.args.bounds c.args.cell c.enter_box.new.self c.split_root_blocks.new.self c.split_root_blocks.ensures.keeps c.split_root_blocks.ensures.adds c.in_ok-enter_box.ensures.entered edges)
