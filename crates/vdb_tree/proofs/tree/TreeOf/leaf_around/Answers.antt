use Rattle.vdb_tree.proofs.Common.{◌∙◌, refl, Leaf, Lower, Upper, bits_of, lower_entry, root_at}
use Rattle.vdb_tree.proofs.MadeNodes.{but_elsewhere, elsewhere_twice}
use Rattle.vdb_tree.proofs.Needed.{child_of}
use Rattle.vdb_tree.proofs.Splits.{adds_leaves, adds_twice, keeps_twice}
use Rattle.vdb_tree.proofs.tree.TreeOf.leaf_around.Goals as goal

pub returns-in_err-lower-clause-adds : goal.returns-in_err-lower-clause-adds
returns-in_err-lower-clause-adds g c =
    adds_twice (bits_of g.row.U g.row.L g.row.F) c.args.self.now c.upper_around.new.self c.lower_in.new.self c.in_ok-upper.ensures.adds c.in_err-lower.ensures.adds

pub returns-clause-keeps : goal.returns-clause-keeps
returns-clause-keeps g c =
    let bits = bits_of g.row.U g.row.L g.row.F in
    keeps_twice bits c.args.self.now c.lower_in.new.self c.leaf_in.new.self
    (keeps_twice bits c.args.self.now c.upper_around.new.self c.lower_in.new.self c.in_ok-upper.ensures.keeps c.in_ok-lower.ensures.keeps)
    c.leaf_in.ensures.keeps

pub returns-clause-adds : goal.returns-clause-adds
returns-clause-adds g c =
    let bits = bits_of g.row.U g.row.L g.row.F in
    adds_twice bits c.args.self.now c.lower_in.new.self c.leaf_in.new.self
    (adds_twice bits c.args.self.now c.upper_around.new.self c.lower_in.new.self c.in_ok-upper.ensures.adds c.in_ok-lower.ensures.adds)
    c.leaf_in.ensures.adds

pub returns-clause-there : goal.returns-clause-there
returns-clause-there g c = λ leaf.
    let bits = bits_of g.row.U g.row.L g.row.F in
    let mid = c.lower_in.new.self in
    let still = adds_leaves bits c.upper_around.new.self mid c.in_ok-lower.ensures.adds c.args.p (adds_leaves bits c.args.self.now c.upper_around.new.self c.in_ok-upper.ensures.adds c.args.p leaf) in
    let child = child_of (lower_entry bits mid c.args.p) still in
    let is = (c.leaf_in.ensures.there child.0 child.1).0 in
    rw is refl

pub returns-in_err-upper-clause-elsewhere : goal.returns-in_err-upper-clause-elsewhere
returns-in_err-upper-clause-elsewhere g c =
    but_elsewhere (bits_of g.row.U g.row.L g.row.F) Upper c.args.self.now c.upper_around.new.self c.args.p c.in_err-upper.ensures.but

pub returns-in_err-lower-clause-elsewhere : goal.returns-in_err-lower-clause-elsewhere
returns-in_err-lower-clause-elsewhere g c =
    let bits = bits_of g.row.U g.row.L g.row.F in
    let at = c.upper_around.new.self in
    elsewhere_twice bits c.args.self.now at c.lower_in.new.self c.args.p
    (but_elsewhere bits Upper c.args.self.now at c.args.p c.in_ok-upper.ensures.but) (but_elsewhere bits Lower at c.lower_in.new.self c.args.p c.in_err-lower.ensures.but)

pub returns-clause-elsewhere : goal.returns-clause-elsewhere
returns-clause-elsewhere g c =
    let bits = bits_of g.row.U g.row.L g.row.F in
    let at = c.upper_around.new.self in
    let mid = c.lower_in.new.self in
    elsewhere_twice bits c.args.self.now mid c.leaf_in.new.self c.args.p
    (elsewhere_twice bits c.args.self.now at mid c.args.p
    (but_elsewhere bits Upper c.args.self.now at c.args.p c.in_ok-upper.ensures.but) (but_elsewhere bits Lower at mid c.args.p c.in_ok-lower.ensures.but))
    (but_elsewhere bits Leaf mid c.leaf_in.new.self c.args.p c.leaf_in.ensures.but)

pub returns-in_err-lower-clause-table : goal.returns-in_err-lower-clause-table
returns-in_err-lower-clause-table g c = λ k d. (λ i. root_at (c.in_err-lower.ensures.root i) k) ∙ c.in_ok-upper.ensures.table k d

pub returns-clause-table : goal.returns-clause-table
returns-clause-table g c = λ k d. (λ i. root_at (c.leaf_in.ensures.root i) k) ∙ (λ i. root_at (c.in_ok-lower.ensures.root i) k) ∙ c.in_ok-upper.ensures.table k d
