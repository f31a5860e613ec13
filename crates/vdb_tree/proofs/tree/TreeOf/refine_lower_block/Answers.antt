use Rattle.vdb_tree.proofs.Common.{◌∙◌, Option, subst, ℕ, Lower, bits_of, IsNodeOrMade}
use Rattle.vdb_tree.proofs.Descents.{upper_by_block}
use Rattle.vdb_tree.proofs.Passes.{upper_entry_same}
use Rattle.vdb_tree.proofs.Refining.{refined_child, refined_made, refined_under, refines_node, refines_twice}
use Rattle.vdb_tree.proofs.SplitTiles.{on_ok}
use Rattle.vdb_tree.proofs.tree.TreeOf.refine_lower_block.Goals as goal

pub returns-in_default-clause-refined : goal.returns-in_default-clause-refined
returns-in_default-clause-refined g c = λ q same.
    let bits = bits_of g.row.U g.row.L g.row.F in
    refined_under bits c.args.rule c.args.other.now Lower c.args.self.now q _ (upper_by_block bits c.args.other.now q c.args.p same ∙ c.upper_entry.ensures.value ∙ c.in_default.is)

pub returns-in_err-lower-clause-refines : goal.returns-in_err-lower-clause-refines
returns-in_err-lower-clause-refines g c =
    refines_node (bits_of g.row.U g.row.L g.row.F) c.args.rule c.args.other.now Lower c.args.self.now c.lower_to_change.new.self c.args.p c.in-Child.within c.in_err-lower.ensures.makes (c.upper_entry.ensures.value ∙ c.in-Child.is)

pub returns-in-Some-clause-refines : goal.returns-in-Some-clause-refines
returns-in-Some-clause-refines g c =
    let bits = bits_of g.row.U g.row.L g.row.F in
    refines_twice bits c.args.rule c.args.other.now c.args.self.now c.lower_to_change.new.self c.refine_leaves.new.self
    (refines_node bits c.args.rule c.args.other.now Lower c.args.self.now c.lower_to_change.new.self c.args.p c.in-Child.within c.in_ok-lower.ensures.makes (c.upper_entry.ensures.value ∙ c.in-Child.is))
    c.refine_leaves.ensures.refines

pub returns-in-Some-clause-root : goal.returns-in-Some-clause-root
returns-in-Some-clause-root g c = c.refine_leaves.ensures.above.root ∙ c.in_ok-lower.ensures.root

pub returns-in-Some-clause-refined : goal.returns-in-Some-clause-refined
returns-in-Some-clause-refined g c =
    let bits = bits_of g.row.U g.row.L g.row.F in
    let mid = c.lower_to_change.new.self in
    let new = c.refine_leaves.new.self in
    let node = subst (λ (node : Option ℕ). IsNodeOrMade bits c.args.rule Lower mid c.args.p node) c.in-Some.is c.in_ok-lower.ensures.refined in
    on_ok c.refine_leaves.result c.refine_leaves.ensures.refined (λ refined q same. (
      refined q same,
      refined_child bits c.args.rule c.args.other.now Lower new q c.in-Some.lower (upper_by_block bits new q c.args.p same ∙ upper_entry_same bits mid new c.refine_leaves.ensures.above c.args.p ∙ node),
    ))

pub returns-in-None-clause-refines : goal.returns-in-None-clause-refines
returns-in-None-clause-refines g c =
    refines_node (bits_of g.row.U g.row.L g.row.F) c.args.rule c.args.other.now Lower c.args.self.now c.lower_to_change.new.self c.args.p c.in-Child.within c.in_ok-lower.ensures.makes (c.upper_entry.ensures.value ∙ c.in-Child.is)

pub returns-in-None-clause-refined : goal.returns-in-None-clause-refined
returns-in-None-clause-refined g c = λ q same.
    let bits = bits_of g.row.U g.row.L g.row.F in
    let mid = c.lower_to_change.new.self in
    let tile = subst (λ (node : Option ℕ). IsNodeOrMade bits c.args.rule Lower mid c.args.p node) c.in-None.is c.in_ok-lower.ensures.refined in
    refined_made bits c.args.rule c.args.other.now Lower mid q tile.0 tile.2 (upper_by_block bits mid q c.args.p same ∙ tile.1)
