use Rattle.vdb_tree.proofs.Common.{◌∙◌, Option, subst, ℕ, Upper, bits_of, IsNodeOrMade}
use Rattle.vdb_tree.proofs.Descents.{root_by_block}
use Rattle.vdb_tree.proofs.Passes.{root_entry_same}
use Rattle.vdb_tree.proofs.Refining.{refined_child, refined_made, refined_under, refines_node, refines_twice}
use Rattle.vdb_tree.proofs.SplitTiles.{on_ok}
use Rattle.vdb_tree.proofs.tree.TreeOf.refine_root_block.Goals as goal

pub returns-in_default-root_entry-clause-refined : goal.returns-in_default-root_entry-clause-refined
returns-in_default-root_entry-clause-refined g c = λ _ q same.
    let bits = bits_of g.row.U g.row.L g.row.F in
    refined_under bits c.args.rule c.args.other.now Upper c.args.self.now q _ (root_by_block bits c.args.other.now q c.args.p same ∙ c.root_entry.ensures ∙ c.in_default-root_entry.is)

pub returns-in_err-upper-clause-refines : goal.returns-in_err-upper-clause-refines
returns-in_err-upper-clause-refines g c =
    refines_node (bits_of g.row.U g.row.L g.row.F) c.args.rule c.args.other.now Upper c.args.self.now c.upper_to_change.new.self c.args.p c.in-Child.over c.in_err-upper.ensures.makes (c.root_entry.ensures ∙ c.in-Child.is)

pub returns-in-Some-2-clause-refines : goal.returns-in-Some-2-clause-refines
returns-in-Some-2-clause-refines g c =
    let bits = bits_of g.row.U g.row.L g.row.F in
    refines_twice bits c.args.rule c.args.other.now c.args.self.now c.upper_to_change.new.self c.refine_lowers.new.self
    (refines_node bits c.args.rule c.args.other.now Upper c.args.self.now c.upper_to_change.new.self c.args.p c.in-Child.over c.in_ok-upper.ensures.makes (c.root_entry.ensures ∙ c.in-Child.is))
    c.refine_lowers.ensures.refines

pub returns-in-Some-2-clause-refined : goal.returns-in-Some-2-clause-refined
returns-in-Some-2-clause-refined g c =
    let bits = bits_of g.row.U g.row.L g.row.F in
    let mid = c.upper_to_change.new.self in
    let new = c.refine_lowers.new.self in
    let node = subst (λ (node : Option ℕ). IsNodeOrMade bits c.args.rule Upper mid c.args.p node) c.in-Some-2.is c.in_ok-upper.ensures.refined in
    on_ok c.refine_lowers.result c.refine_lowers.ensures.refined (λ refined _ q same.
    let below = refined q same in (
      below.0,
      below.1,
      refined_child bits c.args.rule c.args.other.now Upper new q c.in-Some-2.upper
          (root_by_block bits new q c.args.p same ∙ root_entry_same bits mid new c.refine_lowers.ensures.refines.keeps.head c.refine_lowers.ensures.root c.args.p ∙ node),
    ))

pub returns-in-None-clause-refines : goal.returns-in-None-clause-refines
returns-in-None-clause-refines g c =
    refines_node (bits_of g.row.U g.row.L g.row.F) c.args.rule c.args.other.now Upper c.args.self.now c.upper_to_change.new.self c.args.p c.in-Child.over c.in_ok-upper.ensures.makes (c.root_entry.ensures ∙ c.in-Child.is)

pub returns-in-None-clause-refined : goal.returns-in-None-clause-refined
returns-in-None-clause-refined g c = λ _ q same.
    let bits = bits_of g.row.U g.row.L g.row.F in
    let mid = c.upper_to_change.new.self in
    let tile = subst (λ (node : Option ℕ). IsNodeOrMade bits c.args.rule Upper mid c.args.p node) c.in-None.is c.in_ok-upper.ensures.refined in
    refined_made bits c.args.rule c.args.other.now Upper mid q tile.0 tile.2 (root_by_block bits mid q c.args.p same ∙ tile.1)
