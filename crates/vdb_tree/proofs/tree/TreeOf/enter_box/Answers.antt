use Rattle.vdb_tree.proofs.Common.{◌≡◌, ◌≢◌, ◌≤◌, arith, inl, inr, refl, subst, sym, Err, IsSome, common_steps, key, fill, Layout, bits_of, field_of, background_cell, root_at, roots, RootLimit, Cell, AddsNodes}
use Rattle.vdb_tree.proofs.Blocks.{never}
use Rattle.vdb_tree.proofs.Erasing.{adds_background_none, adds_background_twice, split_background}
use Rattle.vdb_tree.proofs.MadeNodes.{keys_in_none, keys_in_twice, no_node_twice, same_no_node}
use Rattle.vdb_tree.proofs.Capacities.{obeys_full, obeys_within, or_entered}
use Rattle.vdb_tree.proofs.Splits.{adds_itself, keeps_twice}
use Rattle.vdb_tree.proofs.tree.TreeOf.enter_box.Goals as goal

pub returns-then-is_background-clause-keeps : goal.returns-then-is_background-clause-keeps
returns-then-is_background-clause-keeps g c = record { head = record { background = refl; limit = refl }; cells = λ q. refl }

pub returns-then-is_background-clause-entered : goal.returns-then-is_background-clause-entered
returns-then-is_background-clause-entered g c =
    λ p inside. inl (c.is_background.ensures.0 c.if-is_background.true)

pub returns-then-is_background-clause-limit : goal.returns-then-is_background-clause-limit
returns-then-is_background-clause-limit g c =
    let bits = bits_of g.row.U g.row.L g.row.F in
    let is = c.is_background.ensures.0 c.if-is_background.true in
    subst (λ (d : Cell g.row.V.Denot). roots g.V.PartialEq.eq bits (fill c.args.bounds d (field_of bits c.args.self.now)) ≤ c.args.self.now.limit) (sym is) c.keeps_fills_to_limit.ensures.background_cell

pub returns-then-is_background-clause-edges : goal.returns-then-is_background-clause-edges
returns-then-is_background-clause-edges g c = λ box was. was

pub returns-in_err-make_capacity_for-clause-keeps : goal.returns-in_err-make_capacity_for-clause-keeps
returns-in_err-make_capacity_for-clause-keeps g c = c.in_err-make_capacity_for.ensures.adds.keeps

pub returns-in_err-make_capacity_for-clause-limit : goal.returns-in_err-make_capacity_for-clause-limit
returns-in_err-make_capacity_for-clause-limit g c =
    let bits = bits_of g.row.U g.row.L g.row.F in
    let full = c.in_err-make_capacity_for.ensures.full in
    let refused : c.from_residual.result ≡ Err RootLimit = grind (arith, common_steps, c.from_residual.ensures, full.0) in
    let other : c.args.cell ≢ background_cell c.args.self.now = λ same. never c.if-is_background.false (c.is_background.ensures.1 same) in
    obeys_full g.V.PartialEq.eq bits c.args.self.now.limit _ c.from_residual.result refused (full.1 c.args.cell other)

pub returns-in_err-make_capacity_for-clause-background_cell : goal.returns-in_err-make_capacity_for-clause-background_cell
returns-in_err-make_capacity_for-clause-background_cell g c =
    λ same. absurd (never c.if-is_background.false (c.is_background.ensures.1 same))

pub returns-in_err-make_capacity_for-clause-edges : goal.returns-in_err-make_capacity_for-clause-edges
returns-in_err-make_capacity_for-clause-edges g c = split_background (bits_of g.row.U g.row.L g.row.F) c.args.self.now c.make_capacity_for.new.self c.in_err-make_capacity_for.ensures.adds

pub returns-clause-keeps : goal.returns-clause-keeps
returns-clause-keeps g c = keeps_twice (bits_of g.row.U g.row.L g.row.F) c.args.self.now c.make_capacity_for.new.self c.enter_blocks.new.self c.in_ok-make_capacity_for.ensures.adds.keeps c.enter_blocks.ensures.keeps

pub returns-clause-entered : goal.returns-clause-entered
returns-clause-entered g c =
    or_entered c.args.bounds (c.args.cell ≡ background_cell c.enter_blocks.new.self) (λ p. IsSome (root_at c.enter_blocks.new.self.root (key (bits_of g.row.U g.row.L g.row.F) p))) c.enter_blocks.result c.enter_blocks.ensures.entered

pub returns-clause-limit : goal.returns-clause-limit
returns-clause-limit g c =
    obeys_within g.V.PartialEq.eq (bits_of g.row.U g.row.L g.row.F) c.args.self.now.limit _ c.enter_blocks.result c.enter_blocks.ensures.memory (c.in_ok-make_capacity_for.ensures.within c.args.cell)

pub returns-clause-background_cell : goal.returns-clause-background_cell
returns-clause-background_cell g c =
    λ same. absurd (never c.if-is_background.false (c.is_background.ensures.1 same))

pub returns-clause-edges : goal.returns-clause-edges
returns-clause-edges g c =
    let bits = bits_of g.row.U g.row.L g.row.F in
    split_background bits c.args.self.now c.enter_blocks.new.self
    (adds_background_twice bits c.args.self.now c.make_capacity_for.new.self c.enter_blocks.new.self c.in_ok-make_capacity_for.ensures.adds
    (adds_background_none bits c.make_capacity_for.new.self c.enter_blocks.new.self c.enter_blocks.ensures.keeps c.enter_blocks.ensures.same))

pub returns-then-is_background-clause-adds : goal.returns-then-is_background-clause-adds
returns-then-is_background-clause-adds g c = λ _. adds_itself (bits_of g.row.U g.row.L g.row.F) c.args.self.now

pub returns-in_err-make_capacity_for-clause-nodes : goal.returns-in_err-make_capacity_for-clause-nodes
returns-in_err-make_capacity_for-clause-nodes g c = c.in_err-make_capacity_for.ensures.adds.nodes

pub returns-in_err-make_capacity_for-clause-keys : goal.returns-in_err-make_capacity_for-clause-keys
returns-in_err-make_capacity_for-clause-keys g c = keys_in_none (bits_of g.row.U g.row.L g.row.F) c.args.bounds c.args.self.now c.make_capacity_for.new.self c.in_err-make_capacity_for.ensures.keys

pub returns-in_err-make_capacity_for-clause-no_keys : goal.returns-in_err-make_capacity_for-clause-no_keys
returns-in_err-make_capacity_for-clause-no_keys g c = λ same. c.in_err-make_capacity_for.ensures.keys

pub returns-in_err-make_capacity_for-clause-adds : goal.returns-in_err-make_capacity_for-clause-adds
returns-in_err-make_capacity_for-clause-adds g c =
    let bits = bits_of g.row.U g.row.L g.row.F in
    λ h. elim h [
      | inl same ↦ absurd (never c.if-is_background.false (c.is_background.ensures.1 same))
      | inr capacity ↦ subst (λ (t : Layout g.row.V.Denot). AddsNodes bits c.args.self.now t) (sym (c.in_err-make_capacity_for.ensures.stays capacity)) (adds_itself bits c.args.self.now)
    ]

pub returns-clause-nodes : goal.returns-clause-nodes
returns-clause-nodes g c =
    let bits = bits_of g.row.U g.row.L g.row.F in
    no_node_twice bits c.args.self.now c.make_capacity_for.new.self c.enter_blocks.new.self c.in_ok-make_capacity_for.ensures.adds.nodes
    (same_no_node bits c.make_capacity_for.new.self c.enter_blocks.new.self c.enter_blocks.ensures.same)

pub returns-clause-keys : goal.returns-clause-keys
returns-clause-keys g c =
    let bits = bits_of g.row.U g.row.L g.row.F in
    keys_in_twice bits c.args.bounds c.args.self.now c.make_capacity_for.new.self c.enter_blocks.new.self
    (keys_in_none bits c.args.bounds c.args.self.now c.make_capacity_for.new.self c.in_ok-make_capacity_for.ensures.keys) c.enter_blocks.ensures.keys

pub returns-clause-no_keys : goal.returns-clause-no_keys
returns-clause-no_keys g c =
    λ same. absurd (never c.if-is_background.false (c.is_background.ensures.1 same))

pub returns-clause-adds : goal.returns-clause-adds
returns-clause-adds g c =
    let bits = bits_of g.row.U g.row.L g.row.F in
    λ h. elim h [
      | inl same ↦ absurd (never c.if-is_background.false (c.is_background.ensures.1 same))
      | inr capacity ↦ subst (λ (t : Layout g.row.V.Denot). AddsNodes bits t c.enter_blocks.new.self) (c.in_ok-make_capacity_for.ensures.stays capacity) c.enter_blocks.ensures.adds
    ]
