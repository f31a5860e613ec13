use Rattle.vdb_tree.proofs.Common.{◌≡◌, ◌∙◌, ap, arith, inl, inr, refl, rules, subst, sym, Err, IsTrue, None, Option, Some, common_steps, AreBits, Bits, fits_everywhere, IsConstantLeaf, entry_count, Cell, Tile, Field, Layout, bits_of, field_of, lower_entry, with_leaf, KeepsElsewhere, IsOutcome, in_leaf, Memory, RootLimit}
use Rattle.vdb_tree.proofs.Blocks.{never}
use Rattle.vdb_tree.proofs.Equations.{keeps_field}
use Rattle.vdb_tree.proofs.Levels.{tile_or_child}
use Rattle.vdb_tree.proofs.MadeNodes.{elsewhere_itself}
use Rattle.vdb_tree.proofs.Needed.{child_of}
use Rattle.vdb_tree.proofs.SplitTiles.{on_ok}
use Rattle.vdb_tree.proofs.Splits.{keeps_twice}
use Rattle.vdb_tree.proofs.Writes.{full_outcome, kept_outcome, leaf_has_capacity}
use Rattle.vdb_tree.proofs.WrittenLeaves.{leaf_altered, leaf_differs, leaf_fills}
use Rattle.vdb_tree.proofs.tree.TreeOf.write_leaf.Goals as goal

none_some : {A : Type 0} (x : A) → ◌≡◌ {A = Option A} None (Some x) → ⊥
none_some x e = cc

some_one : {A : Type 0} (x y : A) → Some x ≡ Some y → x ≡ y
some_one x y e = cc

pub returns-in-Some-clause-outcome : goal.returns-in-Some-clause-outcome
returns-in-Some-clause-outcome g c =
    let bits = bits_of g.row.U g.row.L g.row.F in
    let old = field_of bits c.args.self.now in
    subst (λ (f : Field g.row.V.Denot). IsOutcome g.V.PartialEq.eq bits c.args.self.now.limit old f (field_of bits c.fill_leaf_block.new.self) c.fill_leaf_block.result)
    (sym (leaf_fills bits c.args.p c.args.leaf.now old c.in-Some.cell ((c.constant.ensures c.in-Some.cell).0 c.in-Some.is)))
    c.fill_leaf_block.ensures.outcome

pub returns-in_err-make_capacity-clause-outcome : goal.returns-in_err-make_capacity-clause-outcome
returns-in_err-make_capacity-clause-outcome g c =
    let bits = bits_of g.row.U g.row.L g.row.F in
    let t = c.args.self.now in
    let leaf = c.args.leaf.now in
    let changed = with_leaf bits c.args.p leaf (field_of bits t) in
    let inside = fits_everywhere c.args.p (search rules) (search rules) (search rules) in
    let configured = subst (λ (b : Bits). AreBits b) c.bits.ensures.value c.bits.ensures.configured in
    let mixed : (cell : Cell g.row.V.Denot) → IsConstantLeaf leaf (entry_count g.row.F) cell → ⊥ = λ cell constant. none_some cell (sym c.in_default.is ∙ (c.constant.ensures cell).1 constant) in
    let full : c.from_residual.result ≡ Err RootLimit = grind (arith, common_steps, c.from_residual.ensures, c.in_err-make_capacity.ensures.full.0) in
    full_outcome bits g.V.PartialEq.eq t c.make_capacity.new.self changed _ full c.make_capacity.ensures.keeps
    (c.in_err-make_capacity.ensures.full.1 changed (leaf_altered bits c.args.p leaf (field_of bits t))
    (λ same. elim (tile_or_child (lower_entry bits t c.args.p)) [
      | inl x ↦ leaf_differs bits c.args.p leaf configured inside t x.0 x.1 c.states.ensures.values mixed same
      | inr x ↦ never refl (c.in_err-make_capacity.ensures.there (leaf_has_capacity bits t c.args.p x.0 x.1)).0
    ]))

pub returns-in_err-make_capacity-clause-there : goal.returns-in_err-make_capacity-clause-there
returns-in_err-make_capacity-clause-there g c = λ h.
    let bits = bits_of g.row.U g.row.L g.row.F in
    let t = c.args.self.now in
    let over = child_of (lower_entry bits t c.args.p) h in
    absurd (never refl (c.in_err-make_capacity.ensures.there (leaf_has_capacity bits t c.args.p over.0 over.1)).0)

pub returns-in_err-put_leaf-clause-outcome : goal.returns-in_err-put_leaf-clause-outcome
returns-in_err-put_leaf-clause-outcome g c =
    let bits = bits_of g.row.U g.row.L g.row.F in
    let t = c.args.self.now in
    let changed = with_leaf bits c.args.p c.args.leaf.now (field_of bits t) in
    let keeps = keeps_twice bits t c.make_capacity.new.self c.put_leaf.new.self c.make_capacity.ensures.keeps (c.in_err-put_leaf.ensures.kept refl) in
    let memory : c.from_residual-in_err-put_leaf.result ≡ Err Memory = grind (arith, common_steps, c.from_residual-in_err-put_leaf.ensures, c.in_err-put_leaf.ensures.memory) in
    kept_outcome bits g.V.PartialEq.eq t c.put_leaf.new.self changed _ memory keeps
    (c.in_ok-make_capacity.ensures.within changed (leaf_altered bits c.args.p c.args.leaf.now (field_of bits t)))

pub returns-in_err-put_leaf-clause-there : goal.returns-in_err-put_leaf-clause-there
returns-in_err-put_leaf-clause-there g c = λ h.
    let bits = bits_of g.row.U g.row.L g.row.F in
    let t = c.args.self.now in
    let over = child_of (lower_entry bits t c.args.p) h in
    let same = (c.make_capacity.ensures.there (leaf_has_capacity bits t c.args.p over.0 over.1)).1 in
    absurd (never refl (c.in_err-put_leaf.ensures.there (subst (λ (s : Layout g.row.V.Denot). IsTrue (in_leaf bits s c.args.p)) (sym same) h)))

pub returns-clause-outcome : goal.returns-clause-outcome
returns-clause-outcome g c =
    let bits = bits_of g.row.U g.row.L g.row.F in
    let t = c.args.self.now in (
      c.in_ok-put_leaf.ensures.field ∙ ap (with_leaf bits c.args.p c.args.leaf.now) (keeps_field bits t c.make_capacity.new.self c.make_capacity.ensures.keeps),
      c.in_ok-make_capacity.ensures.within (with_leaf bits c.args.p c.args.leaf.now (field_of bits t)) (leaf_altered bits c.args.p c.args.leaf.now (field_of bits t)),
    )

pub returns-in_err-make_capacity-clause-elsewhere : goal.returns-in_err-make_capacity-clause-elsewhere
returns-in_err-make_capacity-clause-elsewhere g c = λ capacity.
    let bits = bits_of g.row.U g.row.L g.row.F in
    subst (λ (t : Layout g.row.V.Denot). KeepsElsewhere bits c.args.self.now t c.args.p) (sym (c.make_capacity.ensures.there capacity).1) (elsewhere_itself bits c.args.self.now c.args.p)

pub returns-in_err-put_leaf-clause-elsewhere : goal.returns-in_err-put_leaf-clause-elsewhere
returns-in_err-put_leaf-clause-elsewhere g c = λ capacity.
    let bits = bits_of g.row.U g.row.L g.row.F in
    subst (λ (t : Layout g.row.V.Denot). KeepsElsewhere bits t c.put_leaf.new.self c.args.p) (c.make_capacity.ensures.there capacity).1 c.put_leaf.ensures.elsewhere

pub returns-clause-elsewhere : goal.returns-clause-elsewhere
returns-clause-elsewhere g c = λ capacity.
    let bits = bits_of g.row.U g.row.L g.row.F in
    subst (λ (t : Layout g.row.V.Denot). KeepsElsewhere bits t c.put_leaf.new.self c.args.p) (c.make_capacity.ensures.there capacity).1 c.put_leaf.ensures.elsewhere

pub returns-in-Some-clause-tile : goal.returns-in-Some-clause-tile
returns-in-Some-clause-tile g c =
    on_ok c.fill_leaf_block.result c.fill_leaf_block.ensures.tile
    (λ tile cell constant. tile ∙ ap Tile (some_one c.in-Some.cell cell (sym c.in-Some.is ∙ (c.constant.ensures cell).1 constant)))

pub returns-clause-tile : goal.returns-clause-tile
returns-clause-tile g c = λ cell constant. absurd (none_some cell (sym c.in_default.is ∙ (c.constant.ensures cell).1 constant))
