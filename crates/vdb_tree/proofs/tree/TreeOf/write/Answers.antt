use Rattle.vdb_tree.proofs.Common.{◌≤◌, ◌∙◌, ap, arith, inl, inr, rules, subst, sym, fits_everywhere, Field, write, written, bits_of, field_of, is_child, roots}
use Rattle.vdb_tree.proofs.Blocks.{never}
use Rattle.vdb_tree.proofs.Equations.{changes_field}
use Rattle.vdb_tree.proofs.MadeNodes.{elsewhere_itself, elsewhere_same}
use Rattle.vdb_tree.proofs.Rooted.{write_altered}
use Rattle.vdb_tree.proofs.Uniform.{cell_exact, cell_same, exact_by}
use Rattle.vdb_tree.proofs.Writes.{leaf_has_capacity, standing_field, tile_field_cell}
use Rattle.vdb_tree.proofs.tree.TreeOf.write.Goals as goal

pub returns-in-Child-clause-outcome : goal.returns-in-Child-clause-outcome
returns-in-Child-clause-outcome g c =
    let bits = bits_of g.row.U g.row.L g.row.F in (
      changes_field bits c.args.self.now c.write_voxel.new.self c.args.p c.args.change c.write_voxel.ensures.changes,
      c.keeps_to_limit.ensures.within (leaf_has_capacity bits c.args.self.now c.args.p _ (c.held_entry-holder.ensures.value ∙ c.in-Child.is)) (write c.args.p c.args.change (field_of bits c.args.self.now)) (write_altered c.args.p c.args.change (field_of bits c.args.self.now) bits),
    )

pub returns-then-eq-clause-outcome : goal.returns-then-eq-clause-outcome
returns-then-eq-clause-outcome g c =
    let bits = bits_of g.row.U g.row.L g.row.F in
    let exact = exact_by g.V.PartialEq.eq g.V.Ord.cmp g.met.V.Ord.matches_eq g.met.V.Voxel.exact in
    let inside = fits_everywhere c.args.p (search rules) (search rules) (search rules) in
    let at = tile_field_cell bits c.args.self.now c.args.p c.in-Tile.cell inside (c.held_entry-holder.ensures.value ∙ c.in-Tile.is) in
    let same = cell_exact g.V.PartialEq.eq exact g.met.V.Eq.laws.refl c.applied.result c.in-Tile.cell (sym c.eq.ensures ∙ c.if-eq.true) in
    let stands = ap (written c.args.change) at ∙ sym c.applied.ensures ∙ same ∙ sym at in
    let field = standing_field bits c.args.self.now c.args.p c.args.change stands in
    (field, subst (λ (f : Field g.row.V.Denot). roots g.V.PartialEq.eq bits f ≤ c.args.self.now.limit) field c.keeps_to_limit.ensures.kept)

pub returns-clause-unchanged : goal.returns-clause-unchanged
returns-clause-unchanged g c = λ stands.
    let bits = bits_of g.row.U g.row.L g.row.F in
    let exact = exact_by g.V.PartialEq.eq g.V.Ord.cmp g.met.V.Ord.matches_eq g.met.V.Voxel.exact in
    let inside = fits_everywhere c.args.p (search rules) (search rules) (search rules) in
    let at = tile_field_cell bits c.args.self.now c.args.p c.in-Tile.cell inside (c.held_entry-holder.ensures.value ∙ c.in-Tile.is) in
    let same = c.applied.ensures ∙ ap (written c.args.change) (sym at) ∙ stands ∙ at in
    absurd (never c.if-eq.false (c.eq.ensures ∙ cell_same g.V.PartialEq.eq exact g.met.V.Eq.laws.refl c.applied.result c.in-Tile.cell same))

pub returns-clause-steps : goal.returns-clause-steps
returns-clause-steps g c = λ h. elim h [
  | inl capacity ↦ let after = c.write_tile.ensures.steps capacity in let before = c.held_entry-holder.ensures.steps in omega (arith, after, before)
  | inr stands ↦
      let bits = bits_of g.row.U g.row.L g.row.F in
      let exact = exact_by g.V.PartialEq.eq g.V.Ord.cmp g.met.V.Ord.matches_eq g.met.V.Voxel.exact in
      let inside = fits_everywhere c.args.p (search rules) (search rules) (search rules) in
      let at = tile_field_cell bits c.args.self.now c.args.p c.in-Tile.cell inside (c.held_entry-holder.ensures.value ∙ c.in-Tile.is) in
      let same = c.applied.ensures ∙ ap (written c.args.change) (sym at) ∙ stands ∙ at in
      absurd (never c.if-eq.false (c.eq.ensures ∙ cell_same g.V.PartialEq.eq exact g.met.V.Eq.laws.refl c.applied.result c.in-Tile.cell same))
]

pub returns-clause-outcome : goal.returns-clause-outcome
returns-clause-outcome g c =
    let bits = bits_of g.row.U g.row.L g.row.F in
    let exact = exact_by g.V.PartialEq.eq g.V.Ord.cmp g.met.V.Ord.matches_eq g.met.V.Voxel.exact in
    let inside = fits_everywhere c.args.p (search rules) (search rules) (search rules) in
    let at = tile_field_cell bits c.args.self.now c.args.p c.in-Tile.cell inside (c.held_entry-holder.ensures.value ∙ c.in-Tile.is) in
    c.write_tile.ensures.outcome (λ stands.
    let same = c.applied.ensures ∙ ap (written c.args.change) (sym at) ∙ stands ∙ at in
    never c.if-eq.false (c.eq.ensures ∙ cell_same g.V.PartialEq.eq exact g.met.V.Eq.laws.refl c.applied.result c.in-Tile.cell same))

pub returns-clause-non_constant : goal.returns-clause-non_constant
returns-clause-non_constant g c = λ h. absurd (never (ap is_child (c.held_entry-holder.ensures.value ∙ c.in-Tile.is)) (c.has_leaf_if_non_constant.ensures h))

pub returns-in-Child-clause-elsewhere : goal.returns-in-Child-clause-elsewhere
returns-in-Child-clause-elsewhere g c = λ capacity. elsewhere_same (bits_of g.row.U g.row.L g.row.F) c.args.self.now c.write_voxel.new.self c.args.p c.write_voxel.ensures.same

pub returns-then-eq-clause-elsewhere : goal.returns-then-eq-clause-elsewhere
returns-then-eq-clause-elsewhere g c = λ capacity. elsewhere_itself (bits_of g.row.U g.row.L g.row.F) c.args.self.now c.args.p

pub returns-clause-elsewhere : goal.returns-clause-elsewhere
returns-clause-elsewhere g c = c.write_tile.ensures.elsewhere
