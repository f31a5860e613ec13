use Rattle.vdb_tree.proofs.Common.{◌≡◌, ◌≢◌, ◌≤◌, ◌∙◌, ap, arith, refl, rules, subst, sym, Err, common_steps, fits_everywhere, block_around, Leaf, Lower, Upper, Tile, Field, KeepsElsewhere, Layout, fill, bits_of, field_of, lower_entry, roots, Memory, RootLimit}
use Rattle.vdb_tree.proofs.Blocks.{never}
use Rattle.vdb_tree.proofs.MadeNodes.{but_elsewhere, elsewhere_itself, elsewhere_twice}
use Rattle.vdb_tree.proofs.Needed.{child_of}
use Rattle.vdb_tree.proofs.Splits.{keeps_twice}
use Rattle.vdb_tree.proofs.Uniform.{cell_exact, cell_same, exact_by}
use Rattle.vdb_tree.proofs.Writes.{full_outcome, kept_outcome, leaf_has_capacity, tile_field_cell}
use Rattle.vdb_tree.proofs.WrittenLeaves.{fill_altered, fill_differs, filled_field, leaf_elsewhere, tile_field}
use Rattle.vdb_tree.proofs.tree.TreeOf.fill_leaf_block.Goals as goal
use Rattle.vdb_tree.proofs.tree.TreeOf.fill_leaf_block.Goals.{in-Tile+else-eq, in_default}

pub returns-then-eq-clause-outcome : goal.returns-then-eq-clause-outcome
returns-then-eq-clause-outcome g c =
    let bits = bits_of g.row.U g.row.L g.row.F in
    let t = c.args.self.now in
    let exact = exact_by g.V.PartialEq.eq g.V.Ord.cmp g.met.V.Ord.matches_eq g.met.V.Voxel.exact in
    let is = cell_exact g.V.PartialEq.eq exact g.met.V.Eq.laws.refl c.in-Tile.tile c.args.cell (sym c.eq.ensures ∙ c.if-eq.true) in
    let stands = tile_field bits c.args.p c.args.cell t (c.leaf_entry.ensures.value ∙ c.in-Tile.is ∙ ap Tile is) in
    (stands, subst (λ (f : Field g.row.V.Denot). roots g.V.PartialEq.eq bits f ≤ t.limit) stands c.keeps_to_limit.ensures.kept)

pub returns-in_err-make_capacity-clause-outcome : goal.returns-in_err-make_capacity-clause-outcome
returns-in_err-make_capacity-clause-outcome g c =
    let bits = bits_of g.row.U g.row.L g.row.F in
    let t = c.args.self.now in
    let exact = exact_by g.V.PartialEq.eq g.V.Ord.cmp g.met.V.Ord.matches_eq g.met.V.Voxel.exact in
    let inside = fits_everywhere c.args.p (search rules) (search rules) (search rules) in
    let full : c.from_residual.result ≡ Err RootLimit = grind (arith, common_steps, c.from_residual.ensures, c.in_err-make_capacity.ensures.full.0) in
    let other : (field_of bits t).cell c.args.p ≢ c.args.cell = elim c.match-leaf_entry.branch [
      | in-Tile+else-eq w ↦ λ is.
          let at = tile_field_cell bits t c.args.p w.in-Tile.tile inside (c.leaf_entry.ensures.value ∙ w.in-Tile.is) in
          never w.if-eq.false (w.eq.ensures ∙ cell_same g.V.PartialEq.eq exact g.met.V.Eq.laws.refl w.in-Tile.tile c.args.cell (sym at ∙ is))
      | in_default w ↦ absurd (never refl (c.in_err-make_capacity.ensures.there (leaf_has_capacity bits t c.args.p _ (c.leaf_entry.ensures.value ∙ w.in_default.is))).0)
    ] in
    full_outcome bits g.V.PartialEq.eq t c.make_capacity.new.self (fill (block_around bits Leaf c.args.p) c.args.cell (field_of bits t)) _ full c.make_capacity.ensures.keeps
    (c.in_err-make_capacity.ensures.full.1 _ (fill_altered bits c.args.p c.args.cell (field_of bits t)) (fill_differs bits c.args.p c.args.cell (field_of bits t) inside other))

pub returns-in_err-make_capacity-clause-there : goal.returns-in_err-make_capacity-clause-there
returns-in_err-make_capacity-clause-there g c = λ h.
    let bits = bits_of g.row.U g.row.L g.row.F in
    let over = child_of (lower_entry bits c.args.self.now c.args.p) h in
    absurd (never refl (c.in_err-make_capacity.ensures.there (leaf_has_capacity bits c.args.self.now c.args.p over.0 over.1)).0)

pub returns-in_err-upper-clause-outcome : goal.returns-in_err-upper-clause-outcome
returns-in_err-upper-clause-outcome g c =
    let bits = bits_of g.row.U g.row.L g.row.F in
    let t = c.args.self.now in
    let keeps = keeps_twice bits t c.make_capacity.new.self c.upper_around.new.self c.make_capacity.ensures.keeps c.upper_around.ensures.keeps in
    let memory : c.from_residual-in_err-upper.result ≡ Err Memory = grind (arith, common_steps, c.from_residual-in_err-upper.ensures, c.in_err-upper.ensures.memory) in
    kept_outcome bits g.V.PartialEq.eq t c.upper_around.new.self _ _ memory keeps
    (c.in_ok-make_capacity.ensures.within _ (fill_altered bits c.args.p c.args.cell (field_of bits t)))

pub returns-in_err-lower-clause-outcome : goal.returns-in_err-lower-clause-outcome
returns-in_err-lower-clause-outcome g c =
    let bits = bits_of g.row.U g.row.L g.row.F in
    let t = c.args.self.now in
    let swept = c.make_capacity.new.self in
    let mid = c.lower_in.new.self in
    let keeps = keeps_twice bits t swept mid c.make_capacity.ensures.keeps (keeps_twice bits swept c.upper_around.new.self mid c.in_ok-upper.ensures.keeps c.lower_in.ensures.keeps) in
    let memory : c.from_residual-in_err-lower.result ≡ Err Memory = grind (arith, common_steps, c.from_residual-in_err-lower.ensures, c.in_err-lower.ensures.memory) in
    kept_outcome bits g.V.PartialEq.eq t mid _ _ memory keeps
    (c.in_ok-make_capacity.ensures.within _ (fill_altered bits c.args.p c.args.cell (field_of bits t)))

pub returns-clause-outcome : goal.returns-clause-outcome
returns-clause-outcome g c =
    let bits = bits_of g.row.U g.row.L g.row.F in
    let t = c.args.self.now in
    let swept = c.make_capacity.new.self in
    let mid = c.lower_in.new.self in
    let keeps = keeps_twice bits t swept mid c.make_capacity.ensures.keeps (keeps_twice bits swept c.upper_around.new.self mid c.in_ok-upper.ensures.keeps c.in_ok-lower.ensures.keeps) in (
      filled_field bits c.args.p c.args.cell t mid c.fill_leaf.new.self keeps c.fill_leaf.ensures.fills,
      c.in_ok-make_capacity.ensures.within _ (fill_altered bits c.args.p c.args.cell (field_of bits t)),
    )

pub returns-then-eq-clause-elsewhere : goal.returns-then-eq-clause-elsewhere
returns-then-eq-clause-elsewhere g c = λ capacity. elsewhere_itself (bits_of g.row.U g.row.L g.row.F) c.args.self.now c.args.p

pub returns-then-eq-clause-tile : goal.returns-then-eq-clause-tile
returns-then-eq-clause-tile g c =
    let exact = exact_by g.V.PartialEq.eq g.V.Ord.cmp g.met.V.Ord.matches_eq g.met.V.Voxel.exact in
    c.leaf_entry.ensures.value ∙ c.in-Tile.is ∙ ap Tile (cell_exact g.V.PartialEq.eq exact g.met.V.Eq.laws.refl c.in-Tile.tile c.args.cell (sym c.eq.ensures ∙ c.if-eq.true))

pub returns-in_err-make_capacity-clause-elsewhere : goal.returns-in_err-make_capacity-clause-elsewhere
returns-in_err-make_capacity-clause-elsewhere g c = λ capacity.
    let bits = bits_of g.row.U g.row.L g.row.F in
    subst (λ (t : Layout g.row.V.Denot). KeepsElsewhere bits c.args.self.now t c.args.p) (sym (c.make_capacity.ensures.there capacity).1) (elsewhere_itself bits c.args.self.now c.args.p)

pub returns-in_err-upper-clause-elsewhere : goal.returns-in_err-upper-clause-elsewhere
returns-in_err-upper-clause-elsewhere g c = λ capacity.
    let bits = bits_of g.row.U g.row.L g.row.F in
    let at = c.upper_around.new.self in
    subst (λ (t : Layout g.row.V.Denot). KeepsElsewhere bits t at c.args.p) (c.make_capacity.ensures.there capacity).1
    (but_elsewhere bits Upper c.make_capacity.new.self at c.args.p c.upper_around.ensures.but)

pub returns-in_err-lower-clause-elsewhere : goal.returns-in_err-lower-clause-elsewhere
returns-in_err-lower-clause-elsewhere g c = λ capacity.
    let bits = bits_of g.row.U g.row.L g.row.F in
    let at = c.upper_around.new.self in
    let mid = c.lower_in.new.self in
    subst (λ (t : Layout g.row.V.Denot). KeepsElsewhere bits t mid c.args.p) (c.make_capacity.ensures.there capacity).1
    (elsewhere_twice bits c.make_capacity.new.self at mid c.args.p
    (but_elsewhere bits Upper c.make_capacity.new.self at c.args.p c.in_ok-upper.ensures.but) (but_elsewhere bits Lower at mid c.args.p c.lower_in.ensures.but))

pub returns-clause-elsewhere : goal.returns-clause-elsewhere
returns-clause-elsewhere g c = λ capacity.
    let bits = bits_of g.row.U g.row.L g.row.F in
    let at = c.upper_around.new.self in
    let mid = c.lower_in.new.self in
    let new = c.fill_leaf.new.self in
    subst (λ (t : Layout g.row.V.Denot). KeepsElsewhere bits t new c.args.p) (c.make_capacity.ensures.there capacity).1
    (elsewhere_twice bits c.make_capacity.new.self mid new c.args.p
    (elsewhere_twice bits c.make_capacity.new.self at mid c.args.p
    (but_elsewhere bits Upper c.make_capacity.new.self at c.args.p c.in_ok-upper.ensures.but) (but_elsewhere bits Lower at mid c.args.p c.in_ok-lower.ensures.but))
    (leaf_elsewhere bits c.args.p c.args.cell mid new c.fill_leaf.ensures.above c.fill_leaf.ensures.entries))

pub returns-clause-tile : goal.returns-clause-tile
returns-clause-tile g c = c.fill_leaf.ensures.entries.here c.args.p refl
