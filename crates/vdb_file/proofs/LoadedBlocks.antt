-- Fields whose cells changed in one box.
use Rattle.vdb_file.proofs.Common.{◌≡◌, ℕ, ◌<◌, Bool, true, false, List, refl, sym, ap, subst, ◌∙◌, arith, inl, inr, cases_Bool, if◌then◌else◌, pos, Result, Err, block, block_around, block_number, entries, offset, sub_block, AreBits, Box, coord, coord_eq, everywhere, is_inside, Bits, Coord, Level, Leaf, Lower, Upper, block_in_range, coord_equiv, coord_exact, in_entry, inside_numbered, number_in_block, cell_in, Cell, cell_eq, is_background, is_constant, roots, Field, field, fill, off, Layout, field_of, with_leaf, IsOutcome, cell_same, uniform_cells, uniform_from, HasValues, leaf_field, HasCapacityAt, KeptOutside}
use Rattle.vdb_coord.proofs.Nesting.{lower_from_leaf, upper_from_lower}
use Rattle.vdb_node.specs.Leaf.{Leaf as LeafOf}
use Rattle.vdb_tree.specs.declared.refusal.TreeRefusal.{TreeRefusal}
use Rattle.vdb_tree.specs.declared.refusal.TreeRefusal.TheVariants.{RootLimit}
use Rattle.vdb_file.proofs.Agreement.{Agree, AreValues}
use Rattle.vdb_file.proofs.RowFrames.{corner_in_block}

-- ---- fields that are kept

pub kept_all : {V : Type 0} (b : Box) (f : Field V) → KeptOutside b f f
kept_all b f = record { background = refl; cells = λ p out. refl }

pub kept_both : {V : Type 0} (b : Box) (f g h : Field V) → KeptOutside b f g → KeptOutside b g h → KeptOutside b f h
kept_both b f g h first second = record { background = second.background ∙ first.background; cells = λ p out. second.cells p out ∙ first.cells p out }

-- a coordinate outside a box is outside the boxes within it
outside_of : (b c : Bool) → (c ≡ true → b ≡ true) → b ≡ false → c ≡ false
outside_of b false h e = refl
outside_of b true h e = sym (h refl) ∙ e

pub kept_wider : {V : Type 0} (b c : Box) (f g : Field V) → ((p : Coord) → is_inside c p ≡ true → is_inside b p ≡ true) → KeptOutside c f g → KeptOutside b f g
kept_wider b c f g within kept = record { background = kept.background; cells = λ p out. kept.cells p (outside_of (is_inside b p) (is_inside c p) (within p) out) }

pub capacity_kept : {V : Type 0} (eq : V → V → Bool) (bits : Bits) (limit : ℕ) (b : Box) (f g : Field V) → KeptOutside b f g → HasCapacityAt eq bits limit b f → HasCapacityAt eq bits limit b g
capacity_kept eq bits limit b f g kept capacity = record { few = λ h more. capacity.few h (kept_both b f g h kept more) }

-- if a box has capacity, no change of it fails with `RootLimit`
pub no_root_limit : {V : Type 0} (eq : V → V → Bool) (bits : Bits) (limit : ℕ) (b : Box) (f changed new : Field V) (result : Result (Unit {0}) TreeRefusal) → IsOutcome eq bits limit f changed new result → result ≡ Err RootLimit → HasCapacityAt eq bits limit b f → KeptOutside b f changed → ⊥
no_root_limit eq bits limit b f changed new result outcome e capacity kept =
    let over : limit < roots eq bits changed = (subst (λ (r : Result (Unit {0}) TreeRefusal). IsOutcome eq bits limit f changed new r) e outcome).1 in
    let most = capacity.few changed kept in
    omega (arith, over, most)

-- ---- blocks within blocks

-- the upper block around a coordinate
number_up : (bits : Bits) (level : Level) (p q : Coord) → block_number bits level q ≡ block_number bits level p → block_number bits Upper q ≡ block_number bits Upper p
number_up bits Upper p q e = e
number_up bits Lower p q e = upper_from_lower bits q p e
number_up bits Leaf p q e = upper_from_lower bits q p (lower_from_leaf bits q p e)

-- the upper block holds the blocks around the coordinate
pub in_upper : (bits : Bits) (level : Level) (p q : Coord) → is_inside (block_around bits level p) q ≡ true → is_inside (block_around bits Upper p) q ≡ true
in_upper bits level p q h = inside_numbered bits Upper (block_number bits Upper p) q (number_up bits level p q (number_in_block bits level (block_number bits level p) q h))

-- the upper block is the same around each coordinate of those blocks
pub same_upper : (bits : Bits) (level : Level) (p q : Coord) → is_inside (block_around bits level p) q ≡ true → block_around bits Upper q ≡ block_around bits Upper p
same_upper bits level p q h = ap (block bits Upper) (number_up bits level p q (number_in_block bits level (block_number bits level p) q h))

-- a block holds its entries
pub entry_in_block : (bits : Bits) (level : Level) (p : Coord) (i : ℕ) → i < entries bits level → (q : Coord) → is_inside (sub_block bits level (block_around bits level p) i) q ≡ true → is_inside (block_around bits level p) q ≡ true
entry_in_block bits level p i less q h = inside_numbered bits level (block_number bits level p) q (in_entry bits level p q i less h).0

-- ---- values

-- the background of a tree is a value, since coordinates beyond the range have it
pub background_value : {V : Type 0} (P : V → Type 0) (background : V) (bits : Bits) (t : Layout V) → HasValues P background (field_of bits t) → P t.background
background_value P background bits t has = has.values (coord (pos 2147483648) (pos 0) (pos 0))

-- ---- fields with a block of one cell

-- a box of one cell keeps the cells elsewhere
pub fill_keeps : {V : Type 0} (b : Box) (background : V) (cells : Coord → Cell V) (cell : Cell V) → KeptOutside b (field background cells) (fill b cell (field background cells))
fill_keeps b background cells cell = record { background = refl; cells = λ q out. there q (is_inside everywhere q) out }
  where
    there : (q : Coord) (e : Bool) → is_inside b q ≡ false → (if e then (if is_inside b q then cell else (if e then cells q else off background)) else off background) ≡ (if e then cells q else off background)
    there q true out = rw out refl
    there q false out = refl

module _ {V : Type 0} {eq : V → V → Bool} {value_bytes : V → List ℕ} {P : V → Type 0} (values : AreValues eq value_bytes P) (bits : Bits) (few : AreBits bits) (level : Level) (p : Coord) (inside : is_inside everywhere p ≡ true) where
  abbrev b : Box
  b = block_around bits level p

  in_range : (q : Coord) → is_inside b q ≡ true → is_inside everywhere q ≡ true
  in_range q h = block_in_range bits level few p q inside (number_in_block bits level (block_number bits level p) q h)

  module _ (background : V) (cells : Coord → Cell V) (cell : Cell V) (has : HasValues P background (field background cells)) where
    abbrev old : Field V
    old = field background cells

    abbrev new : Field V
    new = fill b cell old

    here : (q : Coord) → is_inside b q ≡ true → new.cell q ≡ cell
    here q h = rw (in_range q h, h) refl

    pub fill_values : P cell.value → HasValues P background new
    fill_values v = record {
      same = refl;
      values = λ q. elim (cases_Bool (is_inside b q)) [
        | inl h ↦ subst (λ (c : Cell V). P c.value) (sym (here q h)) v
        | inr out ↦ subst (λ (c : Cell V). P c.value) (sym ((fill_keeps b background cells cell).cells q out)) (has.values q)
      ];
    }

    pub fill_constant : is_constant eq new b ≡ true
    fill_constant = uniform_from eq values.exact values.itself new b (new.cell b.min) (λ q h. here q h ∙ sym (here b.min (corner_in_block bits level p)))

    pub fill_corner : new.cell b.min ≡ cell
    fill_corner = here b.min (corner_in_block bits level p)

    pub fill_shows : cell_eq eq cell (off background) ≡ false → is_background eq new b ≡ false
    fill_shows other = elim (cases_Bool (is_background eq new b)) [
      | inl all ↦
          let same : cell ≡ off background = sym fill_corner ∙ uniform_cells eq values.exact values.itself new b (off background) all b.min (corner_in_block bits level p) in
          let never : true ≡ false = sym (cell_same eq values.exact values.itself cell (off background) same) ∙ other in absurd cc
      | inr not_all ↦ not_all
    ]

-- ---- fields with the cells of a leaf in a leaf block

module _ {V : Type 0} (P : V → Type 0) (bits : Bits) (few : AreBits bits) (p : Coord) (inside : is_inside everywhere p ≡ true) (background : V) (cells : Coord → Cell V) (leaf : LeafOf V) where
  abbrev before : Field V
  before = field background cells

  abbrev after : Field V
  after = with_leaf bits p leaf before

  abbrev around : Box
  around = block_around bits Leaf p

  -- a coordinate of the block has p's leaf block around it
  here_eq : (q : Coord) → is_inside around q ≡ true → coord_eq (block_number bits Leaf p) (block_number bits Leaf q) ≡ true
  here_eq q h = subst (λ (n : Coord). coord_eq (block_number bits Leaf p) n ≡ true) (sym (number_in_block bits Leaf (block_number bits Leaf p) q h)) (coord_equiv.refl (block_number bits Leaf p))

  there_eq : (q : Coord) → is_inside around q ≡ false → coord_eq (block_number bits Leaf p) (block_number bits Leaf q) ≡ false
  there_eq q out = elim (cases_Bool (coord_eq (block_number bits Leaf p) (block_number bits Leaf q))) [
    | inl e ↦
        let h : is_inside around q ≡ true = inside_numbered bits Leaf (block_number bits Leaf p) q (sym (coord_exact (block_number bits Leaf p) (block_number bits Leaf q) e)) in
        let never : true ≡ false = sym h ∙ out in absurd cc
    | inr e ↦ e
  ]

  pub leaf_keeps : KeptOutside around before after
  leaf_keeps = record { background = refl; cells = λ q out. there q (is_inside everywhere q) (there_eq q out) }
    where
      there : (q : Coord) (e : Bool) → coord_eq (block_number bits Leaf p) (block_number bits Leaf q) ≡ false
          → (if e then (if coord_eq (block_number bits Leaf p) (block_number bits Leaf q) then cell_in (off background) leaf (offset bits Leaf q) else (if e then cells q else off background)) else off background) ≡ (if e then cells q else off background)
      there q true out = rw out refl
      there q false out = refl

  -- in that block it is the field of the leaf alone
  pub leaf_agrees : Agree (leaf_field bits p background leaf) after around
  leaf_agrees = record {
    same = λ q h. rw (here_eq q h, block_in_range bits Leaf few p q inside (number_in_block bits Leaf (block_number bits Leaf p) q h)) refl;
  }

  pub leaf_values : HasValues P background before → HasValues P background (leaf_field bits p background leaf) → HasValues P background after
  leaf_values has of_leaf = record {
    same = refl;
    values = λ q. elim (cases_Bool (is_inside around q)) [
      | inl h ↦ subst (λ (c : Cell V). P c.value) (leaf_agrees.same q h) (of_leaf.values q)
      | inr out ↦ subst (λ (c : Cell V). P c.value) (sym (leaf_keeps.cells q out)) (has.values q)
    ];
  }
