-- Dilation part by part: the states so far, and what each part of a tree adds to them.
use Rattle.vdb_morph.proofs.Common.{◌≡◌, refl, sym, ap, subst, ◌∙◌, Bool, true, false, not, ◌&&◌, ◌||◌, inl, inr, List, list_any, Option, Some, None, block_around, block_number, offset, neighbours, Box, everywhere, is_inside, Bits, Coord, Leaf, not_before_min, and_true, both, box_from_inside, same_truth, coord_exact, number_in_block, is_on, Cell, Field, dilate, field, Layout, cell_at, field_of, IsSkipped, Passes, TreeWalk, YieldsBox, is_left, Skip, Inactive, same_cells, bool_cases, like_coords, or_cases, or_first, or_second, is_around, is_marked, spread, topology}
use Rattle.std.specs.Ordering.{is_lt}
use Rattle.vdb_coord.specs.Blocks.{block_cmp}
use Rattle.vdb_coord.proofs.Nesting.{inside_numbered}
use Rattle.vdb_tree.specs.Parts.{OnLeaf, OnTile}
use Rattle.vdb_tree.specs.declared.queries.parts.Content.{Content}
use Rattle.vdb_tree.specs.declared.queries.parts.Content.TheVariants.{Leaf as PartLeaf, Tile}
use Rattle.vdb_tree.proofs.Rooted.{not_from, was_false}
use Rattle.vdb_walk.proofs.Surrounds.{min_inside}
use Rattle.vdb_morph.proofs.Neighbours.{InRange, any_near, either_near, none_near, some_near}
use Rattle.vdb_morph.proofs.IterationLaws.{cut_again, dilated_on, on, topology_on, topology_value}

-- ---- what spreads

module _ {V : Type 0} (f : Field V) (test : Coord → Bool) where
  spread_on : (p : Coord) → InRange p → on (spread test f) p ≡ (on f p || list_any test (neighbours p))
  spread_on p inside = rw inside refl

  spread_value : (p : Coord) → InRange p → ((spread test f).cell p).value ≡ (f.cell p).value
  spread_value p inside = rw inside refl

-- tests that agree within the range spread alike
pub spread_alike : {V : Type 0} (s t : Coord → Bool) (f : Field V) → ((p : Coord) → InRange p → s p ≡ t p) → spread s f ≡ spread t f
spread_alike s t f h = same_cells f.background _ _ (λ p inside. ap (λ (b : Bool). record { value = (f.cell p).value; on = (f.cell p).on || b }) (any_near p s t h))

-- nothing spreads from nowhere
pub spread_none : {V : Type 0} (test : Coord → Bool) (background : V) (cell : Coord → Cell V) → ((p : Coord) → InRange p → test p ≡ false) → field background cell ≡ spread test (field background cell)
spread_none test background cell h = same_cells background _ _ (λ p inside. stays p inside (none_near p test h))
  where
    or_nothing : (x b : Bool) → b ≡ false → x ≡ (x || b)
    or_nothing true b e = refl
    or_nothing false b e = sym e

    stays : (p : Coord) → InRange p → list_any test (neighbours p) ≡ false → cell p ≡ record { value = ((field background cell).cell p).value; on = on (field background cell) p || list_any test (neighbours p) }
    stays p inside e = rw inside (let s = or_nothing (cell p).on (list_any test (neighbours p)) e in λ i. record { value = (cell p).value; on = s i })

-- ---- leaf extents

-- coordinates of one leaf extent
pub around : (bits : Bits) (p q : Coord) → block_number bits Leaf q ≡ block_number bits Leaf p → is_around bits p q ≡ true
around bits p q e = like_coords (block_number bits Leaf q) (block_number bits Leaf p) e

pub from_around : (bits : Bits) (p q : Coord) → is_around bits p q ≡ true → block_number bits Leaf q ≡ block_number bits Leaf p
from_around bits p q h = coord_exact (block_number bits Leaf q) (block_number bits Leaf p) h

-- a mask that has the states of the block marks its active voxels
pub marked_states : (bits : Bits) (p : Coord) (marks : Coord → Bool) (mask : List Bool) → ((q : Coord) → InRange q → is_around bits p q ≡ true → is_on mask (offset bits Leaf q) ≡ marks q)
    → (q : Coord) → InRange q → is_marked bits p mask q ≡ (is_around bits p q && marks q)
marked_states bits p marks mask h q inside = under (is_around bits p q) (is_on mask (offset bits Leaf q)) (marks q) (h q inside)
  where
    under : (a x y : Bool) → (a ≡ true → x ≡ y) → (a && x) ≡ (a && y)
    under true x y e = e refl
    under false x y e = refl

-- a mask whose entries are all on marks the whole block
pub marked_block : (bits : Bits) (p : Coord) (box : Box) (mask : List Bool) → box ≡ block_around bits Leaf p → ((q : Coord) → is_on mask (offset bits Leaf q) ≡ true) → (q : Coord) → is_marked bits p mask q ≡ is_inside box q
marked_block bits p box mask same all q =
    ap (λ b. is_around bits p q && b) (all q) ∙ and_all (is_around bits p q)
    ∙ same_truth (is_around bits p q) (is_inside (block_around bits Leaf p) q) (λ h. inside_numbered bits Leaf (block_number bits Leaf p) q (from_around bits p q h))
    (λ h. around bits p q (number_in_block bits Leaf (block_number bits Leaf p) q h))
    ∙ ap (λ (b : Box). is_inside b q) (sym same)
  where
    and_all : (a : Bool) → (a && true) ≡ a
    and_all true = refl
    and_all false = refl

-- ---- what a part consists of

pub of_tile : {V L : Type 0} (content : Content V L) (cell : Cell V) (P : Cell V → Type 0) → content ≡ Tile cell → OnTile content P → P cell
of_tile {V} {L} content cell P e h = subst (λ (x : Content V L). OnTile x P) e h

pub of_leaf : {V L : Type 0} (content : Content V L) (leaf : L) (P : L → Type 0) → content ≡ PartLeaf leaf → OnLeaf content P → P leaf
of_leaf {V} {L} content leaf P e h = subst (λ (x : Content V L). OnLeaf x P) e h

-- ---- a walk that passes over what is inactive

-- the states so far: the active voxels and the neighbours of what the walk has passed, and no voxel that the iteration doesn't activate
pub record IsPartly {V : Type 0} (bits : Bits) (f : Field V) (at : Option Coord) (states : Field Bool) : Type 0 where
  pub background : states.background ≡ false
  pub value : (p : Coord) → InRange p → (states.cell p).value ≡ false
  pub kept : (p : Coord) → InRange p → on f p ≡ true → on states p ≡ true
  pub reached : (p : Coord) → InRange p → list_any (λ q. on f q && not (is_left bits at q)) (neighbours p) ≡ true → on states p ≡ true
  pub only : (p : Coord) → InRange p → on states p ≡ true → on (dilate f) p ≡ true

never : {A : Type 0} (b : Bool) → b ≡ true → b ≡ false → A
never b h k = let e : ◌≡◌ {A = Bool} true false = sym h ∙ k in cc

module _ {V : Type 0} (bits : Bits) (t : Layout V) where
  abbrev pub whole : Field V
  whole = field_of bits t

  -- active, and passed by the walk
  abbrev pub is_done : Option Coord → Coord → Bool
  is_done at q = on whole q && not (is_left bits at q)

  -- at the start
  pub partly_first : (states : Field Bool) → states ≡ topology whole → IsPartly bits whole (Some everywhere.min) states
  partly_first states e = record {
    background = ap (λ (g : Field Bool). g.background) e;
    value = λ p inside. ap (λ (g : Field Bool). (g.cell p).value) e ∙ topology_value whole p inside;
    kept = λ p inside h. same p inside ∙ h;
    reached = λ p inside h. never (list_any (is_done (Some everywhere.min)) (neighbours p)) h (none_near p (is_done (Some everywhere.min)) nothing);
    only = λ p inside h. dilated_on whole p inside ∙ or_first (on whole p) (list_any (on whole) (neighbours p)) (sym (same p inside) ∙ h);
  }
    where
      same : (p : Coord) → InRange p → on states p ≡ on whole p
      same p inside = ap (λ (g : Field Bool). on g p) e ∙ topology_on whole p inside

      all_left : (o l : Bool) → (l ≡ true → ⊥) → (o && not (not l)) ≡ false
      all_left true true h = absurd (h refl)
      all_left false true h = refl
      all_left true false h = refl
      all_left false false h = refl

      nothing : (q : Coord) → InRange q → is_done (Some everywhere.min) q ≡ false
      nothing q inside = all_left (on whole q) (is_lt (block_cmp bits q everywhere.min)) (not_before_min bits everywhere q inside)

  module _ (old new : TreeWalk V) (box : old.box ≡ everywhere) (skip : old.skip ≡ Inactive) where
    passed_off : (but : Coord → Bool) → Passes bits t old new but → (q : Coord) → InRange q → is_left bits old.at q ≡ true → is_left bits new.at q ≡ false → but q ≡ false → on whole q ≡ false
    passed_off but passes q inside l gone out =
        subst (λ (s : Skip). IsSkipped bits s t q) skip (passes.passed q (subst (λ (b : Box). is_inside b q ≡ true) (sym box) inside) l gone out)

    module _ (states : Field Bool) (had : IsPartly bits whole old.at states) where
      -- a part spreads its active voxels, and no inactive one
      pub partly_more : (part : Box) → YieldsBox bits t old new part → (test : Coord → Bool) → ((q : Coord) → InRange q → test q ≡ true → on whole q ≡ true)
          → ((q : Coord) → is_inside part q ≡ true → on whole q ≡ true → test q ≡ true) → (grown : Field Bool) → grown ≡ spread test states → IsPartly bits whole new.at grown
      partly_more part y test sound complete grown e = record {
        background = ap (λ (g : Field Bool). g.background) e ∙ had.background;
        value = λ p inside. ap (λ (g : Field Bool). (g.cell p).value) e ∙ spread_value states test p inside ∙ had.value p inside;
        kept = λ p inside h. is p inside ∙ or_first (on states p) (list_any test (neighbours p)) (had.kept p inside h);
        reached = λ p inside h. is p inside ∙ elim (either_near p (is_done new.at) (is_done old.at) test before h) [
          | inl k ↦ or_first (on states p) (list_any test (neighbours p)) (had.reached p inside k)
          | inr k ↦ or_second (on states p) (list_any test (neighbours p)) k
        ];
        only = λ p inside h. elim (or_cases (on states p) (list_any test (neighbours p)) (sym (is p inside) ∙ h)) [
          | inl k ↦ had.only p inside k
          | inr k ↦ dilated_on whole p inside ∙ or_second (on whole p) (list_any (on whole) (neighbours p)) (some_near p test (on whole) sound k)
        ];
      }
        where
          is : (p : Coord) → InRange p → on grown p ≡ (on states p || list_any test (neighbours p))
          is p inside = ap (λ (g : Field Bool). on g p) e ∙ spread_on states test p inside

          before : (q : Coord) → InRange q → is_done new.at q ≡ true → (is_done old.at q || test q) ≡ true
          before q inside h =
              let now = both (on whole q) (not (is_left bits new.at q)) h in
              elim (bool_cases (is_left bits old.at q)) [
                | inl l ↦ elim (bool_cases (is_inside part q)) [
                  | inl i ↦ or_second (is_done old.at q) (test q) (complete q i now.0)
                  | inr out ↦ never (on whole q) now.0 (passed_off (is_inside part) y.passes q inside l (was_false (is_left bits new.at q) now.1) out)
                ]
                | inr l ↦ or_first (is_done old.at q) (test q) (and_true (on whole q) (not (is_left bits old.at q)) now.0 (not_from (is_left bits old.at q) l))
              ]

      -- the coordinates of a part lie in the range
      pub part_inside : (part : Box) → YieldsBox bits t old new part → (q : Coord) → is_inside part q ≡ true → InRange q
      part_inside part y q i = subst (λ (b : Box). is_inside b q ≡ true) box (y.inside q i)

      -- a tile: active voxels of the states spread
      pub tile_kept : (part : Box) → YieldsBox bits t old new part → (cell : Cell V) → ((q : Coord) → is_inside part q ≡ true → whole.cell q ≡ cell) → cell.on ≡ true → (q : Coord) → is_inside part q ≡ true → on states q ≡ true
      tile_kept part y cell same active q i = had.kept q (part_inside part y q i) (ap (λ (c : Cell V). c.on) (same q i) ∙ active)

      pub tile_more : (part : Box) → YieldsBox bits t old new part → (cell : Cell V) → ((q : Coord) → is_inside part q ≡ true → whole.cell q ≡ cell) → (grown : Field Bool)
          → grown ≡ spread (λ q. cell.on && is_inside part q) states → IsPartly bits whole new.at grown
      tile_more part y cell same grown e =
          partly_more part y (λ q. cell.on && is_inside part q) (λ q inside h. let k = both cell.on (is_inside part q) h in ap (λ (c : Cell V). c.on) (same q k.1) ∙ k.0)
          (λ q i o. and_true cell.on (is_inside part q) (sym (ap (λ (c : Cell V). c.on) (same q i)) ∙ o) i) grown e

      -- a leaf: its whole block spreads
      pub leaf_more : (part : Box) → YieldsBox bits t old new part → ((q r : Coord) → is_inside part q ≡ true → is_inside part r ≡ true → block_number bits Leaf q ≡ block_number bits Leaf r) → (p : Coord) → p ≡ part.min
          → (grown : Field Bool) → grown ≡ spread (λ q. is_around bits p q && on whole q) states → IsPartly bits whole new.at grown
      leaf_more part y block p corner grown e =
          partly_more part y (λ q. is_around bits p q && on whole q) (λ q inside h. (both (is_around bits p q) (on whole q) h).1)
          (λ q i o. and_true (is_around bits p q) (on whole q) (around bits p q (block q part.min i (min_inside part (box_from_inside part q i)) ∙ ap (block_number bits Leaf) (sym corner))) o) grown e

  module _ (old new : TreeWalk V) (box : old.box ≡ everywhere) (skip : old.skip ≡ Inactive) (passes : Passes bits t old new (λ q. false)) (none : new.at ≡ None) (states : Field Bool) (had : IsPartly bits whole old.at states) where
    done : (q : Coord) → InRange q → on whole q ≡ true → is_done old.at q ≡ true
    done q inside o = elim (bool_cases (is_left bits old.at q)) [
      | inl l ↦ never (on whole q) o (passed_off old new box skip (λ r. false) passes q inside l (ap (λ (a : Option Coord). is_left bits a q) none) refl)
      | inr l ↦ and_true (on whole q) (not (is_left bits old.at q)) o (not_from (is_left bits old.at q) l)
    ]

    each : (p : Coord) → InRange p → on (dilate whole) p ≡ true → on states p ≡ true
    each p inside h = elim (or_cases (on whole p) (list_any (on whole) (neighbours p)) (sym (dilated_on whole p inside) ∙ h)) [
      | inl k ↦ had.kept p inside k
      | inr k ↦ had.reached p inside (some_near p (on whole) (is_done old.at) done k)
    ]

    -- at the end all neighbours are reached
    pub partly_last : states ≡ field states.background states.cell → states ≡ topology (dilate whole)
    partly_last cut =
        cut ∙ ap (λ (v : Bool). field v states.cell) had.background
        ∙ same_cells false states.cell _ (λ p inside.
        let v = had.value p inside in
        let s = same_truth (on states p) (on (dilate whole) p) (had.only p inside) (each p inside) in
        λ i. record { value = v i; on = s i })

-- the field of a tree is fixed outside the range
pub tree_cut : {V : Type 0} (bits : Bits) (t : Layout V) → field_of bits t ≡ field (field_of bits t).background (field_of bits t).cell
tree_cut bits t = cut_again t.background (cell_at bits t)

-- in the course of an iteration each value is false, also past the range
pub partly_values : {V : Type 0} (bits : Bits) (f : Field V) (at : Option Coord) (states : Field Bool) → states ≡ field states.background states.cell
    → IsPartly bits f at states → (q : Coord) → (states.cell q).value ≡ false
partly_values bits f at states cut had q = elim (bool_cases (is_inside everywhere q)) [
  | inl i ↦ had.value q i
  | inr o ↦ ap (λ (g : Field Bool). (g.cell q).value) cut ∙ rw o had.background
]
