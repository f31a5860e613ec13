-- Tiles that are split for a box, and stay split when nodes are added.
use Rattle.vdb_tree.proofs.Common.{◌≡◌, ◌≢◌, ◌⊎◌, inl, inr, ℕ, true, refl, sym, ap, ◌∙◌, IsTrue, Some, None, Option, Ok, Err, IsSome, OnOk, Result, block_number, key, Box, coord_cmp, is_box, is_inside, IsBlockBefore, IsNextBlock, Bits, Coord, Level, Leaf, Lower, Upper, min_inside, none_before, Child, Tile, Cell, AddsNodes, Keeps, Layout, entry_over, background_cell, root_at, IsCut, MakesNoKey, MakesOnly, IsCovered, IsSplit, IsSplitTo, IsNextMet, IsPast}
use Rattle.vdb_tree.specs.SplitBox.{IsSplitAt}
use Rattle.vdb_tree.proofs.Covered.{leaf_covered, lower_covered}
use Rattle.vdb_tree.proofs.Descents.{tile_lower, tile_upper}
use Rattle.vdb_tree.proofs.KeysPast.{past_on}
use Rattle.vdb_tree.proofs.Levels.{coord_cases, same_tile, some_held, tile_no_child}
use Rattle.vdb_tree.proofs.MadeNodes.{keys_twice, makes_none, makes_twice}
use Rattle.vdb_tree.proofs.Needed.{absent_entry, is_some_from, some_or_none}
use Rattle.vdb_tree.proofs.Splits.{adds_itself, adds_twice, keeps_itself, keeps_twice}
use Rattle.vdb_tree.proofs.RootSweeps.{apart as later_apart, equal_left, past_or_not, same_keys}

-- if a result has a value, a fact that follows from a fact about the value
pub on_ok : {A E : Type 0} {P Q : Type 0} (r : Result A E) → OnOk r P → (P → Q) → OnOk r Q
on_ok (Ok x) h f = f h
on_ok (Err e) h f = tt

module _ {V : Type 0} (bits : Bits) (box : Box) (cell : Cell V) where
  -- what the box covers need not be split, nor what lies in a tile of the cell
  pub split_within : (level : Level) (t : Layout V) (q : Coord) → IsCovered bits box level q → IsSplitTo bits box cell level t q
  split_within Leaf t q h = λ tile e. inl h
  split_within Lower t q h = (λ tile e. inl (leaf_covered bits box q h), λ tile e. inl h)
  split_within Upper t q h = let l = lower_covered bits box q h in (λ tile e. inl (leaf_covered bits box q l), λ tile e. inl l, λ tile e. inl h)

  pub split_tiled : (level : Level) (t : Layout V) (q : Coord) → entry_over bits level t q ≡ Tile cell → IsSplitTo bits box cell level t q
  split_tiled Leaf t q at = λ tile e. inr (same_tile tile cell (sym e ∙ at))
  split_tiled Lower t q at = (λ tile e. inr (same_tile tile cell (sym e ∙ tile_lower bits t cell q at)), λ tile e. inr (same_tile tile cell (sym e ∙ at)))
  split_tiled Upper t q at =
      let below = tile_upper bits t cell q at in
      (λ tile e. inr (same_tile tile cell (sym e ∙ tile_lower bits t cell q below)), λ tile e. inr (same_tile tile cell (sym e ∙ below)), λ tile e. inr (same_tile tile cell (sym e ∙ at)))

  pub split_child : (level : Level) (t : Layout V) (q : Coord) (slot : ℕ) → entry_over bits level t q ≡ Child slot → IsSplitAt bits box cell level t q
  split_child level t q slot child = λ tile e. absurd (tile_no_child tile slot (sym e ∙ child))

  -- what is split stays split when nodes are added
  pub split_stays : (level : Level) (t n : Layout V) (q : Coord) → AddsNodes bits t n → IsSplitTo bits box cell level t q → IsSplitTo bits box cell level n q
  split_stays Leaf t n q adds h = λ tile e. h tile (adds.tiles Leaf q tile e)
  split_stays Lower t n q adds h = (λ tile e. h.0 tile (adds.tiles Leaf q tile e), λ tile e. h.1 tile (adds.tiles Lower q tile e))
  split_stays Upper t n q adds h = (λ tile e. h.0 tile (adds.tiles Leaf q tile e), λ tile e. h.1 tile (adds.tiles Lower q tile e), λ tile e. h.2 tile (adds.tiles Upper q tile e))

  -- ---- a walk over the level's blocks that meet a part of the box

  pub record SplitsTo (level : Level) (part : Box) (old new : Layout V) (p : Coord) : Type 0 where
    pub keeps : Keeps bits old new
    pub adds : AddsNodes bits old new
    pub made : MakesOnly bits (IsCut bits box cell) old new
    pub inside : IsTrue (is_inside part p)
    pub done : (q : Coord) → IsTrue (is_inside part q) → IsBlockBefore bits level q p → IsSplitTo bits box cell level new q

  module _ (level : Level) (part : Box) where
    pub split_none : (t : Layout V) → is_box part ≡ true → SplitsTo level part t t part.min
    split_none t is = record { keeps = keeps_itself bits t; adds = adds_itself bits t; made = makes_none bits (IsCut bits box cell) t t (λ q level. refl); inside = min_inside part is; done = λ q inside before. absurd (none_before bits level part q inside before) }

    module _ (old t n : Layout V) (p : Coord) (so_far : SplitsTo level part old t p) (keeps : Keeps bits t n) (adds : AddsNodes bits t n) (made : MakesOnly bits (IsCut bits box cell) t n)
        (edges : (q : Coord) → IsTrue (is_inside part q) → block_number bits level q ≡ block_number bits level p → IsSplitTo bits box cell level n q) where
      up_to : (q : Coord) → IsTrue (is_inside part q) → IsBlockBefore bits level q p ⊎ (block_number bits level q ≡ block_number bits level p) → IsSplitTo bits box cell level n q
      up_to q inside h = elim h [
        | inl before ↦ split_stays level t n q adds (so_far.done q inside before)
        | inr same ↦ edges q inside same
      ]

      pub split_next : (next : Coord) → IsNextBlock bits level part p (Some next) → SplitsTo level part old n next
      split_next next h = record { keeps = keeps_twice bits old t n so_far.keeps keeps; adds = adds_twice bits old t n so_far.adds adds; made = makes_twice bits (IsCut bits box cell) old t n so_far.keeps so_far.made made; inside = h.0; done = λ q inside before. up_to q inside (h.2 q inside before) }

      pub split_all : IsNextBlock bits level part p None → (q : Coord) → IsTrue (is_inside part q) → IsSplitTo bits box cell level n q
      split_all h q inside = up_to q inside (h q inside)

  -- ---- the upper extents in the order of keys

  pub record SplitsRoots (old new : Layout V) (passed : Option Coord) : Type 0 where
    pub keeps : Keeps bits old new
    pub adds : AddsNodes bits old new
    pub made : MakesOnly bits (IsCut bits box cell) old new
    pub keys : MakesNoKey old new
    pub ahead : (k : Coord) → IsPast passed k → root_at new.root k ≡ root_at old.root k
    pub done : (q : Coord) → IsTrue (is_inside box q) → (IsPast passed (key bits q) → ⊥) → IsSome (root_at new.root (key bits q)) → IsSplitTo bits box cell Upper new q

  pub roots_none : (t : Layout V) → SplitsRoots t t None
  roots_none t = record { keeps = keeps_itself bits t; adds = adds_itself bits t; made = makes_none bits (IsCut bits box cell) t t (λ q level. refl); keys = λ k h. h; ahead = λ k h. refl; done = λ q inside h. absurd (h tt) }

  module _ (old t n : Layout V) (passed : Option Coord) (so_far : SplitsRoots old t passed) where
    -- the next key of the table is the one that it had at first
    pub next_at_first : (next : Option Coord) → IsNextMet bits box t.root passed next → IsNextMet bits box old.root passed next
    next_at_first None next = λ k past met. sym (so_far.ahead k past) ∙ next k past met
    next_at_first (Some k) next = (rw (← so_far.ahead k next.1) next.0, next.1, λ j past met some. next.2 j past met (rw (so_far.ahead j past) some))

    module _ (keeps : Keeps bits t n) (adds : AddsNodes bits t n) where
      pub roots_next : (k : Coord) → MakesOnly bits (IsCut bits box cell) t n → MakesNoKey t n → IsNextMet bits box t.root passed (Some k) → ((j : Coord) → j ≢ k → root_at n.root j ≡ root_at t.root j)
          → ((q : Coord) → IsTrue (is_inside box q) → key bits q ≡ k → IsSplitTo bits box cell Upper n q) → SplitsRoots old n (Some k)
      roots_next k made keys next table edges = record {
        keeps = keeps_twice bits old t n so_far.keeps keeps;
        adds = adds_twice bits old t n so_far.adds adds;
        made = makes_twice bits (IsCut bits box cell) old t n so_far.keeps so_far.made made;
        keys = keys_twice old t n so_far.keys keys;
        ahead = λ j later. table j (later_apart k j later) ∙ so_far.ahead j (past_on passed k j next.1 later);
        done = λ q inside not_past some.
            elim (coord_cases (key bits q) k) [
              | inl e ↦ edges q inside e
              | inr d ↦
                  let was : IsSome (root_at t.root (key bits q)) = rw (← table (key bits q) d) some in
                  elim (past_or_not passed (key bits q)) [
                    | inr before ↦ split_stays Upper t n q adds (so_far.done q inside before was)
                    | inl past ↦ absurd (d (sym (same_keys k (key bits q) (equal_left (coord_cmp k (key bits q)) (next.2 (key bits q) past (q, inside, refl) was) not_past))))
                  ]
            ];
      }

      -- if no key is left, the tree is split for all of the box
      pub roots_end : IsNextMet bits box t.root passed None → ((k : Coord) → root_at n.root k ≡ root_at t.root k) → (q : Coord) → IsTrue (is_inside box q) → (cell ≡ background_cell n) ⊎ IsSome (root_at n.root (key bits q)) → IsSplitTo bits box cell Upper n q
      roots_end next same q inside entered =
          elim (some_or_none (root_at n.root (key bits q))) [
            | inl x ↦
                let held = is_some_from (root_at n.root (key bits q)) x.0 x.1 in
                let was : IsSome (root_at t.root (key bits q)) = rw (← same (key bits q)) held in
                split_stays Upper t n q adds (so_far.done q inside (λ past. some_held (root_at t.root (key bits q)) was (next (key bits q) past (q, inside, refl))) was)
            | inr none ↦ elim entered [
              | inl e ↦ split_tiled Upper n q (absent_entry bits n q none ∙ ap Tile (sym e))
              | inr some ↦ absurd (some_held (root_at n.root (key bits q)) some none)
            ]
          ]

  -- a tree is split for a box if it is split for each upper extent of the box that has an entry or needs none
  pub split_whole : (mid new : Layout V) → Keeps bits mid new → AddsNodes bits mid new → ((p : Coord) → IsTrue (is_inside box p) → (cell ≡ background_cell mid) ⊎ IsSome (root_at mid.root (key bits p)))
      → ((q : Coord) → IsTrue (is_inside box q) → (cell ≡ background_cell new) ⊎ IsSome (root_at new.root (key bits q)) → IsSplitTo bits box cell Upper new q) → IsSplit bits box cell new
  split_whole mid new keeps adds entered edges = record { tiles = λ level p inside. each level p (edges p inside (still p inside)); entered = still }
    where
      still : (p : Coord) → IsTrue (is_inside box p) → (cell ≡ background_cell new) ⊎ IsSome (root_at new.root (key bits p))
      still p inside = elim (entered p inside) [
        | inl e ↦ inl (let same = keeps.head.background in rw same e)
        | inr some ↦ inr (adds.keys (key bits p) some)
      ]

      each : (level : Level) (p : Coord) → IsSplitTo bits box cell Upper new p → IsSplitAt bits box cell level new p
      each Upper p h = h.2
      each Lower p h = h.1
      each Leaf p h = h.0

-- a tree split for a box stays split when nodes are added
pub box_stays : {V : Type 0} (bits : Bits) (box : Box) (cell : Cell V) (t n : Layout V) → Keeps bits t n → AddsNodes bits t n → IsSplit bits box cell t → IsSplit bits box cell n
box_stays bits box cell t n keeps adds edges = record {
  tiles = λ level p inside tile e. edges.tiles level p inside tile (adds.tiles level p tile e);
  entered = λ p inside. elim (edges.entered p inside) [
    | inl e ↦ inl (let same = keeps.head.background in rw same e)
    | inr some ↦ inr (adds.keys (key bits p) some)
  ];
}
