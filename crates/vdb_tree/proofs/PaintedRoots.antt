-- Painting upper extent after upper extent, in the order of keys.
use Rattle.vdb_tree.proofs.Common.{◌≡◌, ◌≢◌, ◌⊎◌, inl, inr, false, refl, sym, ap, ◌∙◌, IsTrue, Option, Some, None, IsSome, key, meets, Box, coord_cmp, is_inside, Bits, Coord, Level, Leaf, Lower, Upper, Tile, Cell, KeepsHead, SameDescent, fill, Layout, cell_at, entry_over, field_of, background_cell, root_at, ArePainted, AreSplit, IsPainted, KeepsOutside, IsCovered, IsSplit, IsNextMet, IsPast}
use Rattle.vdb_coord.proofs.Meeting.{meets_from_common}
use Rattle.vdb_tree.proofs.Blocks.{never}
use Rattle.vdb_tree.proofs.Equations.{same_field}
use Rattle.vdb_tree.proofs.Fields.{cell_inside}
use Rattle.vdb_tree.proofs.KeysPast.{past_on}
use Rattle.vdb_tree.proofs.Levels.{bool_cases, coord_cases, same_tile, some_held}
use Rattle.vdb_tree.proofs.Needed.{absent_entry, is_some_from, some_or_none}
use Rattle.vdb_tree.proofs.Covered.{covered_inside}
use Rattle.vdb_tree.proofs.Paints.{painted_moved, split_after, tile_painted}
use Rattle.vdb_tree.proofs.Passes.{descent_trans, head_same, head_trans}
use Rattle.vdb_tree.proofs.RootSweeps.{apart, equal_left, past_or_not, same_keys}

module _ {V : Type 0} (bits : Bits) (box : Box) (cell : Cell V) where
  -- the box is painted up to this key, and the table past the key stays
  pub record PaintsRootsTo (old new : Layout V) (passed : Option Coord) : Type 0 where
    pub head : KeepsHead old new
    pub keys : (k : Coord) → IsSome (root_at old.root k) → IsSome (root_at new.root k)
    pub ahead : (k : Coord) → IsPast passed k → root_at new.root k ≡ root_at old.root k
    pub cells : (q : Coord) → (IsTrue (is_inside box q) → ⊥) → cell_at bits new q ≡ cell_at bits old q
    pub entries : (q : Coord) → (IsTrue (is_inside box q) → ⊥) → SameDescent bits old new q
    pub done : (q : Coord) → IsTrue (is_inside box q) → (IsPast passed (key bits q) → ⊥) → IsPainted bits box cell Upper new q

  pub roots_none : (t : Layout V) → PaintsRootsTo t t None
  roots_none t = record {
    head = head_same t;
    keys = λ k h. h;
    ahead = λ k h. refl;
    cells = λ q out. refl;
    entries = λ q out level. refl;
    done = λ q inside h. absurd (h tt);
  }

  -- the next key of the table is the one that it had at first
  pub next_at_first : (old mid : Layout V) (passed : Option Coord) (k : Coord) → PaintsRootsTo old mid passed → IsNextMet bits box mid.root passed (Some k) → IsNextMet bits box old.root passed (Some k)
  next_at_first old mid passed k paints next =
      (rw (← paints.ahead k next.1) next.0, next.1, λ j past met some. next.2 j past met (rw (paints.ahead j past) some))

  module _ (old : Layout V) (entered : (q : Coord) → IsTrue (is_inside box q) → (cell ≡ background_cell old) ⊎ IsSome (root_at old.root (key bits q))) where
    -- an upper extent without an entry is painted, because the cell is the background
    absent_painted : (t : Layout V) → KeepsHead old t → ((k : Coord) → IsSome (root_at old.root k) → IsSome (root_at t.root k)) → (q : Coord) → IsTrue (is_inside box q)
        → root_at t.root (key bits q) ≡ None → IsPainted bits box cell Upper t q
    absent_painted t head keys q inside none = elim (entered q inside) [
      | inl is ↦
          let same : background_cell t ≡ background_cell old = let b = head.background in rw b refl in
          tile_painted bits box cell Upper t q (absent_entry bits t q none ∙ ap Tile (same ∙ sym is))
      | inr some ↦ absurd (some_held (root_at t.root (key bits q)) (keys (key bits q) some) none)
    ]

    module _ (mid new : Layout V) (passed : Option Coord) (k : Coord) (so_far : PaintsRootsTo old mid passed) (next : IsNextMet bits box mid.root passed (Some k)) (outside : KeepsOutside bits box Upper mid new k)
        (painted : ArePainted bits box cell Upper Upper new k) (table : (j : Coord) → j ≢ k → root_at new.root j ≡ root_at mid.root j) (there : IsSome (root_at new.root k)) where
      new_head : KeepsHead old new
      new_head = head_trans old mid new so_far.head outside.head

      new_keys : (j : Coord) → IsSome (root_at old.root j) → IsSome (root_at new.root j)
      new_keys j h = elim (coord_cases j k) [
        | inl e ↦ rw e there
        | inr d ↦ let same = table j d in rw same (so_far.keys j h)
      ]

      pub roots_next : PaintsRootsTo old new (Some k)
      roots_next = record {
        head = new_head;
        keys = new_keys;
        ahead = λ j later. table j (apart k j later) ∙ so_far.ahead j (past_on passed k j next.1 later);
        cells = λ q out. outside.cells q (λ inside _. out inside) ∙ so_far.cells q out;
        entries = λ q out. descent_trans bits old mid new q (so_far.entries q out) (outside.entries q (λ inside _. out inside));
        done = λ q inside not_past.
            elim (coord_cases (key bits q) k) [
              | inl e ↦ painted q inside e
              | inr d ↦ elim (past_or_not passed (key bits q)) [
                | inr before ↦ painted_moved bits box cell Upper mid new q (outside.cells q (λ _ same. d same)) (outside.entries q (λ _ same. d same)) (so_far.done q inside before)
                | inl past ↦
                    elim (some_or_none (root_at mid.root (key bits q))) [
                      | inl x ↦ absurd (d (sym (same_keys k (key bits q) (equal_left (coord_cmp k (key bits q)) (next.2 (key bits q) past (q, inside, refl) (is_some_from _ x.0 x.1)) not_past))))
                      | inr none ↦ absent_painted new new_head new_keys q inside (table (key bits q) d ∙ none)
                    ]
              ]
            ];
      }

      pub roots_split : AreSplit bits box cell mid → AreSplit bits box cell new
      roots_split = split_after bits box cell Upper Upper mid new k outside painted

    -- ---- no key is left

    module _ (new : Layout V) (passed : Option Coord) (paints : PaintsRootsTo old new passed) (none : IsNextMet bits box new.root passed None) where
      all_painted : (q : Coord) → IsTrue (is_inside box q) → IsPainted bits box cell Upper new q
      all_painted q inside = elim (past_or_not passed (key bits q)) [
        | inr before ↦ paints.done q inside before
        | inl past ↦ absent_painted new paints.head paints.keys q inside (none (key bits q) past (q, inside, refl))
      ]

      pub painted_field : field_of bits new ≡ fill box cell (field_of bits old)
      painted_field = same_field bits new old.background _ paints.head.background (λ q everywhere.
          let at = cell_inside old.background (cell_at bits old) q everywhere in
          elim (bool_cases (is_inside box q)) [
            | inl within ↦ rw within (all_painted q within).0
            | inr beyond ↦ rw (beyond, at) (paints.cells q (λ within. never beyond within))
          ])

      pub painted_tiles : (level : Level) (p : Coord) → IsCovered bits box level p → entry_over bits level new p ≡ Tile cell
      painted_tiles Leaf p covered = (all_painted p (covered_inside bits box Leaf p p covered refl)).1.0 covered
      painted_tiles Lower p covered = (all_painted p (covered_inside bits box Lower p p covered refl)).1.1 covered
      painted_tiles Upper p covered = (all_painted p (covered_inside bits box Upper p p covered refl)).1.2 covered

      -- a tree split for a box and the same cell stays split
      pub painted_again : AreSplit bits box cell new → (other : Box) → IsSplit bits other cell old → IsSplit bits other cell new
      painted_again are other edges = record {
        tiles = λ level p inside tile e. elim (bool_cases (is_inside box p)) [
          | inl within ↦ elim (are level p within tile e) [
            | inl covered ↦ inr (same_tile tile cell (sym e ∙ painted_tiles level p covered))
            | inr is ↦ inr is
          ]
          | inr beyond ↦ edges.tiles level p inside tile (sym (paints.entries p (never beyond) level) ∙ e)
        ];
        entered = λ p inside.
            elim (edges.entered p inside) [
              | inl is ↦ inl (is ∙ (let b = paints.head.background in rw b refl))
              | inr some ↦ inr (paints.keys (key bits p) some)
            ];
      }

      -- the tree stays split for a box apart from this one
      pub painted_apart : (other : Box) (c : Cell V) → meets box other ≡ false → IsSplit bits other c old → IsSplit bits other c new
      painted_apart other c not edges = record {
        tiles = λ level p inside tile e. edges.tiles level p inside tile (sym (paints.entries p (outside p inside) level) ∙ e);
        entered = λ p inside.
            elim (edges.entered p inside) [
              | inl is ↦ inl (is ∙ (let b = paints.head.background in rw b refl))
              | inr some ↦ inr (paints.keys (key bits p) some)
            ];
      }
        where
          outside : (p : Coord) → IsTrue (is_inside other p) → IsTrue (is_inside box p) → ⊥
          outside p inside here = never not (meets_from_common box other p here inside)
