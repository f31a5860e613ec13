-- What stays when the children of a node become tiles, one after another.
use Rattle.vdb_tree.proofs.Common.{◌≡◌, ◌≢◌, ◌⊎◌, inl, inr, ℕ, ◌+◌, ◌-◌, ◌<◌, ◌≤◌, sym, ◌∙◌, arith, block_number, entries, offset, entry_number, Box, Bits, Coord, Level, corner_of_entry, entry_from_offset, offset_below, Entry, Child, Tile, Cell, Fills, KeepsBeyond, SameDescent, IsChildless, IsNextCornerAt, Layout, KeepsOutside, IsCovered}
use Rattle.vdb_tree.proofs.Covered.{covered_inside}
use Rattle.vdb_tree.proofs.Levels.{coord_cases, tile_no_child}
use Rattle.vdb_tree.proofs.Passes.{descent_trans, head_trans}

below_or : (a b : ℕ) → (a < b) ⊎ (b ≤ a)
below_or a b = grind arith

never : (j : ℕ) → j < 0 → ⊥
never j h = omega (arith, h)

least : (n : ℕ) → 0 ≤ n
least n = omega arith

-- the index after an index of a node
pub after : (from i n : ℕ) → from ≤ i → i < n → (from < i + 1) × (i + 1 ≤ n)
after from i n h k = (omega (arith, h), omega (arith, k))

pub fits : (i : ℕ) → i < 32768 → i + 1 < 4294967296
fits i h = omega (arith, h)

-- fewer entries of a node are left
pub fewer_left : (from next n : ℕ) → from < next → next ≤ n → n - next < n - from
fewer_left from next n h k = omega (arith, h, k)

module _ {V : Type 0} (bits : Bits) where
  -- ---- what lies beyond a block

  pub beyond_twice : (level : Level) (old mid new : Layout V) (p : Coord) → KeepsBeyond bits level old mid p → KeepsBeyond bits level mid new p → KeepsBeyond bits level old new p
  beyond_twice level old mid new p a b = record {
    head = head_trans old mid new a.head b.head;
    cells = λ q d. b.cells q d ∙ a.cells q d;
    entries = λ q d. descent_trans bits old mid new q (a.entries q d) (b.entries q d);
  }

  -- a change that keeps what is beyond an inner block keeps what is beyond the outer one
  pub beyond_wider : (outer inner : Level) → ((q r : Coord) → block_number bits inner q ≡ block_number bits inner r → block_number bits outer q ≡ block_number bits outer r)
      → (old new : Layout V) (p c : Coord) → block_number bits outer c ≡ block_number bits outer p → KeepsBeyond bits inner old new c → KeepsBeyond bits outer old new p
  beyond_wider outer inner up old new p c at keeps = record {
    head = keeps.head;
    cells = λ q d. keeps.cells q (λ same. d (up q c same ∙ at));
    entries = λ q d. keeps.entries q (λ same. d (up q c same ∙ at));
  }

  pub filled_beyond : (level : Level) (old new : Layout V) (p : Coord) (cell : Cell V) → Fills bits level old new p cell
      → ((q : Coord) → block_number bits level q ≢ block_number bits level p → SameDescent bits old new q) → KeepsBeyond bits level old new p
  filled_beyond level old new p cell fills others = record { head = fills.head; cells = fills.cells.there; entries = others }

  -- a change that keeps what is beyond a covered block keeps what is outside the box's part of it
  pub beyond_outside : (box : Box) (level : Level) (old new : Layout V) (p : Coord) → IsCovered bits box level p → KeepsBeyond bits level old new p → KeepsOutside bits box level old new (block_number bits level p)
  beyond_outside box level old new p covered keeps = record {
    head = keeps.head;
    cells = λ q out. keeps.cells q (λ same. out (covered_inside bits box level p q covered same) same);
    entries = λ q out. keeps.entries q (λ same. out (covered_inside bits box level p q covered same) same);
  }

  -- ---- the children of a node

  module _ (level : Level) (p : Coord) where
    pub clears_none : (entry : Coord → Entry V) → IsChildless bits level entry p 0 0
    clears_none entry q slot b more less e = never (offset bits level q) less

    pub clears_all : (entry : Coord → Entry V) → IsChildless bits level entry p 0 (entries bits level) → (q : Coord) (slot : ℕ) → block_number bits level q ≡ block_number bits level p → entry q ≡ Child slot → ⊥
    clears_all entry none q slot b e = none q slot b (least (offset bits level q)) (offset_below bits level q) e

    -- the entries before an offset, and those from it on
    pub clears_end : (entry : Coord → Entry V) (from to : ℕ) → IsChildless bits level entry p from to → IsChildless bits level entry p 0 from → IsChildless bits level entry p 0 to
    clears_end entry from to late early q slot b more less e = elim (below_or (offset bits level q) from) [
      | inl k ↦ early q slot b more k e
      | inr k ↦ late q slot b k less e
    ]

    -- the first child became a tile
    module _ (old new : Coord → Entry V) (from index : ℕ) (c : Coord) (cell : Cell V) (next : IsNextCornerAt bits level old p from index c)
        (here : (q : Coord) → entry_number bits level q ≡ entry_number bits level c → new q ≡ Tile cell)
        (there : (q : Coord) → entry_number bits level q ≢ entry_number bits level c → new q ≡ old q) where
      at : (block_number bits level c ≡ block_number bits level p) × (offset bits level c ≡ index)
      at = let k = corner_of_entry bits level p index next.within in let e = next.at in rw e k

      here_or_before : (n : ℕ) → n < index + 1 → (n < index) ⊎ (n ≡ index)
      here_or_before n h = grind (arith, h)

      pub clears_step : IsChildless bits level old p 0 from → IsChildless bits level new p 0 (index + 1)
      clears_step early q slot b more less e = elim (coord_cases (entry_number bits level q) (entry_number bits level c)) [
        | inl same ↦ tile_no_child {V = V} cell slot (sym (here q same) ∙ e)
        | inr other ↦
            let was = sym (there q other) ∙ e in
            elim (here_or_before (offset bits level q) less) [
              | inl k ↦ clears_end old from index next.before early q slot b more k was
              | inr k ↦ absurd (other (entry_from_offset bits level q c (b ∙ sym at.0) (k ∙ sym at.1)))
            ]
      ]
