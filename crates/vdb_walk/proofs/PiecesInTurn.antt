-- The pieces of a tree in block order.
use Rattle.vdb_walk.proofs.Common.{◌≡◌, ◌⊎◌, inl, inr, sym, ap, ◌∙◌, refl, subst, ℕ, ℤ, ◌<◌, int_le, true, false, arith, IsTrue, Option, Some, None, IfSome, is_lt, Ordering, Less, Equal, Greater, block, block_around, block_cmp, block_number, block_numbers, is_past, key, offset, ints, is_bounds, AreBits, Box, coord_cmp, everywhere, is_box, is_inside, is_within, Bits, Coord, Level, Leaf, Lower, Upper, and_true, both, three, corner_in_range, number_of_corner, inside_around, inside_numbered, lower_from_leaf, number_in_block, offset_from_entry, upper_from_lower, Entry, Child, Tile, Layout, field_of, lower_entry, root_at, from_key, from_lower, from_upper, precedes, bool_cases, IsEnteredPast, IsFirst, IsPastLast, IsNextPiece, Passage}
use Rattle.std.specs.Prelude.{IsSome}
use Rattle.std.specs.Ordering.{is_gt}
use Rattle.vdb_coord.proofs.Boxes.{together as three_together}
use Rattle.vdb_coord.proofs.InRange.{block_in_range}
use Rattle.vdb_coord.proofs.Nesting.{leaf_from_lower, lower_from_upper}
use Rattle.vdb_tree.specs.Layout.{root_entry, upper_entry}
use Rattle.vdb_tree.specs.Pieces.{box_of_entry, piece_around}
use Rattle.vdb_tree.specs.Table.{IsNextKey, IsPast}
use Rattle.vdb_coord.proofs.BlockOrder.{key_equal, Precedes}
use Rattle.vdb_tree.proofs.Descents.{lower_by_block, root_by_block, upper_by_block}
use Rattle.vdb_tree.proofs.PieceCells.{only_self}
use Rattle.vdb_tree.specs.declared.queries.pieces.Piece.{Piece}
use Rattle.vdb_walk.specs.internal.Firsts.{EndsPiece, IsEntered}
use Rattle.vdb_walk.specs.Passing.{IsAhead}
use Rattle.vdb_walk.proofs.BoxOrder.{between_x, between_y, between_z}
use Rattle.vdb_walk.proofs.Firsts.{first_or_same, first_same, never_back, never_before_min, never_past_max}
use Rattle.vdb_walk.proofs.Keys.{IsUpTo}

false_true : false ≡ true → ⊥
false_true e = cc

none_some : {A : Type 0} (o : Option A) → o ≡ None → IsSome o → ⊥
none_some (Some x) e h = cc
none_some None e h = false_true h

module _ {V : Type 0} (bits : Bits) (t : Layout V) where
  -- no entry lies past a key if the table ends before
  pub none_of_key : (after : Option Coord) → IsNextKey t.root after None → IsFirst bits (IsEntered bits t after) everywhere None
  none_of_key after none = λ q i k. none_some (root_at t.root (key bits q)) (none (key bits q) k.1) k.0

  at_least : (k l : Coord) → is_gt (coord_cmp k l) ≡ false → (l ≡ k) ⊎ (coord_cmp k l ≡ Less)
  at_least k l h = by (coord_cmp k l) refl
    where
      by : (o : Ordering) → coord_cmp k l ≡ o → (l ≡ k) ⊎ (coord_cmp k l ≡ Less)
      by Less e = inr e
      by Equal e = inl (sym (key_equal k l e))
      by Greater e = absurd (false_true (sym h ∙ ap is_gt e))

  -- the first coordinate of the next key's block is the first
  pub first_of_key : (after : Option Coord) (k : Coord) → AreBits bits → IsTrue (is_inside (block_numbers bits Upper) k) → IsNextKey t.root after (Some k) → (p : Coord) → p ≡ (block bits Upper k).min
      → IsFirst bits (IsEntered bits t after) everywhere (Some p)
  first_of_key after k configured within next p e =
      let at : key bits p ≡ k = ap (key bits) e ∙ number_of_corner bits Upper k in (
        subst (λ (c : Coord). IsTrue (is_inside everywhere c)) (sym e) (corner_in_range bits Upper configured k within),
        (subst (λ (l : Coord). IsSome (root_at t.root l)) (sym at) next.0, subst (IsPast after) (sym at) next.1),
        λ q i h. elim (at_least k (key bits q) (next.2 (key bits q) h.1 h.0)) [
          | inl s ↦ subst (λ (c : Coord). is_lt (block_cmp bits q c) ≡ false) (sym e) (never_before_min bits (block bits Upper k) q (inside_numbered bits Upper k q s))
          | inr l ↦ never_back bits p q (from_key bits p q (subst (λ (n : Coord). coord_cmp n (key bits q) ≡ Less) (sym at) l))
        ],
      )

  module _ (last : Coord) where
    -- a coordinate past the last one lies in its root block, or under a later key
    here_or_later : (q : Coord) → IsPastLast bits (Some last) q → (key bits q ≡ key bits last) ⊎ (coord_cmp (key bits last) (key bits q) ≡ Less)
    here_or_later q h = elim (precedes bits last q h) [ inl l ↦ inr l | inr s ↦ inl (sym s.0) ]

    in_block : (q : Coord) → key bits q ≡ key bits last → is_inside (block_around bits Upper last) q ≡ true
    in_block q e = inside_numbered bits Upper (key bits last) q e

    -- the first coordinate past the last one in its own root block
    pub first_here : AreBits bits → IsTrue (is_inside everywhere last) → IsSome (root_at t.root (key bits last)) → (p : Coord) → IsFirst bits (IsPastLast bits (Some last)) (block_around bits Upper last) (Some p)
        → IsFirst bits (IsEnteredPast bits t (Some last)) everywhere (Some p)
    first_here configured inside entry p h =
        let at : key bits p ≡ key bits last = number_in_block bits Upper (key bits last) p h.0 in (
          block_in_range bits Upper configured last p inside at,
          (subst (λ (l : Coord). IsSome (root_at t.root l)) (sym at) entry, h.1),
          λ q i k. elim (here_or_later q k.1) [
            | inl e ↦ h.2 q (in_block q e) k.1
            | inr l ↦ never_back bits p q (from_key bits p q (subst (λ (n : Coord). coord_cmp n (key bits q) ≡ Less) (sym at) l))
          ],
        )

    -- or the first coordinate under a later key
    pub first_later : IsFirst bits (IsPastLast bits (Some last)) (block_around bits Upper last) None → (found : Option Coord) → IsFirst bits (IsEntered bits t (Some (key bits last))) everywhere found
        → IsFirst bits (IsEnteredPast bits t (Some last)) everywhere found
    first_later none (Some p) h =
        (h.0, (h.1.0, from_key bits last p h.1.1), λ q i k. elim (here_or_later q k.1) [ inl e ↦ absurd (none q (in_block q e) k.1) | inr l ↦ h.2 q i (k.0, l) ])
    first_later none None h = λ q i k. elim (here_or_later q k.1) [ inl e ↦ none q (in_block q e) k.1 | inr l ↦ h q i (k.0, l) ]

-- ---- blocks lie together in block order

up_from : (bits : Bits) (level : Level) (p q : Coord) → block_number bits level p ≡ block_number bits level q → key bits p ≡ key bits q
up_from bits Upper p q e = e
up_from bits Lower p q e = upper_from_lower bits p q e
up_from bits Leaf p q e = upper_from_lower bits p q (lower_from_leaf bits p q e)

-- a coordinate between two of one block, from the first on and before the second, lies in the block
pub together : (bits : Bits) (level : Level) (m n q : Coord) → block_number bits level m ≡ block_number bits level n → is_lt (block_cmp bits q m) ≡ false → is_lt (block_cmp bits q n) ≡ true
    → block_number bits level q ≡ block_number bits level n
together bits level m n q same not_before before = by level same (precedes bits q n before)
  where
    key_less : key bits m ≡ key bits n → coord_cmp (key bits q) (key bits n) ≡ Less → ⊥
    key_less e l = false_true (sym not_before ∙ from_key bits q m (subst (λ (k : Coord). coord_cmp (key bits q) k ≡ Less) (sym e) l))

    upper_less : block_number bits Lower m ≡ block_number bits Lower n → key bits q ≡ key bits n → offset bits Upper q < offset bits Upper n → ⊥
    upper_less e k l =
        let o = offset_from_entry bits Upper m n e in
        false_true (sym not_before ∙ from_upper bits q m (k ∙ sym (upper_from_lower bits m n e)) (omega (arith, o, l)))

    lower_less : block_number bits Leaf m ≡ block_number bits Leaf n → key bits q ≡ key bits n → offset bits Upper q ≡ offset bits Upper n → offset bits Lower q < offset bits Lower n → ⊥
    lower_less e k u l =
        let o = offset_from_entry bits Lower m n e in
        let lower = lower_from_leaf bits m n e in
        false_true (sym not_before ∙ from_lower bits q m (k ∙ sym (upper_from_lower bits m n lower)) (u ∙ sym (offset_from_entry bits Upper m n lower)) (omega (arith, o, l)))

    by : (l : Level) → block_number bits l m ≡ block_number bits l n → Precedes bits q n → block_number bits l q ≡ block_number bits l n
    by Upper e h = elim h [ inl l ↦ absurd (key_less e l) | inr k ↦ k.0 ]
    by Lower e h =
        elim h [
          | inl l ↦ absurd (key_less (upper_from_lower bits m n e) l)
          | inr k ↦ elim k.1 [ inl l ↦ absurd (upper_less e k.0 l) | inr u ↦ lower_from_upper bits q n k.0 u.0 ]
        ]
    by Leaf e h =
        elim h [
          | inl l ↦ absurd (key_less (up_from bits Leaf m n e) l)
          | inr k ↦ elim k.1 [
            | inl l ↦ absurd (upper_less (lower_from_leaf bits m n e) k.0 l)
            | inr u ↦ elim u.1 [ inl l ↦ absurd (lower_less e k.0 u.0 l) | inr f ↦ leaf_from_lower bits q n (lower_from_upper bits q n k.0 u.0) f.0 ]
          ]
        ]

-- ---- pieces

max_inside : (b : Box) → is_box b ≡ true → is_inside b b.max ≡ true
max_inside b h =
    let t = three (int_le b.min.x b.max.x) (int_le b.min.y b.max.y) (int_le b.min.z b.max.z) h in
    three_together _ _ _ (and_true _ _ t.0 (itself b.max.x)) (and_true _ _ t.1 (itself b.max.y)) (and_true _ _ t.2 (itself b.max.z))
  where
    itself : (x : ℤ) → int_le x x ≡ true
    itself x = grind (arith, ints)

module _ {V : Type 0} (bits : Bits) (t : Layout V) where
  -- a piece is a tile's block, and all its coordinates have that piece
  pub record IsTileOver (level : Level) (n : Coord) : Type 0 where
    pub box : piece_around bits t n ≡ block_around bits level n
    pub each : (q : Coord) → block_number bits level q ≡ block_number bits level n → piece_around bits t q ≡ block_around bits level q

  -- the piece around a coordinate below a lower node, and below an upper one
  abbrev in_lower : Coord → Box
  in_lower n = box_of_entry (lower_entry bits t n) (block_around bits Leaf n) (record { min = n; max = n })

  abbrev in_upper : Coord → Box
  in_upper n = box_of_entry (upper_entry bits t n) (block_around bits Lower n) (in_lower n)

  at_root : (n : Coord) (e : Entry V) → root_entry bits t n ≡ e → piece_around bits t n ≡ box_of_entry e (block_around bits Upper n) (in_upper n)
  at_root n e h = ap (λ (d : Entry V). box_of_entry d (block_around bits Upper n) (in_upper n)) h

  at_upper : (n : Coord) (r : ℕ) (e : Entry V) → root_entry bits t n ≡ Child r → upper_entry bits t n ≡ e → piece_around bits t n ≡ box_of_entry e (block_around bits Lower n) (in_lower n)
  at_upper n r e hr h = at_root n (Child r) hr ∙ ap (λ (d : Entry V). box_of_entry d (block_around bits Lower n) (in_lower n)) h

  at_lower : (n : Coord) (r u : ℕ) (e : Entry V) → root_entry bits t n ≡ Child r → upper_entry bits t n ≡ Child u → lower_entry bits t n ≡ e
      → piece_around bits t n ≡ box_of_entry e (block_around bits Leaf n) (record { min = n; max = n })
  at_lower n r u e hr hu h = at_upper n r (Child u) hr hu ∙ ap (λ (d : Entry V). box_of_entry d (block_around bits Leaf n) (record { min = n; max = n })) h

  by_lower : (n : Coord) (r u : ℕ) → root_entry bits t n ≡ Child r → upper_entry bits t n ≡ Child u → (e : Entry V) → lower_entry bits t n ≡ e → ((level : Level) × IsTileOver level n) ⊎ (piece_around bits t n ≡ record { min = n; max = n })
  by_lower n r u hr hu (Tile c) h = inl (
    Leaf,
    record {
      box = at_lower n r u (Tile c) hr hu h;
      each = λ q b.
          let lower = lower_from_leaf bits q n b in
          at_lower q r u (Tile c) (root_by_block bits t q n (upper_from_lower bits q n lower) ∙ hr) (upper_by_block bits t q n lower ∙ hu) (lower_by_block bits t q n b ∙ h);
    },
  )
  by_lower n r u hr hu (Child s) h = inr (at_lower n r u (Child s) hr hu h)

  by_upper : (n : Coord) (r : ℕ) → root_entry bits t n ≡ Child r → (e : Entry V) → upper_entry bits t n ≡ e → ((level : Level) × IsTileOver level n) ⊎ (piece_around bits t n ≡ record { min = n; max = n })
  by_upper n r hr (Tile c) h = inl (
    Lower,
    record {
      box = at_upper n r (Tile c) hr h;
      each = λ q b. at_upper q r (Tile c) (root_by_block bits t q n (upper_from_lower bits q n b) ∙ hr) (upper_by_block bits t q n b ∙ h);
    },
  )
  by_upper n r hr (Child s) h = by_lower n r s hr h (lower_entry bits t n) refl

  by_root : (n : Coord) (e : Entry V) → root_entry bits t n ≡ e → ((level : Level) × IsTileOver level n) ⊎ (piece_around bits t n ≡ record { min = n; max = n })
  by_root n (Tile c) h = inl (Upper, record { box = at_root n (Tile c) h; each = λ q b. at_root q (Tile c) (root_by_block bits t q n b ∙ h) })
  by_root n (Child s) h = by_upper n s h (upper_entry bits t n) refl

  tile_or_voxel : (n : Coord) → ((level : Level) × IsTileOver level n) ⊎ (piece_around bits t n ≡ record { min = n; max = n })
  tile_or_voxel n = by_root n (root_entry bits t n) refl

  -- all coordinates of a piece have that piece
  pub one_piece : (n q : Coord) → is_inside (piece_around bits t n) q ≡ true → (piece_around bits t q ≡ piece_around bits t n) × (key bits q ≡ key bits n)
  one_piece n q i =
      elim (tile_or_voxel n) [
        | inl l ↦
            let b = number_in_block bits l.0 (block_number bits l.0 n) q (ap (λ (c : Box). is_inside c q) (sym l.1.box) ∙ i) in
            (l.1.each q b ∙ ap (block bits l.0) b ∙ sym l.1.box, up_from bits l.0 q n b)
        | inr e ↦ let same = only_self n (piece_around bits t n) e q i in (ap (piece_around bits t) same, ap (key bits) same)
      ]

  -- the greatest coordinate of a piece ends it
  pub ends_piece : (n : Coord) (box : Box) → IsSome (root_at t.root (key bits n)) → box ≡ piece_around bits t n → is_bounds box ≡ true → EndsPiece bits t box.max
  ends_piece n box entry e h =
      let parts = both (is_box box) (is_within box everywhere) h in
      let one = one_piece n box.max (ap (λ (b : Box). is_inside b box.max) (sym e) ∙ max_inside box parts.0) in (
        (both (is_inside everywhere box.min) (is_inside everywhere box.max) parts.1).1,
        subst (λ (k : Coord). IsSome (root_at t.root k)) (sym one.1) entry,
        ap (λ (b : Box). b.max) (one.0 ∙ sym e),
      )

  -- the first coordinate past a piece begins one
  pub begins_piece : (last : Option Coord) (n : Coord) → AreBits bits → IfSome last (EndsPiece bits t) → IsFirst bits (IsEnteredPast bits t last) everywhere (Some n) → (piece_around bits t n).min ≡ n
  begins_piece last n configured ends first =
      elim (tile_or_voxel n) [
        | inl l ↦
            let m = (block_around bits l.0 n).min in
            let same : block_number bits l.0 m ≡ block_number bits l.0 n = number_of_corner bits l.0 (block_number bits l.0 n) in
            let inside = inside_around bits l.0 n in
            ap (λ (b : Box). b.min) l.1.box
            ∙ elim (past_or_not last n m ends first.1.1) [
              | inl past ↦
                  at_first n m (corner_up_to bits (block_around bits l.0 n) n inside)
                  (first.2 m (block_in_range bits l.0 configured n m first.0 same) (subst (λ (k : Coord). IsSome (root_at t.root k)) (sym (up_from bits l.0 m n same)) first.1.0, past))
              | inr rest ↦
                  let q = rest.0 in
                  let b = together bits l.0 m n q same rest.1 rest.2 in
                  let at_end : (block_around bits l.0 n).max ≡ q = ap (λ (c : Coord). (block bits l.0 c).max) (sym b) ∙ ap (λ (c : Box). c.max) (sym (l.1.each q b)) ∙ rest.3 in
                  absurd (false_true (sym (never_past_max bits (block_around bits l.0 n) n inside) ∙ ap (λ (c : Coord). is_lt (block_cmp bits c n)) at_end ∙ rest.2))
            ]
        | inr e ↦ ap (λ (b : Box). b.min) e
      ]
    where
      past_or_not : (last : Option Coord) (n m : Coord) → IfSome last (EndsPiece bits t) → is_past bits last n ≡ true
          → (is_past bits last m ≡ true) ⊎ ((q : Coord) × (is_lt (block_cmp bits q m) ≡ false) × (is_lt (block_cmp bits q n) ≡ true) × ((piece_around bits t q).max ≡ q))
      past_or_not None n m ends past = inl refl
      past_or_not (Some q) n m ends past = elim (bool_cases (is_lt (block_cmp bits q m))) [ inl e ↦ inl e | inr e ↦ inr (q, e, past, ends.2) ]

      at_first : (n m : Coord) → IsUpTo m n → is_lt (block_cmp bits m n) ≡ false → m ≡ n
      at_first n m up not_before = elim (first_or_same bits m n up) [ inl c ↦ absurd (false_true (sym not_before ∙ c)) | inr e ↦ e ]

      corner_up_to : (bits : Bits) (b : Box) (n : Coord) → is_inside b n ≡ true → IsUpTo b.min n
      corner_up_to bits b n i = ((between_x b n i).0, (between_y b n i).0, (between_z b n i).0)

  -- the next piece
  module _ (last : Option Coord) where
    abbrev passage : Passage V
    passage = record { tree = t; last = last }

    pub next_piece : (n : Coord) (piece : Piece V) → AreBits bits → IfSome last (EndsPiece bits t) → IsFirst bits (IsEnteredPast bits t last) everywhere (Some n) → piece.bounds ≡ piece_around bits t n
        → ((p : Coord) → IsTrue (is_inside piece.bounds p) → (field_of bits t).cell p ≡ piece.cell) → IsNextPiece bits passage (Some piece)
    next_piece n piece configured ends first e cells =
        let at : n ≡ piece.bounds.min = sym (ap (λ (b : Box). b.min) e ∙ begins_piece last n configured ends first) in (
          subst (IsAhead bits passage) at (record { inside = first.0; entry = first.1.0; past = first.1.1 }),
          (λ p ahead. subst (λ (c : Coord). is_lt (block_cmp bits p c) ≡ false) at (first.2 p ahead.inside (ahead.entry, ahead.past))),
          subst (λ (c : Coord). piece.bounds ≡ piece_around bits t c) at e,
          cells,
        )

  -- without a last one, all coordinates are ahead
  pub all_ahead : (found : Option Coord) → IsFirst bits (IsEntered bits t None) everywhere found → IsFirst bits (IsEnteredPast bits t None) everywhere found
  all_ahead found h = first_same bits (IsEntered bits t None) (IsEnteredPast bits t None) everywhere (λ q i k. (k.0, refl)) (λ q i k. (k.0, tt)) found h
