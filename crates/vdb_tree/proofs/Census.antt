-- The nodes and the entries of a tree, counted against the blocks that need them.
use Rattle.vdb_tree.proofs.Common.{◌≡◌, inl, inr, ℕ, pos, zero, suc, ◌≤◌, Bool, true, false, not, cond, List, [], ◌∷◌, length, refl, sym, subst, ◌∙◌, arith, IsTrue, Option, Some, None, IsSome, is_some, slice_index_or, AllByRecursion, keys_of, is_member, length-filter, length-keys_of, block, block_number, block_numbers, key, AreBits, coord_eq, coordinates, everywhere, is_inside, Bits, Coord, Level, Leaf, Lower, Upper, count_at_least, count_at_most, corner_in_range, number_in_range, number_of_corner, numbered_in_range, coord_exact, Entry, Child, Contents, node_at, Layout, entry_over, field_of, lower_entry, root_at, root_entry, upper_entry, is_child, is_constant, is_background, roots, IsAtMost, IsLeast, least_counts, counts_of, IsOwned, IsSound}
use Rattle.std.specs.Prelude.{count_by}
use Rattle.std.specs.List.{IsDistinct}
use Rattle.std.proofs.lemmas.List.Sums.{sum_by-cons}
use Rattle.vdb_coord.proofs.InRange.{key_in_range}
use Rattle.vdb_pool.specs.Contents.{count_of}
use Rattle.vdb_tree.specs.ConstantBlocks.{non_constant}
use Rattle.vdb_tree.proofs.Descents.{lower_by_block, root_by_block, tile_lower, tile_upper, upper_by_block}
use Rattle.vdb_tree.proofs.Levels.{IsByBlock, child_slot, like_coords, tile_no_child, tile_or_child, unlike_coords}
use Rattle.vdb_tree.proofs.Needed.{absent_entry, child_of, has_needed, is_child_from, is_some_from, some_or_none}
use Rattle.vdb_tree.proofs.Rooted.{member_entry, not_from, or_cases, or_first, or_second, roots_at_least, roots_within, was_false}

-- ---- what a function gives for each held slot

module _ {N : Type 0} where
  abbrev gathered : List (Option N) → (ℕ → Coord) → List Coord
  gathered [] f = []
  gathered (None ∷ ns) f = gathered ns (λ s. f (suc s))
  gathered (Some n ∷ ns) f = f 0 ∷ gathered ns (λ s. f (suc s))

  -- the results are as many as the held slots
  length_gathered : (ns : List (Option N)) (f : ℕ → Coord) → length (gathered ns f) ≡ count_by is_some ns
  length_gathered [] f = refl
  length_gathered (None ∷ ns) f =
      let h = length_gathered ns (λ s. f (suc s)) in
      let k = sum_by-cons (λ (o : Option N). cond (is_some o) 1 0) None ns in
      omega (arith, h, k)
  length_gathered (Some n ∷ ns) f =
      let h = length_gathered ns (λ s. f (suc s)) in
      let k = sum_by-cons (λ (o : Option N). cond (is_some o) 1 0) (Some n) ns in
      omega (arith, h, k)

  all_gathered : (P : Coord → Type 0) (ns : List (Option N)) (f : ℕ → Coord) → ((s : ℕ) → IsSome (slice_index_or ns s None) → P (f s)) → AllByRecursion P (gathered ns f)
  all_gathered P [] f h = tt
  all_gathered P (None ∷ ns) f h = all_gathered P ns (λ s. f (suc s)) (λ s k. h (suc s) k)
  all_gathered P (Some n ∷ ns) f h = (h 0 refl, all_gathered P ns (λ s. f (suc s)) (λ s k. h (suc s) k))

  -- the results are distinct if the function tells the held slots apart
  distinct_gathered : (ns : List (Option N)) (f : ℕ → Coord) → ((r s : ℕ) → IsSome (slice_index_or ns r None) → IsSome (slice_index_or ns s None) → f r ≡ f s → r ≡ s)
      → IsDistinct coord_eq (gathered ns f)
  unfolding IsDistinct
  distinct_gathered [] f h = tt
  distinct_gathered (None ∷ ns) f h = distinct_gathered ns (λ s. f (suc s)) (λ r s a b e. let k = h (suc r) (suc s) a b e in omega (arith, k))
  distinct_gathered (Some n ∷ ns) f h = (
    all_gathered (λ y. coord_eq (f 0) y ≡ false) ns (λ s. f (suc s)) (λ s b. unlike_coords (f 0) (f (suc s)) (λ e. let k = h 0 (suc s) refl b e in omega (arith, k))),
    distinct_gathered ns (λ s. f (suc s)) (λ r s a b e. let k = h (suc r) (suc s) a b e in omega (arith, k)),
  )

  -- the result of a held slot is among them
  member_gathered : (ns : List (Option N)) (f : ℕ → Coord) (k : Coord) (s : ℕ) → IsSome (slice_index_or ns s None) → coord_eq k (f s) ≡ true → is_member coord_eq (gathered ns f) k ≡ true
  member_gathered [] f k s h e = cc
  member_gathered (None ∷ ns) f k zero h e = cc
  member_gathered (None ∷ ns) f k (suc s) h e = member_gathered ns (λ r. f (suc r)) k s h e
  member_gathered (Some n ∷ ns) f k zero h e = or_first _ _ e
  member_gathered (Some n ∷ ns) f k (suc s) h e = or_second _ _ (member_gathered ns (λ r. f (suc r)) k s h e)

  -- each member is the result of a held slot
  slot_gathered : (ns : List (Option N)) (f : ℕ → Coord) (k : Coord) → is_member coord_eq (gathered ns f) k ≡ true → (s : ℕ) × IsSome (slice_index_or ns s None) × (k ≡ f s)
  slot_gathered [] f k h = cc
  slot_gathered (None ∷ ns) f k h = let r = slot_gathered ns (λ s. f (suc s)) k h in (suc r.0, r.1, r.2)
  slot_gathered (Some n ∷ ns) f k h =
      elim (or_cases (coord_eq k (f 0)) (is_member coord_eq (gathered ns (λ s. f (suc s))) k) h) [
        | inl e ↦ (0, refl, coord_exact k (f 0) e)
        | inr m ↦ let r = slot_gathered ns (λ s. f (suc s)) k m in (suc r.0, r.1, r.2)
      ]

-- ---- the nodes of one level

abbrev picked : {N : Type 0} (o : Option N) → (IsSome o → Coord) → Coord
picked None f = record { x = pos 0; y = pos 0; z = pos 0 }
picked (Some n) f = f refl

picked_has : {N : Type 0} (P : Coord → Type 0) (o : Option N) (f : IsSome o → Coord) → ((h : IsSome o) → P (f h)) → IsSome o → P (picked o f)
picked_has P None f h k = cc
picked_has P (Some n) f h k = h refl

module _ {V N : Type 0} (bits : Bits) (level : Level) (entry : Coord → Entry V) (pool : Contents N) (by : IsByBlock bits level entry) (owned : IsOwned bits level entry pool) where
  -- a coordinate whose descent meets a slot
  abbrev owner : ℕ → Coord
  owner s = picked (node_at pool s) (λ h. (owned.met s h).0)

  owner_entry : (s : ℕ) → IsSome (node_at pool s) → entry (owner s) ≡ Child s
  owner_entry s h = picked_has (λ p. entry p ≡ Child s) (node_at pool s) (λ k. (owned.met s k).0) (λ k. (owned.met s k).1) h

  -- the numbers of the blocks over which the nodes lie
  abbrev owned_blocks : List Coord
  owned_blocks = gathered pool.nodes (λ s. block_number bits level (owner s))

  owned_blocks_length : length owned_blocks ≡ count_of pool
  owned_blocks_length = length_gathered pool.nodes (λ s. block_number bits level (owner s))

  owned_blocks_distinct : IsDistinct coord_eq owned_blocks
  owned_blocks_distinct =
      distinct_gathered pool.nodes (λ s. block_number bits level (owner s))
      (λ r s a b e. child_slot {V = V} r s (sym (owner_entry r a) ∙ by (owner r) (owner s) e ∙ owner_entry s b))

  owned_block : (p : Coord) (slot : ℕ) → entry p ≡ Child slot → is_member coord_eq owned_blocks (block_number bits level p) ≡ true
  owned_block p slot child =
      let held = owned.held p slot child in
      member_gathered pool.nodes (λ s. block_number bits level (owner s)) (block_number bits level p) slot held
      (like_coords (block_number bits level p) (block_number bits level (owner slot)) (owned.own p (owner slot) slot child (owner_entry slot held)))

  owner_of_block : (k : Coord) → is_member coord_eq owned_blocks k ≡ true → (p : Coord) × (slot : ℕ) × (entry p ≡ Child slot) × (k ≡ block_number bits level p)
  owner_of_block k h =
      let r = slot_gathered pool.nodes (λ s. block_number bits level (owner s)) k h in
      (owner r.0, r.0, owner_entry r.0 r.1, r.2)

  module _ (t : Coord → Bool) where
    -- if a node lies over each block that passes a test, at least as many nodes are held as blocks pass
    pub nodes_at_least : ((p : Coord) → IsTrue (is_inside (block_numbers bits level) (block_number bits level p)) → t (block_number bits level p) ≡ true → IsTrue (is_child (entry p)))
        → count_by t (coordinates (block_numbers bits level)) ≤ count_of pool
    nodes_at_least needed =
        let a = count_at_most (block_numbers bits level) t owned_blocks has in
        omega (arith, a, owned_blocks_length, length-filter t (coordinates (block_numbers bits level)))
      where
        has : (k : Coord) → IsTrue (is_inside (block_numbers bits level) k) → t k ≡ true → is_member coord_eq owned_blocks k ≡ true
        has k inside test =
            let corner = (block bits level k).min in
            let number : block_number bits level corner ≡ k = number_of_corner bits level k in
            let child = child_of (entry corner) (needed corner (subst (λ (n : Coord). is_inside (block_numbers bits level) n ≡ true) (sym number) inside)
            (subst (λ (n : Coord). t n ≡ true) (sym number) test)) in
            subst (λ (n : Coord). is_member coord_eq owned_blocks n ≡ true) number (owned_block corner child.0 child.1)

    -- if nodes lie over such blocks only, at most as many nodes are held as blocks pass
    pub nodes_at_most : ((p : Coord) (slot : ℕ) → entry p ≡ Child slot → IsTrue (is_inside (block_numbers bits level) (block_number bits level p)) × (t (block_number bits level p) ≡ true))
        → count_of pool ≤ count_by t (coordinates (block_numbers bits level))
    nodes_at_most met =
        let a = count_at_least (block_numbers bits level) t owned_blocks owned_blocks_distinct passes in
        omega (arith, a, owned_blocks_length, length-filter t (coordinates (block_numbers bits level)))
      where
        passes : (k : Coord) → is_member coord_eq owned_blocks k ≡ true → IsTrue (is_inside (block_numbers bits level) k) × (t k ≡ true)
        passes k h =
            let o = owner_of_block k h in
            let m = met o.0 o.1 o.2 in
            (subst (λ (n : Coord). is_inside (block_numbers bits level) n ≡ true) (sym o.3) m.0, subst (λ (n : Coord). t n ≡ true) (sym o.3) m.1)

-- ---- the whole tree

module _ {V : Type 0} (bits : Bits) (configured : AreBits bits) (t : Layout V) (sound : IsSound bits t) where
  -- nodes lie only over coordinates in range
  upper_in_range : (p : Coord) (slot : ℕ) → root_entry bits t p ≡ Child slot → IsTrue (is_inside everywhere p)
  upper_in_range p slot child =
      elim (some_or_none (root_at t.root (key bits p))) [
        | inl e ↦ key_in_range bits configured p (sound.keys (key bits p) (is_some_from _ e.0 e.1))
        | inr none ↦ absurd (tile_no_child _ slot (sym (absent_entry bits t p none) ∙ child))
      ]

  lower_in_range : (p : Coord) (slot : ℕ) → upper_entry bits t p ≡ Child slot → IsTrue (is_inside everywhere p)
  lower_in_range p slot child =
      elim (tile_or_child (root_entry bits t p)) [
        | inl tile ↦ absurd (tile_no_child tile.0 slot (sym (tile_upper bits t tile.0 p tile.1) ∙ child))
        | inr above ↦ upper_in_range p above.0 above.1
      ]

  leaf_in_range : (p : Coord) (slot : ℕ) → lower_entry bits t p ≡ Child slot → IsTrue (is_inside everywhere p)
  leaf_in_range p slot child =
      elim (tile_or_child (upper_entry bits t p)) [
        | inl tile ↦ absurd (tile_no_child tile.0 slot (sym (tile_lower bits t tile.0 p tile.1) ∙ child))
        | inr above ↦ lower_in_range p above.0 above.1
      ]

  pub child_in_range : (level : Level) (p : Coord) (slot : ℕ) → entry_over bits level t p ≡ Child slot → IsTrue (is_inside everywhere p)
  child_in_range Upper = upper_in_range
  child_in_range Lower = lower_in_range
  child_in_range Leaf = leaf_in_range

module _ {V : Type 0} (eq : V → V → Bool) (exact : (x y : V) → eq x y ≡ true → x ≡ y) (itself : (x : V) → eq x x ≡ true) (bits : Bits) (configured : AreBits bits) (t : Layout V) (sound : IsSound bits t) where
  -- each block that isn't constant has a node of its own
  non_constant_at_most : {N : Type 0} (level : Level) (pool : Contents N) → IsByBlock bits level (entry_over bits level t) → IsOwned bits level (entry_over bits level t) pool
      → non_constant eq bits level (field_of bits t) ≤ count_of pool
  non_constant_at_most level pool by owned =
      nodes_at_least bits level (entry_over bits level t) pool by owned (λ n. not (is_constant eq (field_of bits t) (block bits level n)))
      (λ p within test. (has_needed eq exact itself bits configured t).nodes level p (numbered_in_range bits level configured p within) (was_false _ test))

  -- in a least tree each node lies over a block that isn't constant
  non_constant_at_least : {N : Type 0} (level : Level) (pool : Contents N) → IsByBlock bits level (entry_over bits level t) → IsOwned bits level (entry_over bits level t) pool
      → IsLeast eq bits t → count_of pool ≤ non_constant eq bits level (field_of bits t)
  non_constant_at_least level pool by owned least =
      nodes_at_most bits level (entry_over bits level t) pool by owned (λ n. not (is_constant eq (field_of bits t) (block bits level n)))
      (λ p slot child.
      let inside = child_in_range bits configured t sound level p slot child in
      (number_in_range bits level p inside, not_from _ (least.nodes level p inside (is_child_from _ slot child))))

  -- a tree has no fewer entries and nodes than its field needs
  pub counts_at_least : IsAtMost (least_counts eq bits (field_of bits t)) (counts_of t)
  counts_at_least = record {
    entries = roots_within eq exact itself bits configured t;
    upper = non_constant_at_most Upper t.uppers (root_by_block bits t) sound.uppers;
    lower = non_constant_at_most Lower t.lowers (upper_by_block bits t) sound.lowers;
    leaf = non_constant_at_most Leaf t.leaves (lower_by_block bits t) sound.leaves;
  }

  -- each entry of a least tree belongs to an upper extent that holds anything but the background
  entries_at_most : IsLeast eq bits t → length t.root ≤ roots eq bits (field_of bits t)
  entries_at_most least =
      subst (λ n. n ≤ roots eq bits (field_of bits t)) (length-keys_of t.root)
      (roots_at_least eq bits (field_of bits t) (keys_of t.root) sound.apart (λ k m.
      let held = member_entry t k m in
      let within = sound.keys k held in
      let corner = (block bits Upper k).min in
      let number : key bits corner ≡ k = number_of_corner bits Upper k in (
        within,
        subst (λ (n : Coord). is_background eq (field_of bits t) (block bits Upper n) ≡ false) number
            (least.entries corner (corner_in_range bits Upper configured k within) (subst (λ (n : Coord). IsSome (root_at t.root n)) (sym number) held)),
      )))

  -- a least tree has exactly the entries and nodes that its field needs
  pub counts_least : IsLeast eq bits t → counts_of t ≡ least_counts eq bits (field_of bits t)
  counts_least least =
      let few = counts_at_least in
      let e : length t.root ≡ roots eq bits (field_of bits t) = same few.entries (entries_at_most least) in
      let u : count_of t.uppers ≡ non_constant eq bits Upper (field_of bits t) = same few.upper (non_constant_at_least Upper t.uppers (root_by_block bits t) sound.uppers least) in
      let l : count_of t.lowers ≡ non_constant eq bits Lower (field_of bits t) = same few.lower (non_constant_at_least Lower t.lowers (upper_by_block bits t) sound.lowers least) in
      let f : count_of t.leaves ≡ non_constant eq bits Leaf (field_of bits t) = same few.leaf (non_constant_at_least Leaf t.leaves (lower_by_block bits t) sound.leaves least) in
      λ i. record { entries = e i; upper = u i; lower = l i; leaf = f i }
    where
      same : {a b : ℕ} → a ≤ b → b ≤ a → b ≡ a
      same {a} {b} h k = omega (arith, h, k)
