-- Pruning upper extent after upper extent, in the order of keys.
use Rattle.vdb_tree.proofs.Common.{◌≡◌, ◌≢◌, ◌≤◌, ◌⊎◌, inl, inr, ℕ, Bool, true, false, List, refl, sym, ap, ◌∙◌, arith, length, Option, Some, None, IsSome, if◌then◌else◌, IsDistinct, keys_of, is_gt, Ordering, Less, Equal, Greater, key, coord_cmp, coord_eq, Bits, Coord, Leaf, Lower, Upper, coord_exact, Entry, Child, Tile, Cell, IsConstantBlock, IsNeededTo, IsNoBackgroundRoot, Keeps, PrunesRoot, SameDescent, Layout, lower_entry, background_cell, root_at, root_entry, upper_entry, cell_eq, IsSound, IsNextKey, IsPast, less_apart}
use Rattle.std.specs.Option.{option_eq}
use Rattle.vdb_tree.proofs.KeysPast.{past_on}
use Rattle.vdb_tree.proofs.Levels.{coord_cases, like_coords, owned_as, tile_or_child, unlike_coords}
use Rattle.vdb_tree.proofs.Needed.{absent_entry, some_or_none, is_some_from}
use Rattle.vdb_tree.proofs.Passes.{below_tile_needed, descent_by, descent_trans, keeps_same, keeps_trans, needed_to_moved, tile_gives}
use Rattle.vdb_tree.proofs.Splits.{cells_from, lowers_from}
use Rattle.vdb_tree.proofs.Uniform.{cell_exact}

less_or_not : (o : Ordering) → (o ≡ Less) ⊎ (o ≡ Less → ⊥)
less_or_not Less = inl refl
less_or_not Equal = inr (λ e. cc)
less_or_not Greater = inr (λ e. cc)

pub past_or_not : (passed : Option Coord) (k : Coord) → (IsPast passed k) ⊎ (IsPast passed k → ⊥)
past_or_not None k = inl tt
past_or_not (Some a) k = less_or_not (coord_cmp a k)

pub equal_left : (o : Ordering) → is_gt o ≡ false → (o ≡ Less → ⊥) → o ≡ Equal
equal_left Less h n = absurd (n refl)
equal_left Equal h n = refl
equal_left Greater h n = cc

pub same_keys : (p q : Coord) → coord_cmp p q ≡ Equal → p ≡ q
same_keys p q e = coord_exact p q (rw e refl)

pub apart : (p q : Coord) → coord_cmp p q ≡ Less → q ≢ p
apart p q less e = less_apart p q less (sym e)

module _ {V : Type 0} (bits : Bits) where
  -- the upper extent around q is pruned
  abbrev pub IsPruned : Layout V → Coord → Type 0
  IsPruned t q = IsNeededTo bits Upper t q × IsNoBackgroundRoot bits t q

  -- an upper extent without an entry is pruned
  absent_pruned : (t : Layout V) (q : Coord) → root_at t.root (key bits q) ≡ None → IsPruned t q
  absent_pruned t q none = (below_tile_needed bits Upper t q (background_cell t) (absent_entry bits t q none), λ entry some. absurd (none_some entry (sym none ∙ some)))
    where
      none_some : {A : Type 0} (x : A) → ◌≡◌ {A = Option A} None (Some x) → ⊥
      none_some x e = cc

  -- every upper extent up to this key is pruned, and the table past the key stays
  pub record SweepsTo (old new : Layout V) (passed : Option Coord) : Type 0 where
    pub keeps : Keeps bits old new
    pub ahead : (k : Coord) → IsPast passed k → root_at new.root k ≡ root_at old.root k
    pub done : (q : Coord) → (IsPast passed (key bits q) → ⊥) → IsPruned new q

  pub sweep_none : (t : Layout V) → SweepsTo t t None
  sweep_none t = record { keeps = keeps_same bits t; ahead = λ k h. refl; done = λ q h. absurd (h tt) }

  -- the next key of the table is the one that it had at first
  pub next_as_before : (old mid : Layout V) (passed : Option Coord) (k : Coord) → SweepsTo old mid passed → IsNextKey mid.root passed (Some k) → IsNextKey old.root passed (Some k)
  next_as_before old mid passed k sweeps next =
      (rw (← sweeps.ahead k next.1) next.0, next.1, λ j past some. next.2 j past (rw (sweeps.ahead j past) some))

  pub sweep_next : (old mid new : Layout V) (passed : Option Coord) (k : Coord) → SweepsTo old mid passed → IsNextKey mid.root passed (Some k) → PrunesRoot bits mid new k → SweepsTo old new (Some k)
  sweep_next old mid new passed k sweeps next prunes = record {
    keeps = keeps_trans bits old mid new sweeps.keeps prunes.keeps;
    ahead = λ j later. prunes.table j (apart k j later) ∙ sweeps.ahead j (past_on passed k j next.1 later);
    done = λ q not_past.
        elim (coord_cases (key bits q) k) [
          | inl e ↦ prunes.here q e
          | inr d ↦ elim (past_or_not passed (key bits q)) [
            | inr before ↦
                let was = sweeps.done q before in
                let same : background_cell new ≡ background_cell mid = let b = prunes.keeps.head.background in rw b refl in (
                  needed_to_moved bits Upper mid new q prunes.keeps (prunes.others q d) was.0,
                  λ entry some const. was.1 entry (sym (prunes.table (key bits q) d) ∙ some) (λ r b. sym (prunes.keeps.cells r) ∙ const r b ∙ same),
                )
            | inl past ↦
                elim (some_or_none (root_at mid.root (key bits q))) [
                  | inl x ↦ absurd (d (sym (same_keys k (key bits q) (equal_left (coord_cmp k (key bits q)) (next.2 (key bits q) past (is_some_from _ x.0 x.1)) not_past))))
                  | inr none ↦ absent_pruned new q (prunes.table (key bits q) d ∙ none)
                ]
          ]
        ];
  }

  -- if no key is left, every upper extent is pruned
  pub sweep_end : (old new : Layout V) (passed : Option Coord) → SweepsTo old new passed → IsNextKey new.root passed None → (q : Coord) → IsPruned new q
  sweep_end old new passed sweeps next q =
      elim (past_or_not passed (key bits q)) [
        | inr before ↦ sweeps.done q before
        | inl past ↦ absent_pruned new q (next (key bits q) past)
      ]

-- an entry put or removed under one key leaves the others
pub other_key : {V : Type 0} (old new : List (Coord × Entry V)) (at k : Coord) (o : Option (Entry V)) → ((j : Coord) → root_at new j ≡ (if coord_eq at j then o else root_at old j)) → k ≢ at → root_at new k ≡ root_at old k
other_key old new at k o changed d = let e = unlike_coords at k (λ s. d (sym s)) in changed k ∙ rw e refl

-- an entry put under a key is under that key
pub that_key : {V : Type 0} (old new : List (Coord × Entry V)) (at : Coord) (o : Option (Entry V)) → ((j : Coord) → root_at new j ≡ (if coord_eq at j then o else root_at old j)) → root_at new at ≡ o
that_key old new at o changed = let e = like_coords at at refl in changed at ∙ rw e refl

-- the background entry over p is removed
module _ {V : Type 0} (bits : Bits) (t : Layout V) (p : Coord) (root : List (Coord × Entry V))
    (removed : (k : Coord) → root_at root k ≡ (if coord_eq (key bits p) k then None else root_at t.root k)) where
  abbrev pub without_entry : Layout V
  without_entry = record t { root = root }

  background_gone : root_at root (key bits p) ≡ None
  background_gone = that_key t.root root (key bits p) None removed

  non_background_table : (k : Coord) → k ≢ key bits p → root_at root k ≡ root_at t.root k
  non_background_table k d = other_key t.root root (key bits p) k None removed d

  gone_held : (o : Option (Entry V)) → IsSome o → o ≡ None → ⊥
  gone_held None h e = let f : false ≡ true = h in cc
  gone_held (Some x) h e = cc

  still_there : (k : Coord) → IsSome (root_at root k) → IsSome (root_at t.root k)
  still_there k h =
      elim (coord_cases k (key bits p)) [
        | inl e ↦ absurd (gone_held (root_at root k) h (ap (root_at root) e ∙ background_gone))
        | inr d ↦ let same = non_background_table k d in rw same at h
      ]

  module _ (was : root_at t.root (key bits p) ≡ Some (Tile (background_cell t))) where
    entries_stay : (q : Coord) → root_entry bits without_entry q ≡ root_entry bits t q
    entries_stay q =
        elim (coord_cases (key bits q) (key bits p)) [
          | inl e ↦ let n = background_gone in rw (e, n, was) refl
          | inr d ↦ let same = non_background_table (key bits q) d in rw same refl
        ]

    uppers_stay : (q : Coord) → upper_entry bits without_entry q ≡ upper_entry bits t q
    uppers_stay q = let e = entries_stay q in rw e refl

    lowers_stay : (q : Coord) → lower_entry bits without_entry q ≡ lower_entry bits t q
    lowers_stay = lowers_from bits t without_entry refl refl uppers_stay

    pub non_background_same : (q : Coord) → SameDescent bits t without_entry q
    non_background_same q = descent_by bits t without_entry q (entries_stay q) (uppers_stay q) (lowers_stay q)

    pub non_background_keeps : Keeps bits t without_entry
    non_background_keeps = record { head = record { background = refl; limit = refl }; cells = cells_from bits t without_entry refl refl lowers_stay }

    pub non_background_sound : IsSound bits t → length root ≤ length t.root → IsDistinct coord_eq (keys_of root) → IsSound bits without_entry
    non_background_sound sound size apart = record {
      limit = omega (arith, size, sound.limit);
      apart = apart;
      keys = λ k h. sound.keys k (still_there k h);
      uppers = owned_as bits Upper _ _ _ entries_stay sound.uppers;
      lowers = owned_as bits Lower _ _ _ uppers_stay sound.lowers;
      leaves = owned_as bits Leaf _ _ _ lowers_stay sound.leaves;
    }

module _ {V : Type 0} (bits : Bits) where
  -- an upper extent is pruned if its nodes are needed and it isn't a background tile: the node of a background extent isn't
  -- needed, so such an extent would be that tile
  pub prunes_root : (old mid new : Layout V) (p : Coord) → Keeps bits old mid → ((q : Coord) → key bits q ≢ key bits p → SameDescent bits old mid q)
      → ((k : Coord) → k ≢ key bits p → root_at mid.root k ≡ root_at old.root k) → ((q : Coord) → key bits q ≡ key bits p → IsNeededTo bits Upper mid q)
      → Keeps bits mid new → ((q : Coord) → SameDescent bits mid new q) → ((k : Coord) → k ≢ key bits p → root_at new.root k ≡ root_at mid.root k)
      → (root_at new.root (key bits p) ≡ Some (Tile (background_cell new)) → ⊥) → PrunesRoot bits old new (key bits p)
  prunes_root old mid new p keeps others table needed keeps2 same table2 gone = record {
    keeps = keeps_trans bits old mid new keeps keeps2;
    others = λ q d. descent_trans bits old mid new q (others q d) (same q);
    table = λ k d. table2 k d ∙ table k d;
    here = λ q e.
        let all = needed_to_moved bits Upper mid new q keeps2 (same q) (needed q e) in
        (all, λ entry some const. non_background q e all entry some const (tile_or_child entry));
  }
    where
      non_background : (q : Coord) → key bits q ≡ key bits p → IsNeededTo bits Upper new q → (entry : Entry V) → root_at new.root (key bits q) ≡ Some entry → IsConstantBlock bits Upper new q (background_cell new)
          → (((c : Cell V) × (entry ≡ Tile c)) ⊎ ((r : ℕ) × (entry ≡ Child r))) → ⊥
      non_background q e all entry some const (inl c) =
          let at : root_entry bits new q ≡ Tile c.0 = rw some c.1 in
          let cell : c.0 ≡ background_cell new = sym (tile_gives bits Upper new q c.0 at) ∙ const q refl in
          gone (ap (root_at new.root) (sym e) ∙ some ∙ ap Some (c.1 ∙ ap Tile cell))
      non_background q e all entry some const (inr r) =
          let at : root_entry bits new q ≡ Child r.0 = rw some r.1 in
          all.2 r.0 at (background_cell new) const

-- an entry that equals a tile by the test is that tile
pub equal_tile : {V : Type 0} (eq : V → V → Bool) (exact : (x y : V) → eq x y ≡ true → x ≡ y) (itself : (x : V) → eq x x ≡ true) (same : Entry V → Entry V → Bool)
    → ((s : ℕ) (c : Cell V) → same (Child s) (Tile c) ≡ false) → ((d c : Cell V) → same (Tile d) (Tile c) ≡ cell_eq eq d c) → (o : Option (Entry V)) (c : Cell V) → option_eq same o (Some (Tile c)) ≡ true → o ≡ Some (Tile c)
equal_tile eq exact itself same child tile None c h = let f : false ≡ true = h in cc
equal_tile eq exact itself same child tile (Some (Child s)) c h = let f : false ≡ true = sym (child s c) ∙ h in cc
equal_tile eq exact itself same child tile (Some (Tile d)) c h = ap (λ x. Some (Tile x)) (cell_exact eq exact itself d c (sym (tile d c) ∙ h))
