-- How a change of one entry or one node changes what the descents meet, at any level.
use Rattle.vdb_tree.proofs.Common.{◌≡◌, ◌≢◌, ◌⊎◌, inl, inr, ℕ, Bool, true, false, refl, sym, ap, ◌∙◌, Option, Some, None, IsSome, option_map_or, eqb_tells, block_number, offset, entry_number, coord_eq, Bits, Coord, Level, coord_equiv, coord_exact, block_from_entry, entry_from_offset, offset_from_entry, Entry, Child, Tile, Contents, node_at, Cell, Turns, within, IsOwned}
use Rattle.vdb_pool.specs.Live.{KeepsOthers}

pub bool_cases : (b : Bool) → (b ≡ true) ⊎ (b ≡ false)
bool_cases true = inl refl
bool_cases false = inr refl

false_true : false ≡ true → ⊥
false_true e = cc

pub coord_cases : (p q : Coord) → (p ≡ q) ⊎ (p ≢ q)
coord_cases p q =
    elim (bool_cases (coord_eq p q)) [
      | inl e ↦ inl (coord_exact p q e)
      | inr e ↦ inr (λ s. false_true (sym e ∙ ap (coord_eq p) (sym s) ∙ coord_equiv.refl p))
    ]

pub unlike_coords : (p q : Coord) → p ≢ q → coord_eq p q ≡ false
unlike_coords p q d = elim (bool_cases (coord_eq p q)) [ inl e ↦ absurd (d (coord_exact p q e)) | inr e ↦ e ]

pub like_coords : (p q : Coord) → p ≡ q → coord_eq p q ≡ true
like_coords p q e = ap (coord_eq p) (sym e) ∙ coord_equiv.refl p

-- ---- entries

pub some_held : {N : Type 0} (o : Option N) → IsSome o → o ≡ None → ⊥
some_held None h e = false_true h
some_held (Some n) h e = cc

pub child_slot : {V : Type 0} (r s : ℕ) → ◌≡◌ {A = Entry V} (Child r) (Child s) → r ≡ s
child_slot r s e = cc

pub same_tile : {V : Type 0} (c d : Cell V) → ◌≡◌ {A = Entry V} (Tile c) (Tile d) → c ≡ d
same_tile c d e = cc

pub tile_no_child : {V : Type 0} (c : Cell V) (r : ℕ) → ◌≡◌ {A = Entry V} (Tile c) (Child r) → ⊥
tile_no_child c r e = cc

pub tile_or_child : {V : Type 0} (e : Entry V) → ((c : Cell V) × (e ≡ Tile c)) ⊎ ((r : ℕ) × (e ≡ Child r))
tile_or_child (Tile c) = inl (c, refl)
tile_or_child (Child r) = inr (r, refl)

-- f has one value all over each block of the level
abbrev pub IsByBlock : {E : Type 0} → Bits → Level → (Coord → E) → Type 0
IsByBlock bits level f = (q r : Coord) → block_number bits level q ≡ block_number bits level r → f q ≡ f r

-- f has one value all over each entry of the level's nodes
abbrev pub IsByEntry : {E : Type 0} → Bits → Level → (Coord → E) → Type 0
IsByEntry bits level f = (q r : Coord) → entry_number bits level q ≡ entry_number bits level r → f q ≡ f r

-- ---- pools

-- the slot gets this node or is vacated, and every other slot stays
pub record Puts {N : Type 0} (old new : Contents N) (slot : ℕ) (node : Option N) : Type 0 where
  pub here : node_at new slot ≡ node
  pub others : KeepsOthers old new slot

module _ {N : Type 0} (old new : Contents N) (s : ℕ) where
  pub held_after : (n : N) → Puts old new s (Some n) → (r : ℕ) → IsSome (node_at old r) → IsSome (node_at new r)
  held_after n put r h =
      elim (eqb_tells r s) [
        | inl e ↦ rw (e.1, put.here) refl
        | inr e ↦ rw (put.others r e.1) h
      ]

  pub held_before : (m n : N) → node_at old s ≡ Some m → Puts old new s (Some n) → (r : ℕ) → IsSome (node_at new r) → IsSome (node_at old r)
  held_before m n was put r h =
      elim (eqb_tells r s) [
        | inl e ↦ rw (e.1, was) refl
        | inr e ↦ rw (← put.others r e.1) h
      ]

  pub not_vacant : (r : ℕ) → IsSome (node_at old r) → node_at old s ≡ None → r ≢ s
  not_vacant r h n e = some_held (node_at old r) h (ap (node_at old) e ∙ n)

-- ---- what is read below an entry

module _ {V N E : Type 0} (read : N → ℕ → E) (tile : Cell V → E) (missing : E) where
  -- if the entry's node stays, what is read stays
  pub within_same : (old new : Contents N) (x : Entry V) (i : ℕ) → ((r : ℕ) → x ≡ Child r → node_at new r ≡ node_at old r)
      → within read tile missing new x i ≡ within read tile missing old x i
  within_same old new (Tile c) i h = refl
  within_same old new (Child r) i h = ap (λ n. option_map_or (λ node. read node i) n missing) (h r refl)

  within_there : (old new : Contents N) (u : ℕ) (n m : N) (i j : ℕ) → node_at old u ≡ Some n → Puts old new u (Some m) → ((k : ℕ) → k ≢ j → read m k ≡ read n k)
      → (x : Entry V) → (x ≡ Child u → i ≢ j) → within read tile missing new x i ≡ within read tile missing old x i
  within_there old new u n m i j was put there (Tile c) h = refl
  within_there old new u n m i j was put there (Child r) h =
      elim (eqb_tells r u) [
        | inl e ↦
            let f = there i (h (ap Child e.1)) in
            let g : node_at new r ≡ Some m = ap (node_at new) e.1 ∙ put.here in
            let k : node_at old r ≡ Some n = ap (node_at old) e.1 ∙ was in
            rw (g, k) f
        | inr e ↦ ap (λ o. option_map_or (λ node. read node i) o missing) (put.others r e.1)
      ]

  module _ (bits : Bits) (level : Level) where
    -- what the entries over the level's blocks have at the offsets of coordinates
    abbrev pub below : Contents N → (Coord → Entry V) → Coord → E
    below pool f q = within read tile missing pool (f q) (offset bits level q)

    pub below_by_entry : (f : Coord → Entry V) (pool : Contents N) → IsByBlock bits level f → IsByEntry bits level (below pool f)
    below_by_entry f pool by q r e =
        let up = by q r (block_from_entry bits level q r e) in
        let at = offset_from_entry bits level q r e in
        rw (up, at) refl

    -- an entry of a node changes
    pub node_turns : (f : Coord → Entry V) (old new : Contents N) (p : Coord) (u : ℕ) (n m : N) (x : E) → IsByBlock bits level f → IsOwned bits level f old
        → f p ≡ Child u → node_at old u ≡ Some n → Puts old new u (Some m) → read m (offset bits level p) ≡ x → ((j : ℕ) → j ≢ offset bits level p → read m j ≡ read n j)
        → Turns (entry_number bits level) p (below old f) (below new f) x
    node_turns f old new p u n m x by owned child was put here there = record {
      here = λ q e.
          let fq : f q ≡ Child u = by q p (block_from_entry bits level q p e) ∙ child in
          let at = offset_from_entry bits level q p e in
          rw (fq, at, put.here) here;
      there = λ q d.
          within_there old new u n m (offset bits level q) (offset bits level p) was put there (f q)
          (λ e o. d (entry_from_offset bits level q p (owned.own q p u e child) o));
    }

    -- a tile becomes a new node with the tile's cell all over: what is read stays
    pub split_below : (f g : Coord → Entry V) (old new : Contents N) (p : Coord) (s : ℕ) (n : N) (c : Cell V) → IsOwned bits level f old → node_at old s ≡ None
        → ((q : Coord) → block_number bits level q ≡ block_number bits level p → f q ≡ Tile c) → Turns (block_number bits level) p f g (Child s) → Puts old new s (Some n)
        → ((q : Coord) → read n (offset bits level q) ≡ tile c) → (q : Coord) → below new g q ≡ below old f q
    split_below f g old new p s n c owned free tiled turns put const q =
        elim (coord_cases (block_number bits level q) (block_number bits level p)) [
          | inl e ↦ let a = turns.here q e in let b = tiled q e in rw (a, b, put.here) (const q)
          | inr d ↦
              let a = turns.there q d in
              rw a (within_same old new (f q) (offset bits level q) (λ r e. put.others r (not_vacant old new s r (owned.held q r e) free)))
        ]

-- ---- owners

module _ {V N : Type 0} (bits : Bits) (level : Level) where
  -- owners when a node changes
  pub owned_after : (f : Coord → Entry V) (old new : Contents N) (s : ℕ) (m n : N) → node_at old s ≡ Some m → Puts old new s (Some n) → IsOwned bits level f old → IsOwned bits level f new
  owned_after f old new s m n was put owned = record {
    met = λ r h. owned.met r (held_before old new s m n was put r h);
    held = λ p r e. held_after old new s n put r (owned.held p r e);
    own = owned.own;
  }

  pub owned_as : (f g : Coord → Entry V) (pool : Contents N) → ((q : Coord) → g q ≡ f q) → IsOwned bits level f pool → IsOwned bits level g pool
  owned_as f g pool same owned = record {
    met = λ r h. let m = owned.met r h in (m.0, same m.0 ∙ m.1);
    held = λ p r e. owned.held p r (sym (same p) ∙ e);
    own = λ p q r e d. owned.own p q r (sym (same p) ∙ e) (sym (same q) ∙ d);
  }

  -- owners when a pool gets capacity
  pub owned_nodes : (f : Coord → Entry V) (old new : Contents N) → new.nodes ≡ old.nodes → IsOwned bits level f old → IsOwned bits level f new
  owned_nodes f old new same owned = record {
    met = λ r h. owned.met r (rw (← same) h);
    held = λ p r e. rw same (owned.held p r e);
    own = owned.own;
  }

  -- owners when a tile becomes a new node
  pub split_owned : (f g : Coord → Entry V) (old new : Contents N) (p : Coord) (s : ℕ) (n : N) (c : Cell V) → IsOwned bits level f old → node_at old s ≡ None
      → ((q : Coord) → block_number bits level q ≡ block_number bits level p → f q ≡ Tile c) → Turns (block_number bits level) p f g (Child s) → Puts old new s (Some n) → IsOwned bits level g new
  split_owned f g old new p s n c owned free tiled turns put = record {
    met = λ r h.
        elim (eqb_tells r s) [
          | inl e ↦ (p, turns.here p refl ∙ ap Child (sym e.1))
          | inr e ↦
              let m = owned.met r (rw (← put.others r e.1) h) in
              elim (coord_cases (block_number bits level m.0) (block_number bits level p)) [
                | inl b ↦ absurd (tile_no_child c r (sym (tiled m.0 b) ∙ m.1))
                | inr d ↦ (m.0, turns.there m.0 d ∙ m.1)
              ]
        ];
    held = λ q r e.
        elim (coord_cases (block_number bits level q) (block_number bits level p)) [
          | inl h ↦
              let k : s ≡ r = child_slot {V = V} s r (sym (turns.here q h) ∙ e) in
              rw (← k, put.here) refl
          | inr d ↦ held_after old new s n put r (owned.held q r (sym (turns.there q d) ∙ e))
        ];
    own = λ q t r e h.
        elim (coord_cases (block_number bits level q) (block_number bits level p)) [
          | inl a ↦ elim (coord_cases (block_number bits level t) (block_number bits level p)) [
            | inl b ↦ a ∙ sym b
            | inr d ↦ absurd (new_slot t r d h (child_slot {V = V} s r (sym (turns.here q a) ∙ e)))
          ]
          | inr c ↦ elim (coord_cases (block_number bits level t) (block_number bits level p)) [
            | inl b ↦ absurd (new_slot q r c e (child_slot {V = V} s r (sym (turns.here t b) ∙ h)))
            | inr d ↦ owned.own q t r (sym (turns.there q c) ∙ e) (sym (turns.there t d) ∙ h)
          ]
        ];
  }
    where
      -- over any other block the child is an older one
      new_slot : (q : Coord) (r : ℕ) → block_number bits level q ≢ block_number bits level p → g q ≡ Child r → s ≡ r → ⊥
      new_slot q r d e k = not_vacant old new s r (owned.held q r (sym (turns.there q d) ∙ e)) free (sym k)
