-- Removal of the entries of background upper extents, in the order of keys.
use Rattle.vdb_tree.proofs.Common.{◌≡◌, IsTrue, inl, inr, refl, subst, sym, ◌∙◌, Option, Some, None, key, Box, coord_cmp, Bits, Coord, Level, Leaf, Lower, Upper, lower_from_leaf, upper_from_lower, Cell, IsConstantBlock, IsNeededTo, IsNoBackgroundRoot, Keeps, PrunesRoot, SameDescent, Layout, cell_at, entry_over, lower_entry, background_cell, root_at, root_entry, upper_entry, MakesNoKey, is_child, IsSplit, AddsBackgroundTiles, IsNextKey, IsPast}
use Rattle.vdb_tree.specs.internal.Erase.{ErasesRoot}
use Rattle.vdb_tree.proofs.KeysPast.{past_on}
use Rattle.vdb_tree.proofs.Levels.{coord_cases}
use Rattle.vdb_tree.proofs.MadeNodes.{keys_but, keys_twice, no_node_twice, same_no_node}
use Rattle.vdb_tree.proofs.Needed.{child_of, is_some_from, some_or_none}
use Rattle.vdb_tree.proofs.Passes.{keeps_same, keeps_trans, tile_gives}
use Rattle.vdb_tree.proofs.RootSweeps.{apart, equal_left, past_or_not, same_keys}

module _ {V : Type 0} (bits : Bits) where
  -- the background stays
  pub background_stays : (old new : Layout V) → Keeps bits old new → background_cell new ≡ background_cell old
  background_stays old new keeps = let b = keeps.head.background in rw b refl

  pub adds_background_itself : (t : Layout V) → AddsBackgroundTiles bits t t
  adds_background_itself t = record { keeps = keeps_same bits t; nodes = λ level q h. h; tiles = λ level q tile e. inl e }

  -- if the entries are the same, only background tiles are added
  pub adds_background_none : (old new : Layout V) → Keeps bits old new → ((q : Coord) → SameDescent bits old new q) → AddsBackgroundTiles bits old new
  adds_background_none old new keeps same = record { keeps = keeps; nodes = same_no_node bits old new same; tiles = λ level q tile e. inl (sym (same q level) ∙ e) }

  pub adds_background_twice : (old mid new : Layout V) → AddsBackgroundTiles bits old mid → AddsBackgroundTiles bits mid new → AddsBackgroundTiles bits old new
  adds_background_twice old mid new a b = record {
    keeps = keeps_trans bits old mid new a.keeps b.keeps;
    nodes = no_node_twice bits old mid new a.nodes b.nodes;
    tiles = λ level q tile e. elim (b.tiles level q tile e) [ inl f ↦ a.tiles level q tile f | inr p ↦ inr (p ∙ background_stays old mid a.keeps) ];
  }

  -- what is split for the background cell stays split
  pub split_background : (old new : Layout V) → AddsBackgroundTiles bits old new → (box : Box) → IsSplit bits box (background_cell old) old → IsSplit bits box (background_cell old) new
  split_background old new adds box edges = record {
    tiles = λ level p inside tile e. elim (adds.tiles level p tile e) [ inl f ↦ edges.tiles level p inside tile f | inr same ↦ inr same ];
    entered = λ p inside. inl (sym (background_stays old new adds.keeps));
  }

  -- ---- one upper extent

  module _ (t : Layout V) (p k : Coord) (number : key bits p ≡ k) where
    -- an upper extent that holds anything but the background keeps its entry
    pub erases_none : (IsConstantBlock bits Upper t p (background_cell t) → ⊥) → ErasesRoot bits t t k
    erases_none other = record {
      adds = adds_background_itself t;
      table = λ j d. refl;
      here = λ q e entry some const. other (λ r same. const r (same ∙ number ∙ sym e));
    }

    -- a constant block has one cell, and needs no node
    none_needed : (n : Layout V) (level : Level) (q : Coord) (cell : Cell V) → ((r : Coord) → key bits r ≡ key bits q → cell_at bits n r ≡ cell) → IsNeededTo bits Upper n q → IsTrue (is_child (entry_over bits level n q)) → ⊥
    none_needed n Upper q cell const needed child = let e = child_of (root_entry bits n q) child in needed.2 e.0 e.1 cell (λ r same. const r same)
    none_needed n Lower q cell const needed child = let e = child_of (upper_entry bits n q) child in needed.1 e.0 e.1 cell (λ r same. const r (upper_from_lower bits r q same))
    none_needed n Leaf q cell const needed child =
        let e = child_of (lower_entry bits n q) child in
        needed.0 e.0 e.1 cell (λ r same. const r (upper_from_lower bits r q (lower_from_leaf bits r q same)))

    -- a background block is pruned: its tile is the background
    pub erases_pruned : (n : Layout V) → IsConstantBlock bits Upper t p (background_cell t) → PrunesRoot bits t n k → ErasesRoot bits t n k
    erases_pruned n const prunes = record {
      adds = record {
        keeps = prunes.keeps;
        nodes = λ level q child.
            elim (coord_cases (key bits q) k) [
              | inl at ↦ absurd (none_needed n level q (background_cell t) (λ r same. prunes.keeps.cells r ∙ const r (same ∙ at ∙ sym number)) (prunes.here q at).0 child)
              | inr d ↦ subst (λ e. IsTrue (is_child e)) (prunes.others q d level) child
            ];
        tiles = λ level q tile e.
            elim (coord_cases (key bits q) k) [
              | inl at ↦ inr (sym (tile_gives bits level n q tile e) ∙ prunes.keeps.cells q ∙ const q (at ∙ sym number))
              | inr d ↦ inl (sym (prunes.others q d level) ∙ e)
            ];
      };
      table = prunes.table;
      here = λ q e. (prunes.here q e).1;
    }

  -- ---- upper extents one after another

  -- no upper extent up to this key has the entry of a background one, and the table past the key stays
  pub record ErasesTo (old new : Layout V) (passed : Option Coord) : Type 0 where
    pub adds : AddsBackgroundTiles bits old new
    pub keys : MakesNoKey old new
    pub ahead : (k : Coord) → IsPast passed k → root_at new.root k ≡ root_at old.root k
    pub done : (q : Coord) → (IsPast passed (key bits q) → ⊥) → IsNoBackgroundRoot bits new q

  pub erased_none : (t : Layout V) → ErasesTo t t None
  erased_none t = record { adds = adds_background_itself t; keys = λ k h. h; ahead = λ k h. refl; done = λ q h. absurd (h tt) }

  -- the next key of the table is the one that it had at first
  pub next_of_old : (old mid : Layout V) (passed : Option Coord) (k : Coord) → ErasesTo old mid passed → IsNextKey mid.root passed (Some k) → IsNextKey old.root passed (Some k)
  next_of_old old mid passed k erases next =
      (rw (← erases.ahead k next.1) next.0, next.1, λ j past some. next.2 j past (rw (erases.ahead j past) some))

  -- an upper extent without an entry has no background entry
  absent_erased : (t : Layout V) (q : Coord) → root_at t.root (key bits q) ≡ None → IsNoBackgroundRoot bits t q
  absent_erased t q none = λ entry some const. none_some entry (sym none ∙ some)
    where
      none_some : {A : Type 0} (x : A) → ◌≡◌ {A = Option A} None (Some x) → ⊥
      none_some x e = cc

  pub erased_next : (old mid new : Layout V) (passed : Option Coord) (k : Coord) → ErasesTo old mid passed → IsNextKey mid.root passed (Some k) → ErasesRoot bits mid new k → ErasesTo old new (Some k)
  erased_next old mid new passed k so_far next erases = record {
    adds = adds_background_twice old mid new so_far.adds erases.adds;
    keys = keys_twice old mid new so_far.keys (keys_but mid new k next.0 erases.table);
    ahead = λ j later. erases.table j (apart k j later) ∙ so_far.ahead j (past_on passed k j next.1 later);
    done = λ q not_past.
        elim (coord_cases (key bits q) k) [
          | inl e ↦ erases.here q e
          | inr d ↦ elim (past_or_not passed (key bits q)) [
            | inr before ↦ λ entry some const.
                so_far.done q before entry (sym (erases.table (key bits q) d) ∙ some)
                (λ r b. sym (erases.adds.keeps.cells r) ∙ const r b ∙ background_stays mid new erases.adds.keeps)
            | inl past ↦
                elim (some_or_none (root_at mid.root (key bits q))) [
                  | inl x ↦ absurd (d (sym (same_keys k (key bits q) (equal_left (coord_cmp k (key bits q)) (next.2 (key bits q) past (is_some_from _ x.0 x.1)) not_past))))
                  | inr none ↦ absent_erased new q (erases.table (key bits q) d ∙ none)
                ]
          ]
        ];
  }

  -- if no key is left, the table is swept
  pub erased_end : (old new : Layout V) (passed : Option Coord) → ErasesTo old new passed → IsNextKey new.root passed None → (q : Coord) → IsNoBackgroundRoot bits new q
  erased_end old new passed so_far next q =
      elim (past_or_not passed (key bits q)) [
        | inr before ↦ so_far.done q before
        | inl past ↦ absent_erased new q (next (key bits q) past)
      ]
