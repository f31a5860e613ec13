-- Which nodes and keys are added when nodes are made in place of tiles.
use Rattle.vdb_tree.proofs.Common.{◌≡◌, ◌≢◌, ◌⊎◌, inl, inr, refl, sym, ap, subst, ◌∙◌, true, IsTrue, IsSome, block_number, key, Box, is_inside, Bits, Coord, Level, Leaf, Lower, Upper, Tile, Cell, Keeps, SameDescent, Layout, cell_at, entry_over, root_at, IsActiveIn, IsCut, KeepsAllBut, KeepsElsewhere, MakesKeysIn, MakesNoKey, MakesNoNode, MakesOnly, is_child, IsCovered}
use Rattle.vdb_tree.proofs.Blocks.{never}
use Rattle.vdb_tree.proofs.Covered.{covered_by_block}
use Rattle.vdb_tree.proofs.Levels.{coord_cases, tile_or_child}
use Rattle.vdb_tree.proofs.Needed.{absent_block, is_child_from, is_some_from, some_or_none, tile_block}

pub level_cases : (l m : Level) → (l ≡ m) ⊎ (l ≢ m)
level_cases Leaf Leaf = inl refl
level_cases Leaf Lower = inr (λ e. cc)
level_cases Leaf Upper = inr (λ e. cc)
level_cases Lower Leaf = inr (λ e. cc)
level_cases Lower Lower = inl refl
level_cases Lower Upper = inr (λ e. cc)
level_cases Upper Leaf = inr (λ e. cc)
level_cases Upper Lower = inr (λ e. cc)
level_cases Upper Upper = inl refl

module _ {V : Type 0} (bits : Bits) where
  -- ---- other blocks

  pub elsewhere_itself : (t : Layout V) (p : Coord) → KeepsElsewhere bits t t p
  elsewhere_itself t p level q d = refl

  pub elsewhere_same : (old new : Layout V) (p : Coord) → ((q : Coord) → SameDescent bits old new q) → KeepsElsewhere bits old new p
  elsewhere_same old new p same level q d = same q level

  pub but_elsewhere : (level : Level) (old new : Layout V) (p : Coord) → KeepsAllBut bits level old new p → KeepsElsewhere bits old new p
  but_elsewhere level old new p but l q d = but l q (inr d)

  pub elsewhere_twice : (old mid new : Layout V) (p : Coord) → KeepsElsewhere bits old mid p → KeepsElsewhere bits mid new p → KeepsElsewhere bits old new p
  elsewhere_twice old mid new p a b level q d = b level q d ∙ a level q d

  -- entries that stay, and then change only over p's block of a level
  pub but_after : (level : Level) (old mid new : Layout V) (p : Coord) → ((q : Coord) → SameDescent bits old mid q) → KeepsAllBut bits level mid new p → KeepsAllBut bits level old new p
  but_after level old mid new p same but l q h = but l q h ∙ same q l

  -- ---- which nodes are added

  -- a tile isn't a child
  tile_isnt : (level : Level) (t : Layout V) (q : Coord) (tile : Cell V) {X : Type 0} → entry_over bits level t q ≡ Tile tile → IsTrue (is_child (entry_over bits level t q)) → X
  tile_isnt level t q tile at child = absurd (never (ap is_child at) child)

  module _ (Holds : Level → Coord → Cell V → Type 0) where
    pub makes_none : (old new : Layout V) → ((q : Coord) → SameDescent bits old new q) → MakesOnly bits Holds old new
    makes_none old new same level q tile at child = tile_isnt level new q tile (same q level ∙ at) child

    pub makes_twice : (old mid new : Layout V) → Keeps bits old mid → MakesOnly bits Holds old mid → MakesOnly bits Holds mid new → MakesOnly bits Holds old new
    makes_twice old mid new keeps a b level q tile at child = elim (tile_or_child (entry_over bits level mid q)) [
      | inl e ↦
          let same : e.0 ≡ tile = sym (tile_block bits mid level q e.0 e.1 q refl) ∙ keeps.cells q ∙ tile_block bits old level q tile at q refl in
          b level q tile (e.1 ∙ ap Tile same) child
      | inr e ↦ a level q tile at (is_child_from (entry_over bits level mid q) e.0 e.1)
    ]

  pub same_no_node : (old new : Layout V) → ((q : Coord) → SameDescent bits old new q) → MakesNoNode bits old new
  same_no_node old new same level q child = subst (λ e. IsTrue (is_child e)) (same q level) child

  pub no_node_twice : (old mid new : Layout V) → MakesNoNode bits old mid → MakesNoNode bits mid new → MakesNoNode bits old new
  no_node_twice old mid new a b level q child = a level q (b level q child)

  pub no_node_makes : (Holds : Level → Coord → Cell V → Type 0) (old new : Layout V) → MakesNoNode bits old new → MakesOnly bits Holds old new
  no_node_makes Holds old new none level q tile at child = tile_isnt level old q tile at (none level q child)

  -- a node made in place of the active tile around a coordinate of the box
  pub active_made : (box : Box) (old new : Layout V) (p : Coord) → IsTrue (is_inside box p) → (cell_at bits old p).on ≡ true → KeepsElsewhere bits old new p → MakesOnly bits (IsActiveIn bits box) old new
  active_made box old new p inside on keeps level q tile at child = elim (coord_cases (block_number bits level q) (block_number bits level p)) [
    | inl e ↦ (ap (λ (c : Cell V). c.on) (sym (tile_block bits old level q tile at p (sym e))) ∙ on, (p, inside, sym e))
    | inr d ↦ tile_isnt level new q tile (keeps level q d ∙ at) child
  ]

  -- a node made in place of a tile over p, a coordinate of the box, that the box doesn't cover
  pub cut_made : (box : Box) (cell : Cell V) (level : Level) (old new : Layout V) (p : Coord) (tile : Cell V) → IsTrue (is_inside box p) → (IsCovered bits box level p → ⊥) → entry_over bits level old p ≡ Tile tile → tile ≢ cell
      → KeepsAllBut bits level old new p → MakesOnly bits (IsCut bits box cell) old new
  cut_made box cell level old new p tile inside partly tiled other but l q t at child = elim (level_cases l level) [
    | inr d ↦ tile_isnt l new q t (but l q (inl d) ∙ at) child
    | inl same ↦ subst (λ (m : Level). entry_over bits m old q ≡ Tile t → IsTrue (is_child (entry_over bits m new q)) → IsCut bits box cell m q t) (sym same) here at child
  ]
    where
      here : entry_over bits level old q ≡ Tile t → IsTrue (is_child (entry_over bits level new q)) → IsCut bits box cell level q t
      here is made = elim (coord_cases (block_number bits level q) (block_number bits level p)) [
        | inr d ↦ tile_isnt level new q t (but level q (inr d) ∙ is) made
        | inl e ↦
            let one : t ≡ tile = sym (tile_block bits old level q t is p (sym e)) ∙ tile_block bits old level p tile tiled p refl in
            ((p, inside, sym e), λ covered. partly (covered_by_block bits box level q p (sym e) covered), λ is_cell. other (sym one ∙ is_cell))
      ]

  -- ---- which keys are added

  pub keys_in_none : (box : Box) (old new : Layout V) → MakesNoKey old new → MakesKeysIn bits box old new
  keys_in_none box old new none k h = inl (none k h)

  pub keys_in_twice : (box : Box) (old mid new : Layout V) → MakesKeysIn bits box old mid → MakesKeysIn bits box mid new → MakesKeysIn bits box old new
  keys_in_twice box old mid new a b k h = elim (b k h) [ inl held ↦ a k held | inr met ↦ inr met ]

  -- the added key of an upper extent that holds a coordinate of the box
  pub keys_in_but : (box : Box) (old new : Layout V) (p : Coord) → IsTrue (is_inside box p) → ((k : Coord) → k ≢ key bits p → root_at new.root k ≡ root_at old.root k) → MakesKeysIn bits box old new
  keys_in_but box old new p inside table k h = elim (coord_cases k (key bits p)) [
    | inl e ↦ inr (p, inside, sym e)
    | inr d ↦ inl (subst (λ o. IsSome o) (table k d) h)
  ]

  -- an active cell lies under an entry of the table
  pub active_entered : (t : Layout V) (p : Coord) → (cell_at bits t p).on ≡ true → IsSome (root_at t.root (key bits p))
  active_entered t p on = elim (some_or_none (root_at t.root (key bits p))) [
    | inl e ↦ is_some_from (root_at t.root (key bits p)) e.0 e.1
    | inr none ↦ absurd (never (ap (λ (c : Cell V). c.on) (absent_block bits t p none p refl)) on)
  ]

module _ {V : Type 0} where
  -- if the table stays except under a key that it has, no key is added
  pub keys_but : (old new : Layout V) (j : Coord) → IsSome (root_at old.root j) → ((k : Coord) → k ≢ j → root_at new.root k ≡ root_at old.root k) → MakesNoKey old new
  keys_but old new j held table k h = elim (coord_cases k j) [
    | inl e ↦ subst (λ (i : Coord). IsSome (root_at old.root i)) (sym e) held
    | inr d ↦ subst (λ o. IsSome o) (table k d) h
  ]

  pub keys_twice : (old mid new : Layout V) → MakesNoKey old mid → MakesNoKey mid new → MakesNoKey old new
  keys_twice old mid new a b k h = a k (b k h)
