-- The voxels of a leaf that aren't the background.
use Rattle.vdb_file.proofs.Common.{◌≡◌, ℕ, ◌+◌, ◌*◌, ◌-◌, ◌<◌, ◌≤◌, Bool, true, false, not, List, ◌++◌, drop, length-drop, arith, refl, sym, ap, subst, ◌∙◌, length, length-take-le, take, take-take, put_mid, same_len_mid, ◌↔◌, IfSome, Option, Some, None, w16, to_be_bytes, block_around, block_number, entries, offset, AreBits, Box, everywhere, is_inside, Bits, Coord, Level, Leaf, block_in_range, number_of_corner, corner_inside, corner_of_entry, in_entry, number_in_block, voxel_from_leaf, entry_count, Field, off, Layout, field_of, cell_exact, cell_same, uniform_cells, uniform_from, IsConstantLeaf, cell_in, cell_eq, is_background, is_constant, Cell, cell_bytes, listed, voxel_body, Puts, Sent, numbered, passing}
use Rattle.std.proofs.lemmas.Slice.{take-put_mid}
use Rattle.std.proofs.Math.Seq.{take-append-add}
use Rattle.std.specs.Prelude.{is_some}
use Rattle.vdb_coord.specs.Blocks.{node_bits}
use Rattle.vdb_tree.specs.Leaves.{IsLeafAround}
use Rattle.vdb_tree.proofs.Constants.{block_from_node}
use Rattle.vdb_walk.proofs.LeafTests.{leaf_test}
use Rattle.vdb_node.specs.Leaf.{Leaf as LeafOf}
use Rattle.vdb_file.proofs.ListedEntries.{around, listed_is}
use Rattle.vdb_file.proofs.Passing.{counted_in, counted_out, numbered_more, numbered_same, passing_in, passing_out, passing_same}

module _ {V : Type 0} (eq : V → V → Bool) (leaf : LeafOf V) (d background : Cell V) where
  -- whether the voxel isn't the background
  abbrev pub stands : ℕ → Bool
  stands i = not (cell_eq eq (cell_in d leaf i) background)

  module _ (i count : ℕ) (cell : Cell V) (at : cell_in d leaf i ≡ cell) where
    pub voxel_counted : not (cell_eq eq cell background) ≡ true → count ≡ length (passing stands i) → count + 1 ≡ length (passing stands (i + 1))
    voxel_counted h = counted_in stands i count (ap (λ (c : Cell V). not (cell_eq eq c background)) at ∙ h)

    pub voxel_passed : not (cell_eq eq cell background) ≡ false → count ≡ length (passing stands i) → count ≡ length (passing stands (i + 1))
    voxel_passed h = counted_out stands i count (ap (λ (c : Cell V). not (cell_eq eq c background)) at ∙ h)

  module _ (value_bytes : V → List ℕ) (i : ℕ) (cell : Cell V) (at : cell_in d leaf i ≡ cell) (front : List ℕ)
      (so_far : front ≡ numbered (λ k. cell_bytes eq value_bytes (cell_in d leaf k)) (passing stands i)) where
    pub voxel_added : not (cell_eq eq cell background) ≡ true → front ++ (to_be_bytes w16 i ++ cell_bytes eq value_bytes cell) ≡ numbered (λ k. cell_bytes eq value_bytes (cell_in d leaf k)) (passing stands (i + 1))
    voxel_added h =
        let entry : ℕ → List ℕ = λ k. cell_bytes eq value_bytes (cell_in d leaf k) in
        ap (λ (l : List ℕ). l ++ (to_be_bytes w16 i ++ cell_bytes eq value_bytes cell)) so_far
        ∙ ap (λ (x : Cell V). numbered entry (passing stands i) ++ (to_be_bytes w16 i ++ cell_bytes eq value_bytes x)) (sym at)
        ∙ sym (ap (numbered entry) (passing_in stands i (ap (λ (x : Cell V). not (cell_eq eq x background)) at ∙ h)) ∙ numbered_more entry (passing stands i) i)

    pub voxel_left : not (cell_eq eq cell background) ≡ false → front ≡ numbered (λ k. cell_bytes eq value_bytes (cell_in d leaf k)) (passing stands (i + 1))
    voxel_left h =
        so_far ∙ ap (numbered (λ k. cell_bytes eq value_bytes (cell_in d leaf k))) (sym (passing_out stands i (ap (λ (x : Cell V). not (cell_eq eq x background)) at ∙ h)))

-- a part of a row was written, and its first bytes are kept
pub part_kept : (k : ℕ) (xs ys front bytes : List ℕ) (a s : ℕ) → a + k ≤ length xs → length ys ≡ k → s ≤ k → take a xs ≡ front → take s ys ≡ bytes → take (a + s) (put_mid a (a + k - a) xs ys) ≡ front ++ bytes
part_kept k xs ys front bytes a s fits long few before here =
    let there : length (take a xs) ≡ a = length-take-le a xs (omega (arith, fits)) in
    sym (take-take (a + s) (a + k) (put_mid a (a + k - a) xs ys) (omega (arith, few)))
    ∙ ap (take (a + s)) (take-put_mid a (a + k - a) xs ys (a + k) (omega (arith, long)) (omega (arith, fits)))
    ∙ ap (λ (n : ℕ). take (n + s) (take a xs ++ ys)) (sym there)
    ∙ take-append-add (take a xs) ys s
    ∙ ap (λ (l : List ℕ). l ++ take s ys) before
    ∙ ap (λ (l : List ℕ). front ++ l) here

-- a part of a row has as many bytes as are written to it
grown : (k a : ℕ) (xs ys : List ℕ) → a + k ≤ length xs → length ys ≡ k → length ys ≡ length (take (a + k - a) (drop a xs))
grown k a xs ys fits long = let cut = length-take-le (a + k - a) (drop a xs) (omega (arith, length-drop a xs, fits)) in omega (arith, cut, long)

-- the first n voxels of a leaf that aren't the background are counted, and encoded in the first bytes of a row
pub record AreEncoded {V : Type 0} (eq : V → V → Bool) (value_bytes : V → List ℕ) (leaf : LeafOf V) (background : Cell V) (n len m : ℕ) (row : List ℕ) : Type 0 where
  pub few : len ≤ 11 * n
  pub long : length row ≡ 5643
  pub count : (d : Cell V) → m ≡ length (passing (stands eq leaf d background) n)
  pub bytes : (d : Cell V) → take len row ≡ numbered (λ k. cell_bytes eq value_bytes (cell_in d leaf k)) (passing (stands eq leaf d background) n)

-- a voxel's value and its state are its cell
pub cell_from : {V : Type 0} (leaf : LeafOf V) (i : ℕ) (d : Cell V) (value : V) (on : Bool) → (cell_in d leaf i).value ≡ value → (cell_in d leaf i).on ≡ on → cell_in d leaf i ≡ record { value = value; on = on }
cell_from leaf i d value on v s = λ j. record { value = v j; on = s j }

module _ {V : Type 0} (eq : V → V → Bool) (value_bytes : V → List ℕ) (leaf : LeafOf V) (background : Cell V) where
  -- at first none is
  pub none_encoded : (n : ℕ) → n ≡ 0 → (row : List ℕ) → length row ≡ 5643 → AreEncoded eq value_bytes leaf background n 0 0 row
  none_encoded n none row long =
      subst (λ (k : ℕ). AreEncoded eq value_bytes leaf background k 0 0 row) (sym none) (record { few = omega arith; long = long; count = λ d. refl; bytes = λ d. refl })

  -- one voxel more, after the first i
  module _ (i next len m : ℕ) (row : List ℕ) (step : next ≡ i + 1) (so_far : AreEncoded eq value_bytes leaf background i len m row) (cell : Cell V) (at : (d : Cell V) → cell_in d leaf i ≡ cell) where
    pub one_passed : not (cell_eq eq cell background) ≡ false → AreEncoded eq value_bytes leaf background next len m row
    one_passed h =
        subst (λ (n : ℕ). AreEncoded eq value_bytes leaf background n len m row) (sym step)
        (record {
          few = let few = so_far.few in omega (arith, few);
          long = so_far.long;
          count = λ d. voxel_passed eq leaf d background i m cell (at d) h (so_far.count d);
          bytes = λ d. voxel_left eq leaf d background value_bytes i cell (at d) (take len row) (so_far.bytes d) h;
        })

    pub one_encoded : (size : ℕ) (bytes : List ℕ) → i < 512 → not (cell_eq eq cell background) ≡ true → length bytes ≡ 11 → size ≤ 11 → take size bytes ≡ to_be_bytes w16 i ++ cell_bytes eq value_bytes cell
        → AreEncoded eq value_bytes leaf background next (len + size) (m + 1) (put_mid len (len + 11 - len) row bytes)
    one_encoded size bytes less h whole fits same =
        let few = so_far.few in
        let long = so_far.long in
        let start : len + 11 ≤ length row = omega (arith, few, long, less) in
        subst (λ (n : ℕ). AreEncoded eq value_bytes leaf background n (len + size) (m + 1) (put_mid len (len + 11 - len) row bytes)) (sym step)
        (record {
          few = omega (arith, few, fits);
          long = same_len_mid len (len + 11 - len) row bytes (grown 11 len row bytes start whole) ∙ long;
          count = λ d. voxel_counted eq leaf d background i m cell (at d) h (so_far.count d);
          bytes = λ d.
              part_kept 11 row bytes (take len row) (to_be_bytes w16 i ++ cell_bytes eq value_bytes cell) len size start whole fits refl same
              ∙ voxel_added eq leaf d background value_bytes i cell (at d) (take len row) (so_far.bytes d) h;
        })

-- ---- the leaf of a tree, or none

-- a block with one cell
pub one_everywhere : {V : Type 0} (eq : V → V → Bool) (exact : (x y : V) → eq x y ≡ true → x ≡ y) (itself : (x : V) → eq x x ≡ true) (bits : Bits) (configured : AreBits bits) (level : Level) (f : Field V) (p : Coord) (inside : is_inside everywhere p ≡ true)
    (cell : Cell V) → ((q : Coord) → is_inside everywhere q ≡ true → block_number bits level q ≡ block_number bits level p → f.cell q ≡ cell)
    → (is_constant eq f (block_around bits level p) ≡ true) × (f.cell (block_around bits level p).min ≡ cell)
one_everywhere eq exact itself bits configured level f p inside cell cells =
    let box = block_around bits level p in
    let all : (q : Coord) → block_number bits level q ≡ block_number bits level p → f.cell q ≡ cell = λ q b. cells q (block_in_range bits level configured p q inside b) b in
    let first : f.cell box.min ≡ cell = all box.min (number_of_corner bits level (block_number bits level p)) in
    (uniform_from eq exact itself f box (f.cell box.min) (λ q h. all q (number_in_block bits level (block_number bits level p) q h) ∙ sym first), first)

both_ways : (a b : Bool) → (a ≡ true → b ≡ true) → (b ≡ true → a ≡ true) → a ≡ b
both_ways true b h k = sym (h refl)
both_ways false true h k = k refl
both_ways false false h k = refl

same_denied : (a b : Bool) → not a ≡ not b → a ≡ b
same_denied true true e = refl
same_denied true false e = cc
same_denied false true e = cc
same_denied false false e = refl

twice : (b : Bool) → b ≡ not (not b)
twice true = refl
twice false = refl

module _ {V : Type 0} (eq : V → V → Bool) (exact : (x y : V) → eq x y ≡ true → x ≡ y) (itself : (x : V) → eq x x ≡ true) (bits : Bits) (configured : AreBits bits) (t : Layout V) (p : Coord) (inside : is_inside everywhere p ≡ true)
    (leaf : LeafOf V) (leaf_around : IsLeafAround bits (field_of bits t) p leaf) where
  abbrev f : Field V
  f = field_of bits t

  abbrev box : Box
  box = block_around bits Leaf p

  by_leaf : (q : Coord) → block_number bits Leaf q ≡ block_number bits Leaf p → f.cell q ≡ cell_in (off t.background) leaf (offset bits Leaf q)
  by_leaf q b = leaf_around q (block_in_range bits Leaf configured p q inside b) b

  module _ (one : Option (Cell V)) (given : (c : Cell V) → (one ≡ Some c) ↔ IsConstantLeaf leaf (entry_count (node_bits bits Leaf)) c) where
    -- the leaf has one cell if its block is constant
    pub one_test : (last : ℕ) → last + 1 ≡ entries bits Leaf → (e : Cell V) → ((d : Cell V) → cell_in d leaf last ≡ e) → is_some one ≡ is_constant eq f box
    one_test last end e reads =
        same_denied (is_some one) (is_constant eq f box) (leaf_test eq exact itself bits configured t p inside leaf leaf_around last end e reads one (not (is_some one)) (twice (is_some one)) given)

  -- the leaf's one cell is the block's
  pub one_at : (one : Option (Cell V)) → ((c : Cell V) → (one ≡ Some c) ↔ IsConstantLeaf leaf (entry_count (node_bits bits Leaf)) c) → IfSome one (λ c. f.cell box.min ≡ c)
  one_at None given = tt
  one_at (Some c) given =
      block_from_node bits Leaf p f.cell (λ d i. cell_in d leaf i) (off t.background) c by_leaf ((given c).0 refl) box.min (number_of_corner bits Leaf (block_number bits Leaf p))

  -- an entry of the block is a voxel of the leaf
  pub voxel_at : (i : ℕ) → i < entries bits Leaf → f.cell (around bits p Leaf i).min ≡ cell_in (off t.background) leaf i
  voxel_at i less =
      let c = corner_of_entry bits Leaf p i less in
      by_leaf (around bits p Leaf i).min c.0 ∙ ap (cell_in (off t.background) leaf) c.1

  -- the voxel is listed if it isn't the background
  pub voxel_test : (i : ℕ) → i < entries bits Leaf → is_background eq f (around bits p Leaf i) ≡ cell_eq eq (cell_in (off t.background) leaf i) (off t.background)
  voxel_test i less =
      let corner = (around bits p Leaf i).min in
      let c = corner_of_entry bits Leaf p i less in
      both_ways (is_background eq f (around bits p Leaf i)) (cell_eq eq (cell_in (off t.background) leaf i) (off t.background))
      (λ h. cell_same eq exact itself (cell_in (off t.background) leaf i) (off t.background) (sym (voxel_at i less) ∙ uniform_cells eq exact itself f (around bits p Leaf i) (off t.background) h corner (corner_inside bits Leaf box i)))
      (λ h. uniform_from eq exact itself f (around bits p Leaf i) (off t.background) (λ q within.
      let at = in_entry bits Leaf p q i less within in
      ap f.cell (voxel_from_leaf bits q corner (at.0 ∙ sym c.0) (at.1 ∙ sym c.1)) ∙ voxel_at i less ∙ cell_exact eq exact itself (cell_in (off t.background) leaf i) (off t.background) h))

  module _ (value_bytes : V → List ℕ) where
    pub listed_voxels : listed eq value_bytes bits f Leaf box ≡ passing (stands eq leaf (off t.background) (off t.background)) (entries bits Leaf)
    listed_voxels =
        listed_is eq value_bytes bits f Leaf box
        ∙ passing_same (λ i. not (is_background eq f (around bits p Leaf i))) (stands eq leaf (off t.background) (off t.background)) (entries bits Leaf) (λ i less. ap not (voxel_test i less))

    -- the voxels that were written are the listed entries
    pub voxels_put : (a b : Sent) → Puts a b (numbered (λ i. cell_bytes eq value_bytes (cell_in (off t.background) leaf i)) (passing (stands eq leaf (off t.background) (off t.background)) (entries bits Leaf)))
        → Puts a b (numbered (λ i. voxel_body eq value_bytes bits f (around bits p Leaf i)) (listed eq value_bytes bits f Leaf box))
    voxels_put a b put =
        subst (Puts a b)
        (numbered_same (stands eq leaf (off t.background) (off t.background)) (λ i. cell_bytes eq value_bytes (cell_in (off t.background) leaf i)) (λ i. voxel_body eq value_bytes bits f (around bits p Leaf i)) (entries bits Leaf)
        (λ i less. ap (cell_bytes eq value_bytes) (sym (voxel_at i less)))
        ∙ ap (numbered (λ i. voxel_body eq value_bytes bits f (around bits p Leaf i))) (sym listed_voxels)) put
