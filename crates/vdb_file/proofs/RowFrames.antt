-- The text of a block depends only on the cells of its coordinates.
use Rattle.vdb_file.proofs.Common.{◌≡◌, ℕ, ◌<◌, Bool, true, not, cond, List, [], ◌∷◌, ◌++◌, length, refl, sym, ap, subst, ◌∙◌, AllByRecursion, Contains, filter, flat_map, w16, to_be_bytes, block, block_around, block_number, entries, sub_block, Box, is_inside, Bits, Coord, Level, Leaf, Lower, Upper, same_truth, number_of_corner, corner_inside, in_entry, inside_numbered, is_background, is_constant, is_uniform, Field, off, uniform_cells, uniform_from, Cell, block_bytes, cell_bytes, entries_bytes, leaf_body, listed, lower_body, root_body, voxel_body}
use Rattle.vdb_coord.specs.Blocks.{entry_numbers}
use Rattle.vdb_file.proofs.Kept.{all_kept, range_below, range_has}
use Rattle.vdb_file.proofs.Ordered.{at_member, by_member}
use Rattle.vdb_file.proofs.Agreement.{Agree, AreValues, is_held}
use Rattle.vdb_file.proofs.Bodies.{entry_is_leaf, entry_is_lower}

-- ---- lists

-- tests that agree at each member keep the same members
pub filter_same : {K : Type 0} (s t : K → Bool) (xs : List K) → AllByRecursion (λ x. s x ≡ t x) xs → filter s xs ≡ filter t xs
filter_same s t [] all = refl
filter_same s t (x ∷ xs) all = let rest = filter_same s t xs all.1 in λ j. cond (all.0 j) (x ∷ rest j) (rest j)

-- texts that agree at each member combine to one text
pub flat_map_same : {K : Type 0} (f g : K → List ℕ) (xs : List K) → AllByRecursion (λ x. f x ≡ g x) xs → flat_map f xs ≡ flat_map g xs
flat_map_same f g [] all = refl
flat_map_same f g (x ∷ xs) all = let rest = flat_map_same f g xs all.1 in λ j. all.0 j ++ rest j

-- ---- the entries of a block

-- the numbers of the entries lie below their count
pub member_below : (bits : Bits) (level : Level) (i : ℕ) → Contains (entry_numbers bits level) i → i < entries bits level
unfolding entry_numbers
member_below bits level i member = at_member (λ k. k < entries bits level) (entry_numbers bits level) i (range_below (entries bits level)) member

pub below_member : (bits : Bits) (level : Level) (i : ℕ) → i < entries bits level → Contains (entry_numbers bits level) i
unfolding entry_numbers
below_member bits level i h = range_has (entries bits level) i h

-- an entry lies in its block
pub agree_in_entry : {V : Type 0} (f g : Field V) (bits : Bits) (level : Level) (c : Coord) (i : ℕ) → i < entries bits level → Agree f g (block_around bits level c) → Agree f g (sub_block bits level (block_around bits level c) i)
agree_in_entry f g bits level c i h agree = record { same = λ p inside. agree.same p (inside_numbered bits level (block_number bits level c) p (in_entry bits level c p i h inside).0) }

-- a block holds its least corner
pub corner_in_block : (bits : Bits) (level : Level) (c : Coord) → is_inside (block_around bits level c) (block_around bits level c).min ≡ true
corner_in_block bits level c = let n = block_number bits level c in inside_numbered bits level n (block bits level n).min (number_of_corner bits level n)

module _ {V : Type 0} {eq : V → V → Bool} {value_bytes : V → List ℕ} {P : V → Type 0} (values : AreValues eq value_bytes P) (f g : Field V) where
  -- if two fields agree in a box, the box has one cell in both or in neither
  pub uniform_same : (b : Box) (c : Cell V) → Agree f g b → is_uniform eq f b c ≡ is_uniform eq g b c
  uniform_same b c agree =
      same_truth (is_uniform eq f b c) (is_uniform eq g b c)
      (λ h. uniform_from eq values.exact values.itself g b c (λ p inside. sym (agree.same p inside) ∙ uniform_cells eq values.exact values.itself f b c h p inside))
      (λ h. uniform_from eq values.exact values.itself f b c (λ p inside. agree.same p inside ∙ uniform_cells eq values.exact values.itself g b c h p inside))

  pub constant_same : (b : Box) → is_inside b b.min ≡ true → Agree f g b → is_constant eq f b ≡ is_constant eq g b
  constant_same b corner agree = uniform_same b (f.cell b.min) agree ∙ ap (is_uniform eq g b) (agree.same b.min corner)

  module _ (e : f.background ≡ g.background) where
    pub background_same : (b : Box) → Agree f g b → is_background eq f b ≡ is_background eq g b
    background_same b agree = uniform_same b (off f.background) agree ∙ ap (λ (v : V). is_uniform eq g b (off v)) e

    module _ (bits : Bits) (level : Level) (c : Coord) where
      pub listed_same : Agree f g (block_around bits level c) → listed eq value_bytes bits f level (block_around bits level c) ≡ listed eq value_bytes bits g level (block_around bits level c)
      listed_same agree =
          let box = sub_block bits level (block_around bits level c) in
          filter_same (is_held eq box f) (is_held eq box g) (entry_numbers bits level)
          (by_member (λ i. is_held eq box f i ≡ is_held eq box g i) (entry_numbers bits level)
          (λ i member. ap not (background_same (box i) (agree_in_entry f g bits level c i (member_below bits level i member) agree))))

      module _ (left right : Box → List ℕ) (each : (i : ℕ) → i < entries bits level → let b = sub_block bits level (block_around bits level c) i in Agree f g b → left b ≡ right b) where
        pub entries_same : let b = block_around bits level c in Agree f g b → entries_bytes eq value_bytes bits f left level b ≡ entries_bytes eq value_bytes bits g right level b
        entries_same agree =
            let b = block_around bits level c in
            let box = sub_block bits level b in
            let text : (Box → List ℕ) → ℕ → List ℕ = λ entry i. to_be_bytes w16 i ++ entry (box i) in
            let one : (i : ℕ) → Contains (entry_numbers bits level) i → text left i ≡ text right i = λ i member.
            let h = member_below bits level i member in ap (λ l. to_be_bytes w16 i ++ l) (each i h (agree_in_entry f g bits level c i h agree)) in
            ap (λ l. to_be_bytes w16 (length (listed eq value_bytes bits f level b)) ++ l)
            (flat_map_same (text left) (text right) (listed eq value_bytes bits f level b)
            (all_kept (λ i. text left i ≡ text right i) (is_held eq box f) (entry_numbers bits level) (by_member (λ i. text left i ≡ text right i) (entry_numbers bits level) one)))
            ∙ ap (λ (is : List ℕ). to_be_bytes w16 (length is) ++ flat_map (text right) is) (listed_same agree)

        pub block_same : let b = block_around bits level c in Agree f g b → block_bytes eq value_bytes bits f left level b ≡ block_bytes eq value_bytes bits g right level b
        block_same agree =
            let b = block_around bits level c in
            let corner = corner_in_block bits level c in
            let one = constant_same b corner agree in
            let cell = agree.same b.min corner in
            let all = entries_same agree in
            λ j. cond (one j) (cell_bytes eq value_bytes (cell j)) (3 ∷ all j)

    module _ (bits : Bits) where
      -- the bodies of a voxel, a leaf block, a lower block and a root block
      pub voxel_same : (b : Box) → is_inside b b.min ≡ true → Agree f g b → voxel_body eq value_bytes bits f b ≡ voxel_body eq value_bytes bits g b
      voxel_same b corner agree = ap (cell_bytes eq value_bytes) (agree.same b.min corner)

      pub leaf_same : (c : Coord) → let b = block_around bits Leaf c in Agree f g b → leaf_body eq value_bytes bits f b ≡ leaf_body eq value_bytes bits g b
      leaf_same c agree =
          let b = block_around bits Leaf c in
          block_same bits Leaf c (voxel_body eq value_bytes bits f) (voxel_body eq value_bytes bits g) (λ i h a. voxel_same (sub_block bits Leaf b i) (corner_inside bits Leaf b i) a) agree

      pub lower_same : (c : Coord) → let b = block_around bits Lower c in Agree f g b → lower_body eq value_bytes bits f b ≡ lower_body eq value_bytes bits g b
      lower_same c agree =
          let body : Field V → Box → List ℕ = leaf_body eq value_bytes bits in
          block_same bits Lower c (body f) (body g)
          (λ i h a. let at = entry_is_leaf bits c i h in
          subst (λ b. body f b ≡ body g b) at (leaf_same (sub_block bits Lower (block_around bits Lower c) i).min (subst (λ b. Agree f g b) (sym at) a)))
          agree

      pub root_same : (c : Coord) → let b = block_around bits Upper c in Agree f g b → root_body eq value_bytes bits f b ≡ root_body eq value_bytes bits g b
      root_same c agree =
          let body : Field V → Box → List ℕ = lower_body eq value_bytes bits in
          block_same bits Upper c (body f) (body g)
          (λ i h a. let at = entry_is_lower bits c i h in
          subst (λ b. body f b ≡ body g b) at (lower_same (sub_block bits Upper (block_around bits Upper c) i).min (subst (λ b. Agree f g b) (sym at) a)))
          agree
