-- Reads a block: its head, and then its entries if its cells differ.
use Rattle.vdb_file.proofs.Common.{◌≡◌, ℕ, ◌<◌, ◌≤◌, ◌^◌, Bool, true, false, not, List, [], ◌∷◌, ◌++◌, length, refl, sym, ap, subst, ◌∙◌, arith, inl, inr, append-nil, if◌then◌else◌, AllByRecursion, w16, to_be_bytes, cases_Bool, length-range_with_len, block_around, entries, sub_block, AreBits, Box, Bits, Coord, Level, Cell, cell_eq, is_background, is_constant, is_uniform, Field, off, entries_few, cell_exact, uniform_cells, uniform_from, block_bytes, cell_bytes, listed, LoadFault, Head, Node, HasValues, IsHead, ShowsIn, ShowsInEach, Fails, Position, Took, numbered}
use Rattle.vdb_coord.specs.Blocks.{entry_numbers}
use Rattle.vdb_file.specs.declared.loading.block_head.Head.TheVariants.{One}
use Rattle.vdb_file.specs.internal.Loading.{head_bytes}
use Rattle.vdb_file.proofs.Unambiguous.{says_fixed, says_map}
use Rattle.vdb_file.proofs.Agreement.{Agree, AreValues, is_held}
use Rattle.vdb_file.proofs.Fronts.{fails_after, fails_first, fails_turn, took_both}
use Rattle.vdb_file.proofs.HeadCodes.{says_head}
use Rattle.vdb_file.proofs.Kept.{at_kept, few_kept}
use Rattle.vdb_file.proofs.RowFrames.{below_member, constant_same, corner_in_block, member_below}
use Rattle.vdb_file.proofs.RowInstances.{agree_from_entries, node_row}
use Rattle.vdb_file.proofs.RowReads.{no_row}
use Rattle.vdb_file.proofs.Rows.{IsRow}

-- a block has as many entry numbers as entries
numbers_count : (bits : Bits) (level : Level) → length (entry_numbers bits level) ≡ entries bits level
unfolding entry_numbers
numbers_count bits level = length-range_with_len 0 (entries bits level)

module _ {V : Type 0} {eq : V → V → Bool} {value_bytes : V → List ℕ} {P : V → Type 0} (values : AreValues eq value_bytes P) (bits : Bits) (few : AreBits bits) (level : Level) (c : Coord) (entry : Field V → Box → List ℕ) (background : V) where
  abbrev b : Box
  b = block_around bits level c

  abbrev most : ℕ
  most = entries bits level

  abbrev body : Field V → List ℕ
  body f = block_bytes eq value_bytes bits f (entry f) level b

  abbrev list : Field V → List ℕ
  list f = numbered (λ i. entry f (sub_block bits level b i)) (listed eq value_bytes bits f level b)

  -- this many entries are listed, and the cells of the block differ
  abbrev Mixed : ℕ → Field V → Type 0
  Mixed n f = ShowsInEach eq P background (sub_block bits level b) (entry_numbers bits level) n f × (is_constant eq f b ≡ false)

  -- the head of a block, and the bytes after it
  abbrev head_by : Bool → Field V → Head V
  head_by one f = if one then One (f.cell b.min) else Node (length (listed eq value_bytes bits f level b))

  abbrev tail_by : Bool → Field V → List ℕ
  tail_by one f = if one then [] else list f

  split_by : (one : Bool) (f : Field V) → (if one then cell_bytes eq value_bytes (f.cell b.min) else 3 ∷ (to_be_bytes w16 (length (listed eq value_bytes bits f level b)) ++ list f)) ≡ head_bytes eq value_bytes (head_by one f) ++ tail_by one f
  split_by true f = sym (append-nil (cell_bytes eq value_bytes (f.cell b.min)))
  split_by false f = refl

  split : (f : Field V) → body f ≡ head_bytes eq value_bytes (head_by (is_constant eq f b) f) ++ tail_by (is_constant eq f b) f
  split f = split_by (is_constant eq f b) f

  most_fits : most < 2 ^ 16
  most_fits = let m = entries_few bits level few in omega (arith, m)

  -- a block of the background has one cell
  plain_constant : (f : Field V) → is_background eq f b ≡ true → is_constant eq f b ≡ true
  plain_constant f h =
      let cells = uniform_cells eq values.exact values.itself f b (off f.background) h in
      uniform_from eq values.exact values.itself f b (f.cell b.min) (λ p i. cells p i ∙ sym (cells b.min (corner_in_block bits level c)))

  -- a block that holds something lists some of its entries
  some_listed : (f : Field V) → HasValues P background f → is_background eq f b ≡ false → 1 ≤ length (listed eq value_bytes bits f level b)
  some_listed f has shown = by (listed eq value_bytes bits f level b) refl
    where
      none_kept_at : (i : ℕ) → i < most → listed eq value_bytes bits f level b ≡ [] → is_background eq f (sub_block bits level b i) ≡ true
      none_kept_at i less none = elim (cases_Bool (is_background eq f (sub_block bits level b i))) [
        | inl h ↦ h
        | inr h ↦ absurd (at_kept (λ k. ⊥) (is_held eq (sub_block bits level b) f) (entry_numbers bits level) (subst (AllByRecursion (λ (k : ℕ). ⊥)) (sym none) tt) i (below_member bits level i less) (ap not h))
      ]

      all_plain : listed eq value_bytes bits f level b ≡ [] → is_background eq f b ≡ true
      all_plain none =
          let empty : Field V = record { background = f.background; cell = λ p. off f.background } in
          let agree : Agree f empty b = agree_from_entries values bits few c level f empty (λ i member. record {
            same = λ p i_in. uniform_cells eq values.exact values.itself f (sub_block bits level b i) (off f.background) (none_kept_at i (member_below bits level i member) none) p i_in;
          }) in
          uniform_from eq values.exact values.itself f b (off f.background) agree.same

      by : (is : List ℕ) → is ≡ listed eq value_bytes bits f level b → 1 ≤ length is
      by [] e = absurd (let never : true ≡ false = sym (all_plain (sym e)) ∙ shown in cc)
      by (i ∷ is) e = omega arith

  -- the head is one that a file may have
  head_is : (f : Field V) → ShowsIn eq P background b f → IsHead eq P background most (head_by (is_constant eq f b) f)
  head_is f shows = by (is_constant eq f b) refl
    where
      other : is_constant eq f b ≡ true → cell_eq eq (f.cell b.min) (off background) ≡ false
      other one = elim (cases_Bool (cell_eq eq (f.cell b.min) (off background))) [
        | inl same ↦
            let is : f.cell b.min ≡ off f.background = cell_exact eq values.exact values.itself (f.cell b.min) (off background) same ∙ ap off (sym shows.values.same) in
            let all : is_background eq f b ≡ true = subst (λ (x : Cell V). is_uniform eq f b x ≡ true) is one in
            let never : true ≡ false = sym all ∙ shows.shown in absurd cc
        | inr differs ↦ differs
      ]

      by : (one : Bool) → is_constant eq f b ≡ one → IsHead eq P background most (head_by one f)
      by true e = record { value = shows.values.values b.min; other = other e }
      by false e =
          (some_listed f shows.values shows.shown, let kept = few_kept (is_held eq (sub_block bits level b) f) (entry_numbers bits level) in let n = numbers_count bits level in omega (arith, kept, n))

  -- no head is ahead
  pub no_block_head : (fault : LoadFault) (old : Position) → Fails (IsHead eq P background most) (head_bytes eq value_bytes) fault old → Fails (ShowsIn eq P background b) body fault old
  no_block_head fault old h =
      fails_first (ShowsIn eq P background b) body (IsHead eq P background most) (head_bytes eq value_bytes) (λ f. head_by (is_constant eq f b) f) (λ f. tail_by (is_constant eq f b) f) fault old head_is (λ f p. split f) h

  -- a head of a node was read, and no such entries are ahead
  pub no_block_list : (n : ℕ) → (1 ≤ n) × (n ≤ most) → (fault : LoadFault) (old mid : Position) → Took old mid (head_bytes eq value_bytes (Node n)) → Fails (Mixed n) list fault mid → Fails (ShowsIn eq P background b) body fault old
  no_block_list n fits fault old mid took h =
      fails_after (ShowsIn eq P background b) body (head_bytes eq value_bytes (Node n)) (λ f. Node n ≡ head_by (is_constant eq f b) f) (λ f. head_bytes eq value_bytes (head_by (is_constant eq f b) f)) (λ f. tail_by (is_constant eq f b) f) fault old mid took
      (λ f p. says_head values background most most_fits (Node n) (head_by (is_constant eq f b) f) fits (head_is f p)) (λ f p. split f)
      (fails_turn (λ f. ShowsIn eq P background b f × (Node n ≡ head_by (is_constant eq f b) f)) (λ f. tail_by (is_constant eq f b) f) (Mixed n) list (λ f. f) fault mid
      (λ f p. let d = differs (is_constant eq f b) f p.1 in (record { values = p.0.values; counted = sym d.1 }, d.0))
      (λ f p. let d = differs (is_constant eq f b) f p.1 in ap (λ one. tail_by one f) d.0) h)
    where
      differs : (one : Bool) (f : Field V) → Node n ≡ head_by one f → (one ≡ false) × (n ≡ length (listed eq value_bytes bits f level b))
      differs true f e = absurd cc
      differs false f e = (refl, cc)

  -- a block of one cell was read
  pub one_read : (cell : Cell V) (f : Field V) (old new : Position) → is_constant eq f b ≡ true → f.cell b.min ≡ cell → Took old new (head_bytes eq value_bytes (One cell)) → Took old new (body f)
  one_read cell f old new one at took = rw one (subst (λ (x : Cell V). Took old new (cell_bytes eq value_bytes x)) (sym at) took)

  -- a block whose cells differ was read
  pub node_shows : (n : ℕ) (f : Field V) → Mixed n f → ShowsIn eq P background b f
  node_shows n f p = record {
    values = p.0.values;
    shown = elim (cases_Bool (is_background eq f b)) [ inl h ↦ let never : true ≡ false = sym (plain_constant f h) ∙ p.1 in absurd cc | inr h ↦ h ];
  }

  pub node_read : (n : ℕ) (f : Field V) (old mid new : Position) → Mixed n f → Took old mid (head_bytes eq value_bytes (Node n)) → Took mid new (list f) → Took old new (body f)
  node_read n f old mid new p head took =
      rw p.1 (took_both old mid new (3 ∷ to_be_bytes w16 (length (listed eq value_bytes bits f level b))) (list f) (subst (λ (m : ℕ). Took old mid (3 ∷ to_be_bytes w16 m)) (sym p.0.counted) head) took)

  -- no such entries are ahead, so none whose cells differ
  pub no_mixed_list : (n : ℕ) (fault : LoadFault) (old : Position) → Fails (ShowsInEach eq P background (sub_block bits level b) (entry_numbers bits level) n) list fault old → Fails (Mixed n) list fault old
  no_mixed_list n fault old h = fails_turn (Mixed n) list (ShowsInEach eq P background (sub_block bits level b) (entry_numbers bits level) n) list (λ f. f) fault old (λ f p. p.0) (λ f p. refl) h

  -- the entries were read, and all have one cell
  pub no_mixed : {Q : ℕ → Type 0} → IsRow P Q (node_row bits level b entry) → (n : ℕ) (g : Field V) (fault : LoadFault) (old new : Position) → ShowsInEach eq P background (sub_block bits level b) (entry_numbers bits level) n g → is_constant eq g b ≡ true
      → Took old new (list g) → Fails (Mixed n) list fault old
  no_mixed is n g fault old new shows one took =
      no_row values is background (λ m. []) (λ m. m ≡ n) (λ i j pi pj. says_map (λ _. pi ∙ sym pj) (says_fixed [] [] refl)) (Mixed n) (λ f p. p.0.values) (λ f p. p.0.counted) fault old new g shows.values
      shows.counted took
      (λ f p agree.
      let never : true ≡ false = sym one ∙ constant_same values g f b (corner_in_block bits level c) (agree_from_entries values bits few c level g f agree) ∙ p.1 in cc)
