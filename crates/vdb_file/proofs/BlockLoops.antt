-- Reads the entries of a block one after another.
use Rattle.vdb_file.proofs.Common.{◌≡◌, ℕ, ◌+◌, ◌<◌, Bool, true, List, refl, sym, subst, Option, Some, None, w16, to_be_bytes, block_around, entries, entry_numbers, sub_block, AreBits, Box, is_inside, Bits, Coord, Level, Upper, corner_inside, is_background, Field, off, uniform_cells, uniform_from, listed, LoadFault, HasValues, IsIndex, AreLoadable, HasCapacityAt, IsNext, IsLoadable, KeptOutside, ShowsIn, ShowsInEach, entry_box, next_bytes, Fails, Position, Took, numbered}
use Rattle.vdb_file.proofs.Agreement.{AreValues}
use Rattle.vdb_file.proofs.LoadedBlocks.{entry_in_block, in_upper, kept_wider, capacity_kept, same_upper}
use Rattle.vdb_file.proofs.RowFrames.{below_member, member_below}
use Rattle.vdb_file.proofs.RowInstances.{node_row}
use Rattle.vdb_file.proofs.RowLoops.{IsUnderway, more_underway, next_clear, no_next, none_underway}
use Rattle.vdb_file.proofs.Rows.{IsRow}

module _ {V : Type 0} {eq : V → V → Bool} {value_bytes : V → List ℕ} {P : V → Type 0} {Q : ℕ → Type 0} (values : AreValues eq value_bytes P) (bits : Bits) (level : Level) (p : Coord) (entry : Field V → Box → List ℕ) (background : V)
    (is : IsRow P Q (node_row bits level (block_around bits level p) entry)) (f : Field V) (old : Position) where
  abbrev b : Box
  b = block_around bits level p

  -- `done` entries were read
  abbrev Under : ℕ → Option ℕ → Field V → Position → Type 0
  Under = IsUnderway eq P (node_row bits level b entry) background b f old

  abbrev list : Field V → List ℕ
  list g = numbered (λ i. entry g (sub_block bits level b i)) (listed eq value_bytes bits g level b)

  abbrev Each : ℕ → Field V → Type 0
  Each = ShowsInEach eq P background (sub_block bits level b) (entry_numbers bits level)

  -- at first no entry is read, if the block holds nothing but the background
  pub no_entries : HasValues P background f → is_background eq f b ≡ true → Under 0 None f old
  no_entries has clear =
      none_underway values is background b f old has
      (λ i member. uniform_from eq values.exact values.itself f (sub_block bits level b i) (off f.background)
      (λ q inside. uniform_cells eq values.exact values.itself f b (off f.background) clear q (entry_in_block bits level p i (member_below bits level i member) q inside)))

  module _ (done : ℕ) (before : Option ℕ) (g : Field V) (now : Position) (so_far : Under done before g now) where
    abbrev N : ℕ → Type 0
    N = IsIndex (entries bits level) before

    abbrev box : ℕ → Box
    box = entry_box bits level p

    -- the tree's own background is the file's
    entry_values : HasValues P g.background g
    entry_values = record { same = refl; values = so_far.values.values }

    -- each entry that may come next is loadable, as a block of the level below
    pub entries_loadable : (few : AreBits bits) (below : Level) → ((i : ℕ) → i < entries bits level → block_around bits below (box i).min ≡ box i) → (limit : ℕ) → HasCapacityAt eq bits limit (block_around bits Upper p) f → AreLoadable eq P bits limit below N box g
    entries_loadable few below own limit capacity = record { configured = few; each = loadable }
      where
        loadable : (i : ℕ) → N i → IsLoadable eq P bits limit below (box i).min g
        loadable i index = record {
          configured = few;
          values = entry_values;
          clear = subst (λ (c : Box). is_background eq g c ≡ true) (sym (own i index.within)) (next_clear values is background b f old done before g now so_far i (below_member bits level i index.within) index.later);
          capacity =
              let inside : is_inside b (box i).min ≡ true = entry_in_block bits level p i index.within (box i).min (corner_inside bits level b i) in
              subst (λ (c : Box). HasCapacityAt eq bits limit c g) (sym (same_upper bits level p (box i).min inside))
              (capacity_kept eq bits limit (block_around bits Upper p) f g (kept_wider (block_around bits Upper p) b f g (in_upper bits level p) so_far.kept) capacity);
        }

    -- no entry is ahead
    pub no_next_entry : (count : ℕ) → done < count → (fault : LoadFault) → Fails (IsNext eq P g.background N box) (next_bytes (to_be_bytes w16) entry box) fault now → Fails (Each count) list fault old
    no_next_entry count more fault h =
        no_next values is background b f old done before g now so_far count more fault N (λ i member follows. record { within = member_below bits level i member; later = follows })
        (subst (λ (v : V). Fails (IsNext eq P v N box) (next_bytes (to_be_bytes w16) entry box) fault now) so_far.values.same h)

    -- one more entry was read
    pub more_entries : (i : ℕ) (next : Position) (h : Field V) → IsNext eq P g.background N box (i, h) → Took now next (next_bytes (to_be_bytes w16) entry box (i, h)) → KeptOutside (box i) g h → Under (done + 1) (Some i) h next
    more_entries i next h is_next took kept =
        more_underway values is background b f old done before g now so_far i (below_member bits level i is_next.key.within) is_next.key.later (entry_in_block bits level p i is_next.key.within) next h took
        (subst (λ (v : V). ShowsIn eq P v (box i) h) so_far.values.same is_next.shows) kept
