-- Reads a row entry by entry into a field.
use Rattle.vdb_file.proofs.Common.{◌≡◌, ℕ, ◌+◌, ◌<◌, Bool, true, false, not, List, [], ◌∷◌, length, refl, sym, ap, subst, ◌∙◌, arith, inl, inr, length-append, Option, Some, None, Contains, flat_map, Less, cases_Bool, IsStrictlySortedBy-filter, Box, is_inside, Coord, is_background, Field, LoadFault, Follows, HasValues, IsNext, KeptOutside, ShowsIn, ShowsInEach, next_bytes, Fails, Position, Took}
use Rattle.vdb_file.proofs.Unambiguous.{says_fixed, says_map}
use Rattle.vdb_file.proofs.Agreement.{AreValues, is_held}
use Rattle.vdb_file.proofs.Fronts.{fails_turn, took_nothing}
use Rattle.vdb_file.proofs.Kept.{at_kept}
use Rattle.vdb_file.proofs.LoadedBlocks.{kept_all, kept_both, kept_wider}
use Rattle.vdb_file.proofs.Ordered.{by_member, last_more, last_of, none_kept, not_before}
use Rattle.vdb_file.proofs.RowReads.{IsNextOf, entry_bytes, entry_read, within}
use Rattle.vdb_file.proofs.Rows.{IsRow, Row, adds_outside, all_before, behind_key, held, held_more, texts, texts_more}

-- `done` entries of a row were read into a field that was another before
pub record IsUnderway {V K : Type 0} (eq : V → V → Bool) (P : V → Type 0) (row : Row V K) (background : V) (b : Box) (f : Field V) (old : Position) (done : ℕ) (before : Option K) (g : Field V) (now : Position) : Type 0 where
  pub values : HasValues P background g
  pub kept : KeptOutside b f g
  pub counted : length (held eq row g) ≡ done
  pub last : before ≡ last_of None (held eq row g)
  pub took : Took old now (texts eq row g)

module _ {V K : Type 0} {eq : V → V → Bool} {value_bytes : V → List ℕ} {P : V → Type 0} {Q : K → Type 0} {row : Row V K} (values : AreValues eq value_bytes P) (is : IsRow P Q row) (background : V) (b : Box) (f : Field V) (old : Position) where
  abbrev Underway : ℕ → Option K → Field V → Position → Type 0
  Underway = IsUnderway eq P row background b f old

  -- at first no entry is read
  pub none_underway : HasValues P background f → ((k : K) → Contains row.keys k → is_background eq f (row.box k) ≡ true) → Underway 0 None f old
  none_underway has clear =
      let none : held eq row f ≡ [] = none_kept (is_held eq row.box f) row.keys (by_member (λ k. is_held eq row.box f k ≡ false) row.keys (λ k m. ap not (clear k m))) in
      record {
        values = has;
        kept = kept_all b f;
        counted = ap length none;
        last = sym (ap (last_of None) none);
        took = subst (λ (ks : List K). Took old old (flat_map (behind_key row f) ks)) (sym none) (took_nothing old);
      }

  module _ (done : ℕ) (before : Option K) (g : Field V) (now : Position) (so_far : Underway done before g now) where
    follows_last : (k : K) → Follows row.cmp before k → Follows row.cmp (last_of None (held eq row g)) k
    follows_last k h = subst (λ (o : Option K). Follows row.cmp o k) so_far.last h

    -- the boxes past the last one hold nothing but the background
    pub next_clear : (k : K) → Contains row.keys k → Follows row.cmp before k → is_background eq g (row.box k) ≡ true
    next_clear k member follows = elim (cases_Bool (is_background eq g (row.box k))) [
      | inl all ↦ all
      | inr some ↦
          let sorted = IsStrictlySortedBy-filter row.cmp (is_held eq row.box g) row.keys is.sorted in
          absurd (not_before is.total k (at_kept (λ l. row.cmp l k ≡ Less) (is_held eq row.box g) row.keys (all_before is.total k (held eq row g) sorted (follows_last k follows)) k member (ap not some)))
    ]

    module _ (count : ℕ) (more : done < count) (fault : LoadFault) where
      abbrev All : Field V → Type 0
      All = ShowsInEach eq P background row.box row.keys count

      -- no entry is ahead
      pub none_next : Fails (IsNextOf eq P row background (last_of None (held eq row g))) (entry_bytes row) fault now → Fails All (texts eq row) fault old
      none_next h =
          within values is background (λ n. []) (λ n. n ≡ count) (λ m n pm pn. says_map (λ _. pm ∙ sym pn) (says_fixed [] [] refl)) All (λ a p. p.values) (λ a p. p.counted) fault old now g so_far.values
          count refl (let e = so_far.counted in omega (arith, e, more)) so_far.took h

      -- no key with a field for its box is ahead
      pub no_next : (N : K → Type 0) → ((k : K) → Contains row.keys k → Follows row.cmp before k → N k) → Fails (IsNext eq P background N row.box) (next_bytes row.code row.body row.box) fault now → Fails All (texts eq row) fault old
      no_next N has h =
          none_next (fails_turn (IsNextOf eq P row background (last_of None (held eq row g))) (entry_bytes row) (IsNext eq P background N row.box) (next_bytes row.code row.body row.box) (λ e. e) fault now
          (λ e p. record { key = has e.0 p.member (subst (λ (o : Option K). Follows row.cmp o e.0) (sym so_far.last) p.follows); shows = record { values = p.values; shown = p.held } }) (λ e p. refl) h)

    -- one more entry was read
    pub more_underway : (k : K) → Contains row.keys k → Follows row.cmp before k → ((p : Coord) → is_inside (row.box k) p ≡ true → is_inside b p ≡ true) → (next : Position) (h : Field V) → Took now next (next_bytes row.code row.body row.box (k, h))
        → ShowsIn eq P background (row.box k) h → KeptOutside (row.box k) g h → Underway (done + 1) (Some k) h next
    more_underway k member follows inside next h took shows kept =
        let adds = adds_outside is g h k member (sym kept.background) (λ p out. sym (kept.cells p out)) shows.shown in
        let list = held_more values is g h k member (follows_last k follows) adds in
        record {
          values = shows.values;
          kept = kept_both b f g h so_far.kept (kept_wider b (row.box k) g h inside kept);
          counted = let e = so_far.counted in let l = ap length list ∙ length-append (held eq row g) (k ∷ []) in omega (arith, e, l);
          last = sym (ap (last_of None) list ∙ last_more None (held eq row g) k);
          took = entry_read eq row (λ n. []) 0 g h k old now next (texts_more values is g h k member (follows_last k follows) adds) so_far.took took;
        }

    -- in the end all entries were read
    pub all_underway : (count : ℕ) → done ≡ count → ShowsInEach eq P background row.box row.keys count g × Took old now (texts eq row g)
    all_underway count e = (record { values = so_far.values; counted = so_far.counted ∙ e }, so_far.took)
