-- Reads the root blocks of a field one after another.
use Rattle.vdb_file.proofs.Common.{◌≡◌, ℕ, ◌+◌, ◌<◌, ◌≤◌, ◌^◌, Bool, true, false, List, [], ◌∷◌, ◌++◌, length, length-append, refl, sym, ap, subst, ◌∙◌, arith, inl, inr, if◌then◌else◌, Option, Some, None, Result, Ok, Err, Contains, flat_map, w32, to_be_bytes, cases_Bool, block, block_around, block_numbers, AreBits, Box, coord_cmp, coordinates, everywhere, is_inside, Bits, Coord, Upper, number_of_corner, numbered_in_range, number_in_block, Cell, is_background, root_keys, roots, Field, field, new, off, uniform_from, key_bytes, root_body, LoadFault, IsKey, AreLoadable, HasCapacityAt, IsNext, IsLoadable, IsWithin, KeptOutside, ShowsIn, ShowsInEach, next_bytes, Fails, Position, Reads, Took, Follows}
use Rattle.vdb_file.specs.Bodies.{roots_bytes}
use Rattle.vdb_file.proofs.Ordered.{last_of}
use Rattle.vdb_file.proofs.Numbers.{says_u32}
use Rattle.vdb_file.proofs.Agreement.{Agree, AreValues, both_uniform}
use Rattle.vdb_file.proofs.Fronts.{fails_after, fails_first, fails_none, fails_turn, took_both}
use Rattle.vdb_file.proofs.RowInstances.{inside_member, is_root_row, member_inside, root_row}
use Rattle.vdb_file.proofs.RowLoops.{IsUnderway, more_underway, next_clear, no_next, none_underway}
use Rattle.vdb_file.proofs.Rows.{adds_outside, held, held_more, held_same}

-- ---- the root blocks after their count

-- the bytes of the root blocks without the count
abbrev pub keyed_bytes : {V : Type 0} → (V → V → Bool) → (V → List ℕ) → Bits → Field V → List ℕ
keyed_bytes eq value_bytes bits f = flat_map (λ k. key_bytes k ++ root_body eq value_bytes bits f (block bits Upper k)) (root_keys eq bits f)

pub count_first : {V : Type 0} (eq : V → V → Bool) (value_bytes : V → List ℕ) (bits : Bits) (f : Field V) → roots_bytes eq value_bytes bits f ≡ to_be_bytes w32 (roots eq bits f) ++ keyed_bytes eq value_bytes bits f
unfolding roots_bytes
count_first eq value_bytes bits f = refl

module _ {V : Type 0} (eq : V → V → Bool) (value_bytes : V → List ℕ) (P : V → Type 0) (background : V) (bits : Bits) (limit : ℕ) (small : limit < 2 ^ 32) where
  abbrev Within : Field V → Type 0
  Within = IsWithin eq P background bits limit

  abbrev bytes : Field V → List ℕ
  bytes = roots_bytes eq value_bytes bits

  abbrev keyed : Field V → List ℕ
  keyed = keyed_bytes eq value_bytes bits

  few : (f : Field V) → Within f → roots eq bits f < 2 ^ 32
  few f p = let h = p.few in omega (arith, h, small)

  -- no count is ahead
  pub no_root_count : (fault : LoadFault) (old : Position) → Fails (λ n. n < 2 ^ 32) (to_be_bytes w32) fault old → Fails Within bytes fault old
  no_root_count fault old h = fails_first Within bytes (λ n. n < 2 ^ 32) (to_be_bytes w32) (roots eq bits) keyed fault old few (λ f p. count_first eq value_bytes bits f) h

  module _ (count : ℕ) (fits : count < 2 ^ 32) (old mid : Position) (took : Took old mid (to_be_bytes w32 count)) where
    after_roots : (fault : LoadFault) → Fails (λ f. Within f × (count ≡ roots eq bits f)) keyed fault mid → Fails Within bytes fault old
    after_roots fault h =
        fails_after Within bytes (to_be_bytes w32 count) (λ f. count ≡ roots eq bits f) (λ f. to_be_bytes w32 (roots eq bits f)) keyed fault old mid took
        (λ f p. says_u32 count (roots eq bits f) fits (few f p)) (λ f p. count_first eq value_bytes bits f) h

    -- the count was above the limit
    pub too_many_roots : limit < count → (fault : LoadFault) → Fails Within bytes fault old
    too_many_roots over fault = after_roots fault (fails_none (λ f. Within f × (count ≡ roots eq bits f)) keyed fault mid (λ f p. let e = p.1 in let h = p.0.few in omega (arith, e, h, over)))

    -- the count was within the limit, and that many root blocks are read
    pub roots_result : count ≤ limit → (cells : Coord → Cell V) (b : V) (result : Result (Unit {0}) LoadFault) (end : Position)
        → Reads (λ _. field b cells) (ShowsInEach eq P background (block bits Upper) (coordinates (block_numbers bits Upper)) count) keyed result mid end → Reads (λ _. field b cells) Within bytes result old end
    roots_result most cells b (Ok x) end h =
        let g : Field V = field b cells in
        let n : roots eq bits g ≡ count = h.0.counted in (
          record {
            loaded = record {
              values = h.0.values;
              outside = λ p out. (let e : g.cell p ≡ off b = rw out refl in e) ∙ ap off h.0.values.same;
            };
            few = omega (arith, n, most);
          },
          subst (Took old end) (ap (λ (m : ℕ). to_be_bytes w32 m ++ keyed g) (sym n) ∙ sym (count_first eq value_bytes bits g)) (took_both old mid end (to_be_bytes w32 count) (keyed g) took h.1),
        )
    roots_result most cells b (Err fault) end h =
        after_roots fault
        (fails_turn (λ f. Within f × (count ≡ roots eq bits f)) keyed (ShowsInEach eq P background (block bits Upper) (coordinates (block_numbers bits Upper)) count) keyed (λ f. f) fault mid
        (λ f p. record { values = p.0.loaded.values; counted = sym p.1 }) (λ f p. refl) h)

-- ---- one after another

module _ {V : Type 0} {eq : V → V → Bool} {value_bytes : V → List ℕ} {P : V → Type 0} (values : AreValues eq value_bytes P) (bits : Bits) (configured : AreBits bits) (background : V) (f : Field V) (old : Position) where
  -- this many root blocks were read
  abbrev Under : ℕ → Option Coord → Field V → Position → Type 0
  Under = IsUnderway eq P (root_row eq value_bytes bits) background everywhere f old

  abbrev list : Field V → List ℕ
  list = keyed_bytes eq value_bytes bits

  abbrev Each : ℕ → Field V → Type 0
  Each = ShowsInEach eq P background (block bits Upper) (coordinates (block_numbers bits Upper))

  -- at first no root block is read, in a new field
  pub no_roots : f ≡ new background → P background → Under 0 None f old
  no_roots e v =
      let empty : (p : Coord) → (new background).cell p ≡ off background = λ p. either (is_inside everywhere p) in
      let cells : (p : Coord) → f.cell p ≡ off background = λ p. ap (λ (g : Field V). g.cell p) e ∙ empty p in
      let same : f.background ≡ background = ap (λ (g : Field V). g.background) e in
      none_underway values (is_root_row values bits configured) background everywhere f old (record { same = same; values = λ p. subst (λ (c : Cell V). P c.value) (sym (cells p)) v })
      (λ k member. uniform_from eq values.exact values.itself f (block bits Upper k) (off f.background) (λ p inside. cells p ∙ ap off (sym same)))
    where
      either : (b : Bool) → (if b then off background else off background) ≡ off background
      either true = refl
      either false = refl

  module _ (done : ℕ) (before : Option Coord) (g : Field V) (now : Position) (so_far : Under done before g now) (count : ℕ) (more : done < count) where
    abbrev N : Coord → Type 0
    N = IsKey bits before

    abbrev box : Coord → Box
    box = block bits Upper

    -- a key that comes next
    module _ (k : Coord) (key : N k) where
      member : Contains (coordinates (block_numbers bits Upper)) k
      member = inside_member bits k key.inside

      clear_here : is_background eq g (box k) ≡ true
      clear_here = next_clear values (is_root_row values bits configured) background everywhere f old done before g now so_far k member key.later

      follows_last : Follows coord_cmp (last_of None (held eq (root_row eq value_bytes bits) g)) k
      follows_last = subst (λ (o : Option Coord). Follows coord_cmp o k) so_far.last key.later

      -- whatever its block holds, the field has at most this many root blocks
      one_more : (h : Field V) → KeptOutside (block bits Upper k) g h → roots eq bits h ≤ count
      one_more h kept =
          let is = is_root_row values bits configured in
          let row = root_row eq value_bytes bits in
          let n : length (held eq row g) ≡ done = so_far.counted in
          elim (cases_Bool (is_background eq h (block bits Upper k))) [
            | inl plain ↦
                let here : Agree g h (block bits Upper k) = both_uniform values g h (block bits Upper k) (off g.background) (off h.background) (ap off (sym kept.background)) clear_here plain in
                let same : held eq row g ≡ held eq row h = held_same values is g h (sym kept.background) (λ l m. agree_at l m h kept here) in
                let len : length (held eq row h) ≡ done = ap length (sym same) ∙ n in
                let out : roots eq bits h ≤ count = omega (arith, len, more) in out
            | inr shows ↦
                let adds = adds_outside is g h k member (sym kept.background) (λ p o. sym (kept.cells p o)) shows in
                let len : length (held eq row h) ≡ done + 1 = ap length (held_more values is g h k member follows_last adds) ∙ length-append (held eq row g) (k ∷ []) ∙ ap (λ (m : ℕ). m + 1) n in
                let out : roots eq bits h ≤ count = omega (arith, len, more) in out
          ]
        where
          agree_at : (l : Coord) → Contains (coordinates (block_numbers bits Upper)) l → (h : Field V) → KeptOutside (block bits Upper k) g h → Agree g h (block bits Upper k) → Agree g h (block bits Upper l)
          agree_at l m h kept here = record {
            same = λ p inside. elim (cases_Bool (is_inside (block bits Upper k) p)) [
              | inl within ↦ here.same p within
              | inr out ↦ sym (kept.cells p out)
            ];
          }

      own : block_around bits Upper (box k).min ≡ box k
      own = ap (block bits Upper) (number_of_corner bits Upper k)

      -- the block of that key is loadable
      root_loadable : (limit : ℕ) → count ≤ limit → IsLoadable eq P bits limit Upper (box k).min g
      root_loadable limit most = record {
        configured = configured;
        values = record { same = refl; values = so_far.values.values };
        clear = subst (λ (c : Box). is_background eq g c ≡ true) (sym own) clear_here;
        capacity = subst (λ (c : Box). HasCapacityAt eq bits limit c g) (sym own) (record { few = λ h kept. let n = one_more h kept in omega (arith, n, most) });
      }

    -- the block of each key that may come next is loadable
    pub roots_loadable : (limit : ℕ) → count ≤ limit → AreLoadable eq P bits limit Upper N box g
    roots_loadable limit most = record { configured = configured; each = λ k key. root_loadable k key limit most }

    -- no root block is ahead
    pub no_next_root : (fault : LoadFault) → Fails (IsNext eq P g.background N box) (next_bytes key_bytes (root_body eq value_bytes bits) box) fault now → Fails (Each count) list fault old
    no_next_root fault h =
        no_next values (is_root_row values bits configured) background everywhere f old done before g now so_far count more fault N (λ k member follows. record { inside = member_inside bits k member; later = follows })
        (subst (λ (v : V). Fails (IsNext eq P v N box) (next_bytes key_bytes (root_body eq value_bytes bits) box) fault now) so_far.values.same h)

    -- one more root block was read
    pub more_roots : (k : Coord) (next : Position) (h : Field V) → IsNext eq P g.background N box (k, h) → Took now next (next_bytes key_bytes (root_body eq value_bytes bits) box (k, h)) → KeptOutside (box k) g h → Under (done + 1) (Some k) h next
    more_roots k next h is_next took kept =
        more_underway values (is_root_row values bits configured) background everywhere f old done before g now so_far k (inside_member bits k is_next.key.inside) is_next.key.later
        (λ p inside. numbered_in_range bits Upper configured p (subst (λ (n : Coord). is_inside (block_numbers bits Upper) n ≡ true) (sym (number_in_block bits Upper k p inside)) is_next.key.inside))
        next h took
        (subst (λ (v : V). ShowsIn eq P v (box k) h) so_far.values.same is_next.shows) kept
