-- Entries for the active upper extents of another tree: the union counted in upper extents, and walks over the other tree's keys.
use Rattle.vdb_tree.proofs.Common.{◌≡◌, ◌≢◌, ◌⊎◌, inl, inr, ℕ, ◌+◌, ◌-◌, ◌<◌, ◌≤◌, Bool, true, false, ◌||◌, List, ◌∷◌, length, refl, sym, ap, subst, ◌∙◌, arith, IsTrue, IsSome, Option, Some, None, IsDistinct, keys_of, is_member, length-keys_of, block, block_number, block_numbers, key, AreBits, coord_eq, everywhere, is_inside, Bits, Coord, Upper, less_apart, not_true, block_in_range, number_of_corner, coord_equiv, coord_exact, Cell, HasActive, IsInactive, HasCapacityForActive, IsActiveKey, IsSwept, Keeps, is_background, roots, Field, unite, Layout, background_cell, cell_at, field_of, root_at, MakesNoNode, IsSound, HasCapacity, IsNextKey, IsPast}
use Rattle.vdb_tree.specs.internal.ActiveCapacity.{LacksCapacityForActive}
use Rattle.vdb_tree.proofs.Blocks.{never, uniform_block, uniform_block_from}
use Rattle.std.specs.Prelude.{◌++◌}
use Rattle.std.proofs.lemmas.List.{length-append}
use Rattle.vdb_tree.proofs.Capacities.{capacity_from, entered_still, in_root, member_first, member_second}
use Rattle.vdb_tree.proofs.Fields.{cell_inside}
use Rattle.vdb_tree.proofs.KeysPast.{past_on}
use Rattle.vdb_tree.proofs.Levels.{bool_cases}
use Rattle.vdb_tree.proofs.MadeNodes.{active_entered, no_node_twice}
use Rattle.vdb_tree.proofs.Needed.{absent_block, is_some_from, some_or_none}
use Rattle.vdb_tree.proofs.RootCounts.{at_least, unheld}
use Rattle.vdb_tree.proofs.Rooted.{key_member, member_entry, one_more, or_cases, or_first, or_second, roots_at_least, roots_at_most}
use Rattle.vdb_tree.proofs.Splits.{keeps_itself, keeps_twice}

neither_first : (a b : Bool) → (a || b) ≡ false → a ≡ false
neither_first true b h = cc
neither_first false b h = refl

-- ---- how many upper extents the union needs

module _ {V X : Type 0} (eq : V → V → Bool) (exact : (x y : V) → eq x y ≡ true → x ≡ y) (itself : (x : V) → eq x x ≡ true) (bits : Bits) (configured : AreBits bits) (t : Layout V) (u : Layout X) where
  abbrev united : Field V
  united = unite (field_of bits t) (field_of bits u)

  united_cell : (q : Coord) → IsTrue (is_inside everywhere q) → united.cell q ≡ record { value = (cell_at bits t q).value; on = (cell_at bits t q).on || (cell_at bits u q).on }
  united_cell q range = rw range refl

  -- if the table has capacity, the union keeps to the limit
  pub unite_within : HasCapacityForActive bits u t → roots eq bits united ≤ t.limit
  unite_within capacity =
      let a = roots_at_most eq bits united capacity.keys each in
      let b = capacity.few in
      omega (arith, a, b)
    where
      still : (k : Coord) → is_member coord_eq capacity.keys k ≡ false → (q : Coord) → IsTrue (is_inside everywhere q) → block_number bits Upper q ≡ k → united.cell q ≡ background_cell t
      still k out q range at =
          let unlisted : is_member coord_eq capacity.keys (key bits q) ≡ false = subst (λ (n : Coord). is_member coord_eq capacity.keys n ≡ false) (sym at) out in
          let plain : cell_at bits t q ≡ background_cell t =
          elim (some_or_none (root_at t.root (key bits q))) [
            | inl x ↦ absurd (never unlisted (capacity.entered (key bits q) (is_some_from _ x.0 x.1)))
            | inr none ↦ absent_block bits t q none q refl
          ] in
          let idle : (cell_at bits u q).on ≡ false = not_true _ (λ on. never unlisted (capacity.met q on)) in
          united_cell q range ∙ rw (plain, idle) refl

      each : (k : Coord) → IsTrue (is_inside (block_numbers bits Upper) k) → is_background eq united (block bits Upper k) ≡ false → is_member coord_eq capacity.keys k ≡ true
      each k within h =
          elim (bool_cases (is_member coord_eq capacity.keys k)) [
            | inl m ↦ m
            | inr out ↦ absurd (never h (uniform_block_from eq exact itself bits Upper united k (background_cell t) (λ q at. still k out q (in_root bits configured k q within at) at)))
          ]

  -- an upper extent with an entry in a swept table still isn't all background in the union
  held_stays : IsSwept bits t → (k : Coord) → IsTrue (is_inside (block_numbers bits Upper) k) → IsSome (root_at t.root k) → is_background eq united (block bits Upper k) ≡ false
  held_stays swept k within held = not_true _ (λ flat.
      let corner = (block bits Upper k).min in
      let number : key bits corner ≡ k = number_of_corner bits Upper k in
      elim (some_or_none (root_at t.root (key bits corner))) [
        | inl entry ↦ swept corner entry.0 entry.1 (λ q same.
            let at : block_number bits Upper q ≡ k = same ∙ number in
            let now = sym (united_cell q (in_root bits configured k q within at)) ∙ uniform_block eq exact itself bits Upper united k (background_cell t) flat q at in
            let value : (cell_at bits t q).value ≡ t.background = ap (λ (c : Cell V). c.value) now in
            let off : (cell_at bits t q).on ≡ false = neither_first (cell_at bits t q).on (cell_at bits u q).on (ap (λ (c : Cell V). c.on) now) in
            λ i. record { value = value i; on = off i })
        | inr empty ↦ never (rw (← number, empty) refl) held
      ])

  -- an upper extent in which a voxel becomes active isn't all background
  active_stays : (k q : Coord) → IsTrue (is_inside (block_numbers bits Upper) k) → key bits q ≡ k → (cell_at bits u q).on ≡ true → is_background eq united (block bits Upper k) ≡ false
  active_stays k q within at on = not_true _ (λ flat.
      let now = sym (united_cell q (in_root bits configured k q within at)) ∙ uniform_block eq exact itself bits Upper united k (background_cell t) flat q at in
      never (ap (λ (c : Cell V). c.on) now) (or_second (cell_at bits t q).on (cell_at bits u q).on on))

  -- if a swept table has no capacity, the union exceeds the limit
  pub unite_exceeds : IsSound bits t → IsSound bits u → IsSwept bits t → LacksCapacityForActive bits u t → t.limit < roots eq bits united
  unite_exceeds sound other swept lacks =
      let a = roots_at_least eq bits united lacks.keys lacks.apart each in
      let b = lacks.many in
      omega (arith, a, b)
    where
      each : (k : Coord) → is_member coord_eq lacks.keys k ≡ true → IsTrue (is_inside (block_numbers bits Upper) k) × (is_background eq united (block bits Upper k) ≡ false)
      each k m =
          elim (lacks.each k m) [
            | inl held ↦ let within = sound.keys k held in (within, held_stays swept k within held)
            | inr q ↦
                let within = subst (λ (n : Coord). is_inside (block_numbers bits Upper) n ≡ true) q.1 (other.keys (key bits q.0) (active_entered bits u q.0 q.2)) in
                (within, active_stays k q.0 within q.1 q.2)
          ]

-- ---- the test of an upper extent of the other tree

module _ {X : Type 0} (bits : Bits) (configured : AreBits bits) (u : Layout X) (p : Coord) (here : IsTrue (is_inside everywhere p)) where
  state_of : (q : Coord) → block_number bits Upper q ≡ block_number bits Upper p → (cell_at bits u q).on ≡ ((field_of bits u).cell q).on
  state_of q same = sym (ap (λ (d : Cell X). d.on) (cell_inside u.background (cell_at bits u) q (block_in_range bits Upper configured p q here same)))

  pub active_key : HasActive bits (field_of bits u) Upper p → IsActiveKey bits u (key bits p)
  active_key q = (q.0, q.1, state_of q.0 q.1 ∙ q.2)

  pub idle_key : IsInactive bits (field_of bits u) Upper p → (q : Coord) → key bits q ≡ key bits p → (cell_at bits u q).on ≡ false
  idle_key none q same = state_of q same ∙ none q same

-- ---- walks over the keys of the other tree

module _ {X : Type 0} (bits : Bits) (u : Layout X) where
  -- what is active past a key is under the next key, or past that
  here_or_past : (passed : Option Coord) (k : Coord) → IsNextKey u.root passed (Some k) → (q : Coord) → (cell_at bits u q).on ≡ true → IsPast passed (key bits q) → (key bits q ≡ k) ⊎ IsPast (Some k) (key bits q)
  here_or_past passed k next q on past = at_least k (key bits q) (next.2 (key bits q) past (active_entered bits u q on))

  -- if no key is left past one, nothing is active past it
  none_past : (passed : Option Coord) → IsNextKey u.root passed None → (q : Coord) → (cell_at bits u q).on ≡ true → IsPast passed (key bits q) → ⊥
  none_past passed none q on past = unheld _ (active_entered bits u q on) (none (key bits q) past)

  module _ {V : Type 0} (t : Layout V) where
    -- ---- whether the table has capacity

    -- the keys of the table, those of the passed active upper extents of the other tree, and how many more the limit allows
    pub record CountsActive (passed : Option Coord) (capacity : ℕ) : Type 0 where
      pub keys : List Coord
      pub apart : IsDistinct coord_eq keys
      pub size : length keys + capacity ≡ t.limit
      pub entered : (k : Coord) → IsSome (root_at t.root k) → is_member coord_eq keys k ≡ true
      pub met : (q : Coord) → (cell_at bits u q).on ≡ true → IsPast passed (key bits q) ⊎ (is_member coord_eq keys (key bits q) ≡ true)
      pub each : (k : Coord) → is_member coord_eq keys k ≡ true → IsSome (root_at t.root k) ⊎ (IsActiveKey bits u k × (IsPast passed k → ⊥))

    -- a table with room for as many entries as the other table has has capacity for its active upper extents
    pub capacity_of_few : length u.root ≤ t.limit - length t.root → length t.root ≤ t.limit → HasCapacityForActive bits u t
    capacity_of_few few limit = record {
      keys = keys_of t.root ++ keys_of u.root;
      few = let a = length-keys_of t.root in let b = length-keys_of u.root in let c = length-append (keys_of t.root) (keys_of u.root) in omega (arith, a, b, c, few, limit);
      entered = λ k held. member_first (keys_of t.root) (keys_of u.root) k (key_member t k held);
      met = λ q on. member_second (keys_of t.root) (keys_of u.root) (key bits q) (key_member u (key bits q) (active_entered bits u q on));
    }

    pub counts_none : IsSound bits t → CountsActive None (t.limit - length t.root)
    counts_none sound = record {
      keys = keys_of t.root;
      apart = sound.apart;
      size = let a = length-keys_of t.root in let b = sound.limit in omega (arith, a, b);
      entered = key_member t;
      met = λ q on. inl tt;
      each = λ k m. inl (member_entry t k m);
    }

    module _ (passed : Option Coord) (capacity : ℕ) (so_far : CountsActive passed capacity) (k : Coord) (next : IsNextKey u.root passed (Some k)) where
      behind : (j : Coord) → (IsPast passed j → ⊥) → IsPast (Some k) j → ⊥
      behind j gone later = gone (past_on passed k j next.1 later)

      still : (j : Coord) → is_member coord_eq so_far.keys j ≡ true → IsSome (root_at t.root j) ⊎ (IsActiveKey bits u j × (IsPast (Some k) j → ⊥))
      still j m = elim (so_far.each j m) [ inl held ↦ inl held | inr h ↦ inr (h.0, behind j h.1) ]

      -- a step that adds no key
      counts_same : ((q : Coord) → key bits q ≡ k → (cell_at bits u q).on ≡ true → is_member coord_eq so_far.keys (key bits q) ≡ true) → CountsActive (Some k) capacity
      counts_same here = record {
        keys = so_far.keys;
        apart = so_far.apart;
        size = so_far.size;
        entered = so_far.entered;
        met = λ q on. elim (so_far.met q on) [
          | inr m ↦ inr m
          | inl past ↦ elim (here_or_past passed k next q on past) [ inl e ↦ inr (here q e on) | inr later ↦ inl later ]
        ];
        each = still;
      }

      -- a key with an entry is already counted
      pub counts_held : IsSome (root_at t.root k) → CountsActive (Some k) capacity
      counts_held held = counts_same (λ q e on. so_far.entered (key bits q) (subst (λ (n : Coord). IsSome (root_at t.root n)) (sym e) held))

      -- an upper extent without active voxels needs no key
      pub counts_idle : ((q : Coord) → key bits q ≡ k → (cell_at bits u q).on ≡ false) → CountsActive (Some k) capacity
      counts_idle idle = counts_same (λ q e on. absurd (never (idle q e) on))

      module _ (none : root_at t.root k ≡ None) (active : IsActiveKey bits u k) where
        more : IsDistinct coord_eq (k ∷ so_far.keys)
        more = one_more k so_far.keys so_far.apart (not_true _ (λ m. elim (so_far.each k m) [ inl held ↦ unheld _ held none | inr h ↦ h.1 next.1 ]))

        not_past : (j : Coord) → j ≡ k → IsPast (Some k) j → ⊥
        not_past j e later = less_apart k j later (sym e)

        -- another key takes one of the capacity
        pub counts_more : 0 < capacity → CountsActive (Some k) (capacity - 1)
        counts_more some = record {
          keys = k ∷ so_far.keys;
          apart = more;
          size = let e = so_far.size in omega (arith, e, some);
          entered = λ j held. or_second (coord_eq j k) _ (so_far.entered j held);
          met = λ q on. elim (so_far.met q on) [
            | inr m ↦ inr (or_second (coord_eq (key bits q) k) _ m)
            | inl past ↦ elim (here_or_past passed k next q on past) [
              | inl e ↦ inr (or_first (coord_eq (key bits q) k) _ (subst (λ (n : Coord). coord_eq (key bits q) n ≡ true) e (coord_equiv.refl (key bits q))))
              | inr later ↦ inl later
            ]
          ];
          each = λ j m. elim (or_cases (coord_eq j k) (is_member coord_eq so_far.keys j) m) [
            | inl s ↦ let e = coord_exact j k s in inr (subst (IsActiveKey bits u) (sym e) active, not_past j e)
            | inr s ↦ still j s
          ];
        }

        -- if no capacity is left, another key is one too many
        pub counts_full : capacity ≡ 0 → LacksCapacityForActive bits u t
        counts_full full = record {
          keys = k ∷ so_far.keys;
          apart = more;
          many = let e = so_far.size in omega (arith, e, full);
          each = λ j m. elim (or_cases (coord_eq j k) (is_member coord_eq so_far.keys j) m) [
            | inl s ↦ inr (subst (IsActiveKey bits u) (sym (coord_exact j k s)) active)
            | inr s ↦ elim (so_far.each j s) [ inl held ↦ inl held | inr h ↦ inr h.0 ]
          ];
        }

    -- past the last key all keys are counted
    pub counts_all : (passed : Option Coord) (capacity : ℕ) → CountsActive passed capacity → IsNextKey u.root passed None → HasCapacityForActive bits u t
    counts_all passed capacity done none = record {
      keys = done.keys;
      few = let e = done.size in omega (arith, e);
      entered = done.entered;
      met = λ q on. elim (done.met q on) [ inr m ↦ m | inl past ↦ absurd (none_past passed none q on past) ];
    }

    -- ---- adding entries to the table

    module _ (capacity : HasCapacityForActive bits u t) (k : Coord) (active : IsActiveKey bits u k) where
      listed : is_member coord_eq capacity.keys k ≡ true
      listed = subst (λ (n : Coord). is_member coord_eq capacity.keys n ≡ true) active.1 (capacity.met active.0 active.2)

      -- if an active upper extent has no entry, the table has capacity for one
      pub active_capacity : IsDistinct coord_eq (keys_of t.root) → HasCapacity t k
      active_capacity apart = capacity_from t capacity.keys capacity.entered k listed capacity.few apart

      -- once an upper extent has its entry, the table still has capacity for the others
      pub active_capacity_stays : (n : Layout V) → n.limit ≡ t.limit → ((j : Coord) → j ≢ k → root_at n.root j ≡ root_at t.root j) → HasCapacityForActive bits u n
      active_capacity_stays n same table = record {
        keys = capacity.keys;
        few = rw same capacity.few;
        entered = entered_still t capacity.keys capacity.entered k listed n table;
        met = capacity.met;
      }

  module _ {V : Type 0} where
    -- each active upper extent of the other tree up to the last passed key has its entry
    pub record EntersActive (old new : Layout V) (passed : Option Coord) : Type 0 where
      pub keeps : Keeps bits old new
      pub nodes : MakesNoNode bits old new
      pub done : (q : Coord) → (cell_at bits u q).on ≡ true → IsPast passed (key bits q) ⊎ IsSome (root_at new.root (key bits q))

    pub enters_none : (t : Layout V) → EntersActive t t None
    enters_none t = record { keeps = keeps_itself bits t; nodes = λ level q child. child; done = λ q on. inl tt }

    module _ (old t : Layout V) (passed : Option Coord) (so_far : EntersActive old t passed) where
      pub enters_next : (n : Layout V) → Keeps bits t n → MakesNoNode bits t n → ((k : Coord) → IsSome (root_at t.root k) → IsSome (root_at n.root k))
          → (k : Coord) → (IsActiveKey bits u k → IsSome (root_at n.root k)) → IsNextKey u.root passed (Some k) → EntersActive old n (Some k)
      enters_next n keeps nodes keys k here next = record {
        keeps = keeps_twice bits old t n so_far.keeps keeps;
        nodes = no_node_twice bits old t n so_far.nodes nodes;
        done = λ q on. elim (so_far.done q on) [
          | inr held ↦ inr (keys (key bits q) held)
          | inl past ↦ elim (here_or_past passed k next q on past) [
            | inl e ↦ inr (subst (λ (j : Coord). IsSome (root_at n.root j)) (sym e) (here (q, e, on)))
            | inr later ↦ inl later
          ]
        ];
      }

      pub enters_all : IsNextKey u.root passed None → (q : Coord) → (cell_at bits u q).on ≡ true → IsSome (root_at t.root (key bits q))
      enters_all none q on = elim (so_far.done q on) [ inr held ↦ held | inl past ↦ absurd (none_past passed none q on past) ]
