-- Walks over the upper extents that meet a box: whether the table has capacity for them, and their entries.
use Rattle.vdb_tree.proofs.Common.{◌≡◌, ◌⊎◌, inl, inr, ℕ, ℤ, ◌+◌, ◌-◌, ◌<◌, ◌<ℤ◌, true, false, List, ◌∷◌, length, refl, sym, subst, ◌∙◌, arith, IsTrue, Option, Some, None, IsSome, is_none, IsDistinct, keys_of, is_member, ints, length-keys_of, block_number, key, Box, coord_eq, is_box, is_inside, IsBefore, IsBlockBefore, IsNextBlock, Bits, Coord, Upper, not_true, coord_equiv, coord_exact, min_inside, none_before, AddsNodes, Keeps, SameDescent, Layout, root_at, MakesKeysIn, HasCapacityFor, LacksCapacityFor, IsSound}
use Rattle.vdb_tree.proofs.Rooted.{key_member, member_entry, one_more, or_cases, or_first, or_second}
use Rattle.vdb_tree.proofs.RootCounts.{unheld}
use Rattle.vdb_tree.proofs.MadeNodes.{keys_in_twice}
use Rattle.vdb_tree.proofs.Passes.{descent_trans}
use Rattle.vdb_tree.proofs.Splits.{adds_itself, adds_twice, keeps_itself, keeps_twice}

-- ---- the order of a walk

below_itself : (x : ℤ) → x <ℤ x → ⊥
below_itself x h = omega (arith, ints, h)

never_before : (m n : Coord) → m ≡ n → IsBefore m n → ⊥
never_before m n same before = itself n (subst (λ (k : Coord). IsBefore k n) same before)
  where
    itself : (n : Coord) → IsBefore n n → ⊥
    itself n h = elim h [ inl x ↦ below_itself n.x x | inr r ↦ elim r.1 [ inl y ↦ below_itself n.y y | inr s ↦ below_itself n.z s.1 ] ]

before_twice : (l m n : Coord) → IsBefore l m → IsBefore m n → IsBefore l n
before_twice l m n a b =
    elim a [
      | inl x ↦ elim b [
        | inl y ↦ inl (omega (arith, ints, x, y))
        | inr r ↦ inl (let e = r.0 in omega (arith, ints, x, e))
      ]
      | inr s ↦ elim b [
        | inl y ↦ inl (let e = s.0 in omega (arith, ints, y, e))
        | inr r ↦ inr (
          s.0 ∙ r.0,
          elim s.1 [
            | inl x ↦ elim r.1 [
              | inl y ↦ inl (omega (arith, ints, x, y))
              | inr z ↦ inl (let e = z.0 in omega (arith, ints, x, e))
            ]
            | inr w ↦ elim r.1 [
              | inl y ↦ inl (let e = w.0 in omega (arith, ints, y, e))
              | inr z ↦ inr (w.0 ∙ z.0, let c = w.1 in let d = z.1 in omega (arith, ints, c, d))
            ]
          ],
        )
      ]
    ]

-- ---- present and absent entries

pub none_from : {A : Type 0} (o : Option A) → is_none o ≡ true → o ≡ None
none_from None h = refl
none_from (Some x) h = cc

pub some_from : {A : Type 0} (o : Option A) → is_none o ≡ false → IsSome o
some_from None h = cc
some_from (Some x) h = refl

module _ {V : Type 0} (bits : Bits) (box : Box) where
  -- ---- whether the table has capacity

  module _ (t : Layout V) where
    -- the keys of the table, those of the passed upper extents of the box, and how many more the limit allows
    pub record IsCounted (IsPassed : Coord → Type 0) (capacity : ℕ) : Type 0 where
      pub keys : List Coord
      pub apart : IsDistinct coord_eq keys
      pub size : length keys + capacity ≡ t.limit
      pub entered : (k : Coord) → IsSome (root_at t.root k) → is_member coord_eq keys k ≡ true
      pub met : (q : Coord) → IsTrue (is_inside box q) → IsPassed q → is_member coord_eq keys (key bits q) ≡ true
      pub each : (k : Coord) → is_member coord_eq keys k ≡ true → IsSome (root_at t.root k) ⊎ ((q : Coord) × IsTrue (is_inside box q) × (key bits q ≡ k) × IsPassed q)

    -- all upper extents before a block are counted
    abbrev pub CountsTo : Coord → ℕ → Type 0
    CountsTo p capacity = IsCounted (λ q. IsBlockBefore bits Upper q p) capacity

    -- all upper extents before a block are counted, and the block too
    abbrev pub CountsWith : Coord → ℕ → Type 0
    CountsWith p capacity = IsCounted (λ q. IsBlockBefore bits Upper q p ⊎ (block_number bits Upper q ≡ block_number bits Upper p)) capacity

    pub counts_none : is_box box ≡ true → IsSound bits t → CountsTo box.min (t.limit - length t.root)
    counts_none is sound = record {
      keys = keys_of t.root;
      apart = sound.apart;
      size = let a = length-keys_of t.root in let b = sound.limit in omega (arith, a, b);
      entered = key_member t;
      met = λ q inside before. absurd (none_before bits Upper box q inside before);
      each = λ k m. inl (member_entry t k m);
    }

    module _ (p : Coord) (capacity : ℕ) (so_far : CountsTo p capacity) where
      -- an upper extent with an entry is already counted
      pub counts_held : IsSome (root_at t.root (key bits p)) → CountsWith p capacity
      counts_held held = record {
        keys = so_far.keys;
        apart = so_far.apart;
        size = so_far.size;
        entered = so_far.entered;
        met = λ q inside h. elim h [
          | inl before ↦ so_far.met q inside before
          | inr same ↦ so_far.entered (key bits q) (subst (λ (n : Coord). IsSome (root_at t.root n)) (sym same) held)
        ];
        each = λ k m. elim (so_far.each k m) [ inl some ↦ inl some | inr q ↦ inr (q.0, q.1, q.2, inl q.3) ];
      }

      module _ (inside : IsTrue (is_inside box p)) (none : root_at t.root (key bits p) ≡ None) where
        fresh : is_member coord_eq so_far.keys (key bits p) ≡ false
        fresh = not_true _ (λ m. elim (so_far.each (key bits p) m) [
          | inl held ↦ unheld _ held none
          | inr q ↦ never_before (block_number bits Upper q.0) (block_number bits Upper p) q.2 q.3
        ])

        more : IsDistinct coord_eq (key bits p ∷ so_far.keys)
        more = one_more (key bits p) so_far.keys so_far.apart fresh

        -- another key takes one of the capacity
        pub counts_more : 0 < capacity → CountsWith p (capacity - 1)
        counts_more some = record {
          keys = key bits p ∷ so_far.keys;
          apart = more;
          size = let e = so_far.size in omega (arith, e, some);
          entered = λ k held. or_second (coord_eq k (key bits p)) _ (so_far.entered k held);
          met = λ q in_box h. elim h [
            | inl before ↦ or_second (coord_eq (key bits q) (key bits p)) _ (so_far.met q in_box before)
            | inr same ↦ or_first (coord_eq (key bits q) (key bits p)) _ (subst (λ (n : Coord). coord_eq (key bits q) n ≡ true) same (coord_equiv.refl (key bits q)))
          ];
          each = λ k m. elim (or_cases (coord_eq k (key bits p)) (is_member coord_eq so_far.keys k) m) [
            | inl s ↦ inr (p, inside, sym (coord_exact k (key bits p) s), inr refl)
            | inr s ↦ elim (so_far.each k s) [ inl held ↦ inl held | inr q ↦ inr (q.0, q.1, q.2, inl q.3) ]
          ];
        }

        -- if no capacity is left, another key is one too many
        pub counts_full : capacity ≡ 0 → LacksCapacityFor bits t box
        counts_full full = record {
          keys = key bits p ∷ so_far.keys;
          apart = more;
          many = let e = so_far.size in omega (arith, e, full);
          each = λ k m. elim (or_cases (coord_eq k (key bits p)) (is_member coord_eq so_far.keys k) m) [
            | inl s ↦ inr (p, inside, sym (coord_exact k (key bits p) s))
            | inr s ↦ elim (so_far.each k s) [ inl held ↦ inl held | inr q ↦ inr (q.0, q.1, q.2) ]
          ];
        }

    module _ (p : Coord) (capacity : ℕ) (with : CountsWith p capacity) where
      pub counts_next : (next : Coord) → IsNextBlock bits Upper box p (Some next) → CountsTo next capacity
      counts_next next h = record {
        keys = with.keys;
        apart = with.apart;
        size = with.size;
        entered = with.entered;
        met = λ q inside before. with.met q inside (h.2 q inside before);
        each = λ k m. elim (with.each k m) [ inl held ↦ inl held | inr q ↦ inr (q.0, q.1, q.2, earlier q.0 q.3) ];
      }
        where
          earlier : (q : Coord) → IsBlockBefore bits Upper q p ⊎ (block_number bits Upper q ≡ block_number bits Upper p) → IsBlockBefore bits Upper q next
          earlier q (inl before) = before_twice (block_number bits Upper q) (block_number bits Upper p) (block_number bits Upper next) before h.1
          earlier q (inr same) = subst (λ (n : Coord). IsBefore n (block_number bits Upper next)) (sym same) h.1

      pub counts_all : IsNextBlock bits Upper box p None → HasCapacityFor bits t box
      counts_all h = record {
        keys = with.keys;
        few = let e = with.size in omega (arith, e);
        entered = with.entered;
        met = λ q inside. with.met q inside (h q inside);
      }

  -- ---- entries

  -- each upper extent of the box before this one has its entry
  pub record EntersTo (old new : Layout V) (p : Coord) : Type 0 where
    pub keeps : Keeps bits old new
    pub adds : AddsNodes bits old new
    pub same : (q : Coord) → SameDescent bits old new q
    pub keys : MakesKeysIn bits box old new
    pub inside : IsTrue (is_inside box p)
    pub done : (q : Coord) → IsTrue (is_inside box q) → IsBlockBefore bits Upper q p → IsSome (root_at new.root (key bits q))

  pub enters_none : (t : Layout V) → is_box box ≡ true → EntersTo t t box.min
  enters_none t is = record { keeps = keeps_itself bits t; adds = adds_itself bits t; same = λ q level. refl; keys = λ k held. inl held; inside = min_inside box is; done = λ q inside before. absurd (none_before bits Upper box q inside before) }

  module _ (old t n : Layout V) (p : Coord) (so_far : EntersTo old t p) (keeps : Keeps bits t n) (adds : AddsNodes bits t n) (same : (q : Coord) → SameDescent bits t n q) (keys : MakesKeysIn bits box t n) (here : IsSome (root_at n.root (key bits p))) where
    up_to : (q : Coord) → IsTrue (is_inside box q) → IsBlockBefore bits Upper q p ⊎ (block_number bits Upper q ≡ block_number bits Upper p) → IsSome (root_at n.root (key bits q))
    up_to q inside h = elim h [
      | inl before ↦ adds.keys (key bits q) (so_far.done q inside before)
      | inr same ↦ subst (λ (k : Coord). IsSome (root_at n.root k)) (sym same) here
    ]

    pub enters_next : (next : Coord) → IsNextBlock bits Upper box p (Some next) → EntersTo old n next
    enters_next next h = record { keeps = keeps_twice bits old t n so_far.keeps keeps; adds = adds_twice bits old t n so_far.adds adds; same = λ q. descent_trans bits old t n q (so_far.same q) (same q); keys = keys_in_twice bits box old t n so_far.keys keys; inside = h.0; done = λ q inside before. up_to q inside (h.2 q inside before) }

    pub enters_all : IsNextBlock bits Upper box p None → (q : Coord) → IsTrue (is_inside box q) → IsSome (root_at n.root (key bits q))
    enters_all h q inside = up_to q inside (h q inside)
