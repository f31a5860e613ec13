-- A step behind a face leads into the same leaf extent or into the one behind that face.
use Rattle.vdb_morph.proofs.Common.{◌≡◌, ◌∙◌, sym, refl, ap, ℕ, ℤ, pos, ◌-◌, ◌<◌, ◌^◌, ◌+ℤ◌, ◌-ℤ◌, ◌*ℤ◌, inl, inr, ◌⊎◌, arith, false, Option, Some, None, IfSome, IsNone, eqb_tells, ints, block_around, block_number, block_numbers, vdb, AreBits, neighbour, toward, coord, everywhere, is_inside, Bits, Coord, Leaf, Face, MinusX, PlusX, MinusY, PlusY, MinusZ, PlusZ, parts, quotient, quotient_of, rest, rest_below, not_true, layer, opposite}
use Rattle.std.proofs.Math.IntN.{pred_ℤ-*ℤ, suc_ℤ-*ℤ, -ℤ_one, +ℤ_one, +ℤ_idr, +ℤ-neg_ℤ_cancel, -ℤ-+ℤ_cancel}
use Rattle.std.proofs.lemmas.Nat.{pow_pos}
use Rattle.vdb_coord.specs.Blocks.{block}
use Rattle.vdb_coord.specs.Components.{first_of, last_of, number_at}
use Rattle.vdb_coord.proofs.InRange.{numbered_in_range}
use Rattle.vdb_coord.proofs.Meeting.{number_of_first}
use Rattle.vdb_morph.proofs.Layers.{apart, no_neighbour, some_neighbour}

-- the bits that nodes of a standard tree have
pub vdb_bits : AreBits vdb
vdb_bits = ((omega arith, omega arith), (omega arith, omega arith), (omega arith, omega arith))

-- ---- there and back

-- the voxel behind the opposite face of the voxel behind a face
pub back : (face : Face) (p : Coord) → toward (opposite face) (toward face p) ≡ p
back MinusX p = ap (λ t. coord t p.y p.z) (-ℤ-+ℤ_cancel p.x (pos 1))
back PlusX p = ap (λ t. coord t p.y p.z) (+ℤ-neg_ℤ_cancel p.x (pos 1))
back MinusY p = ap (λ t. coord p.x t p.z) (-ℤ-+ℤ_cancel p.y (pos 1))
back PlusY p = ap (λ t. coord p.x t p.z) (+ℤ-neg_ℤ_cancel p.y (pos 1))
back MinusZ p = ap (λ t. coord p.x p.y t) (-ℤ-+ℤ_cancel p.z (pos 1))
back PlusZ p = ap (λ t. coord p.x p.y t) (+ℤ-neg_ℤ_cancel p.z (pos 1))

-- the opposite of the opposite
pub twice : (face : Face) → opposite (opposite face) ≡ face
twice MinusX = refl
twice PlusX = refl
twice MinusY = refl
twice PlusY = refl
twice MinusZ = refl
twice PlusZ = refl

-- and the two exchanged
pub forth : (face : Face) (p : Coord) → toward face (toward (opposite face) p) ≡ p
forth face p = ap (λ other. toward other (toward (opposite face) p)) (sym (twice face)) ∙ back (opposite face) p

less_apart : (x : ℤ) → x -ℤ pos 1 ≡ x → ⊥
less_apart x e = omega (arith, ints, e)

more_apart : (x : ℤ) → x +ℤ pos 1 ≡ x → ⊥
more_apart x e = omega (arith, ints, e)

-- the voxel behind a face is another voxel
pub toward_apart : (face : Face) (p : Coord) → toward face p ≡ p → ⊥
toward_apart MinusX p e = less_apart p.x (ap (λ (q : Coord). q.x) e)
toward_apart PlusX p e = more_apart p.x (ap (λ (q : Coord). q.x) e)
toward_apart MinusY p e = less_apart p.y (ap (λ (q : Coord). q.y) e)
toward_apart PlusY p e = more_apart p.y (ap (λ (q : Coord). q.y) e)
toward_apart MinusZ p e = less_apart p.z (ap (λ (q : Coord). q.z) e)
toward_apart PlusZ p e = more_apart p.z (ap (λ (q : Coord). q.z) e)

-- ---- from block to block

-- one less than a number that isn't the first of its block, and than the first
less_in : (u x : ℤ) (d : ℕ) → u +ℤ pos d ≡ x → 0 < d → u +ℤ pos (d - 1) ≡ x -ℤ pos 1
less_in u x d e h = omega (arith, ints, e, h)

less_out : (m : ℕ) (u v x : ℤ) (d : ℕ) → u +ℤ pos d ≡ x → d ≡ 0 → 0 < m → v ≡ u -ℤ pos m → v +ℤ pos (m - 1) ≡ x -ℤ pos 1
less_out m u v x d e first h k = omega (arith, ints, e, first, h, k)

block_before : (m : ℕ) (n : ℤ) → (n -ℤ pos 1) *ℤ pos m ≡ n *ℤ pos m -ℤ pos m
block_before m n = ap (λ t. t *ℤ pos m) (-ℤ_one n) ∙ pred_ℤ-*ℤ n (pos m)

-- the block of one less
number_less : (k : ℕ) (x : ℤ) → (number_at k (x -ℤ pos 1) ≡ number_at k x) ⊎ (number_at k (x -ℤ pos 1) ≡ number_at k x -ℤ pos 1)
number_less k x =
    let m = 2 ^ k in
    let some : 0 < m = pow_pos k in
    let n = quotient m x in
    let d = rest m x in
    let whole = parts m x some in
    let small = rest_below m x some in
    elim (eqb_tells d 0) [
      | inl e ↦ inr (ap (quotient m) (sym (less_out m (n *ℤ pos m) ((n -ℤ pos 1) *ℤ pos m) x d whole e.1 some (block_before m n))) ∙ quotient_of m (n -ℤ pos 1) (m - 1) (omega (arith, some)))
      | inr e ↦ inl (ap (quotient m) (sym (less_in (n *ℤ pos m) x d whole (omega (arith, e.1)))) ∙ quotient_of m n (d - 1) (omega (arith, small)))
    ]

one_up : (a b : ℤ) → a ≡ b -ℤ pos 1 → b ≡ a +ℤ pos 1
one_up a b e = omega (arith, ints, e)

-- the block of one more
number_more : (k : ℕ) (x : ℤ) → (number_at k (x +ℤ pos 1) ≡ number_at k x) ⊎ (number_at k (x +ℤ pos 1) ≡ number_at k x +ℤ pos 1)
number_more k x =
    let next = x +ℤ pos 1 in
    let here : number_at k x ≡ number_at k (next -ℤ pos 1) = ap (number_at k) (sym (+ℤ-neg_ℤ_cancel x (pos 1))) in
    elim (number_less k next) [
      | inl e ↦ inl (sym (here ∙ e))
      | inr e ↦ inr (one_up (number_at k x) (number_at k next) (here ∙ e))
    ]

-- the step leads to either of two blocks
either : {A B : Type 0} {x y z : A} (f : A → B) → (x ≡ y) ⊎ (x ≡ z) → (f x ≡ f y) ⊎ (f x ≡ f z)
either f (inl e) = inl (ap f e)
either f (inr e) = inr (ap f e)

-- the leaf extent of the voxel behind a face of q is q's own, or the one behind this face of q's leaf extent
pub crosses : (bits : Bits) (face : Face) (q : Coord) → (block_number bits Leaf (toward face q) ≡ block_number bits Leaf q) ⊎ (block_number bits Leaf (toward face q) ≡ toward face (block_number bits Leaf q))
crosses bits MinusX q = either (λ t. coord t (number_at bits.leaf q.y) (number_at bits.leaf q.z)) (number_less bits.leaf q.x)
crosses bits PlusX q = either (λ t. coord t (number_at bits.leaf q.y) (number_at bits.leaf q.z)) (number_more bits.leaf q.x)
crosses bits MinusY q = either (λ t. coord (number_at bits.leaf q.x) t (number_at bits.leaf q.z)) (number_less bits.leaf q.y)
crosses bits PlusY q = either (λ t. coord (number_at bits.leaf q.x) t (number_at bits.leaf q.z)) (number_more bits.leaf q.y)
crosses bits MinusZ q = either (λ t. coord (number_at bits.leaf q.x) (number_at bits.leaf q.y) t) (number_less bits.leaf q.z)
crosses bits PlusZ q = either (λ t. coord (number_at bits.leaf q.x) (number_at bits.leaf q.y) t) (number_more bits.leaf q.z)

-- ---- the block behind a face

-- the block of the number before a block's first, and of that after its last
number_before : (k : ℕ) (n : ℤ) → number_at k (first_of k n -ℤ pos 1) ≡ n -ℤ pos 1
number_before k n =
    let some = pow_pos k in
    ap (number_at k) (sym (less_out (2 ^ k) (first_of k n) ((n -ℤ pos 1) *ℤ pos (2 ^ k)) (first_of k n) 0 (+ℤ_idr (first_of k n)) refl some (block_before (2 ^ k) n)))
    ∙ quotient_of (2 ^ k) (n -ℤ pos 1) (2 ^ k - 1) (omega (arith, some))

past_end : (m : ℕ) (u v : ℤ) → 0 < m → v ≡ u +ℤ pos m → u +ℤ pos (m - 1) +ℤ pos 1 ≡ v +ℤ pos 0
past_end m u v h k = omega (arith, ints, h, k)

block_after : (m : ℕ) (n : ℤ) → (n +ℤ pos 1) *ℤ pos m ≡ n *ℤ pos m +ℤ pos m
block_after m n = ap (λ t. t *ℤ pos m) (+ℤ_one n) ∙ suc_ℤ-*ℤ n (pos m)

number_after : (k : ℕ) (n : ℤ) → number_at k (last_of k n +ℤ pos 1) ≡ n +ℤ pos 1
number_after k n =
    let some = pow_pos k in
    ap (number_at k) (past_end (2 ^ k) (first_of k n) ((n +ℤ pos 1) *ℤ pos (2 ^ k)) some (block_after (2 ^ k) n)) ∙ quotient_of (2 ^ k) (n +ℤ pos 1) 0 some

module _ (bits : Bits) where
  -- a step behind the face from the least corner there leads to the block behind it
  step_out : (face : Face) (n : Coord) → block_number bits Leaf (toward face (layer face (block bits Leaf n)).min) ≡ toward face n
  step_out MinusX n =
      let x = number_before bits.leaf n.x in
      let y = number_of_first bits.leaf n.y in
      let z = number_of_first bits.leaf n.z in
      λ i. coord (x i) (y i) (z i)
  step_out PlusX n =
      let x = number_after bits.leaf n.x in
      let y = number_of_first bits.leaf n.y in
      let z = number_of_first bits.leaf n.z in
      λ i. coord (x i) (y i) (z i)
  step_out MinusY n =
      let x = number_of_first bits.leaf n.x in
      let y = number_before bits.leaf n.y in
      let z = number_of_first bits.leaf n.z in
      λ i. coord (x i) (y i) (z i)
  step_out PlusY n =
      let x = number_of_first bits.leaf n.x in
      let y = number_after bits.leaf n.y in
      let z = number_of_first bits.leaf n.z in
      λ i. coord (x i) (y i) (z i)
  step_out MinusZ n =
      let x = number_of_first bits.leaf n.x in
      let y = number_of_first bits.leaf n.y in
      let z = number_before bits.leaf n.z in
      λ i. coord (x i) (y i) (z i)
  step_out PlusZ n =
      let x = number_of_first bits.leaf n.x in
      let y = number_of_first bits.leaf n.y in
      let z = number_after bits.leaf n.z in
      λ i. coord (x i) (y i) (z i)

  module _ (face : Face) (p corner : Coord) (least : corner ≡ (layer face (block_around bits Leaf p)).min) where
    led : block_number bits Leaf (toward face corner) ≡ toward face (block_number bits Leaf p)
    led = ap (λ q. block_number bits Leaf (toward face q)) least ∙ step_out face (block_number bits Leaf p)

    -- the neighbour of that corner lies in the block
    pub block_there : (o : Option Coord) → o ≡ neighbour face corner → IfSome o (λ r. block_number bits Leaf r ≡ toward face (block_number bits Leaf p))
    block_there None e = tt
    block_there (Some r) e = ap (block_number bits Leaf) (some_neighbour (is_inside everywhere (toward face corner)) (toward face corner) r (sym e)) ∙ led

    -- and if it has no neighbour, there is no such block
    pub block_nowhere : AreBits bits → (o : Option Coord) → o ≡ neighbour face corner → IsNone o → is_inside (block_numbers bits Leaf) (toward face (block_number bits Leaf p)) ≡ false
    block_nowhere few (Some r) e none = absurd (apart (sym none))
    block_nowhere few None e none =
        not_true (is_inside (block_numbers bits Leaf) (toward face (block_number bits Leaf p))) (λ h.
        apart (sym (no_neighbour (is_inside everywhere (toward face corner)) (toward face corner) (sym e)) ∙ numbered_in_range bits Leaf few (toward face corner) (ap (is_inside (block_numbers bits Leaf)) led ∙ h)))
