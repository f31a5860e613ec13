-- In one block of a level, offsets are ordered as the entries are.
use Rattle.vdb_coord.proofs.Common.{◌≡◌, ◌⊎◌, inl, inr, ℕ, ℤ, pos, suc, ◌+◌, ◌*◌, ◌<◌, ◌≤◌, ◌^◌, ◌+ℤ◌, ◌*ℤ◌, ◌<ℤ◌, arith, ap, subst, ints, mul-le-mul_right, block_number, entry_bits, node_bits, offset, digit, number_at, entry_number, coord, IsBefore, Bits, Coord, Level}
use Rattle.vdb_coord.proofs.Digits.{digit_below, number_split}
use Rattle.vdb_coord.proofs.Positions.{block_bits_split, joined, offset_is}

-- which block of 2 ^ low along each axis holds p
abbrev pub numbers : ℕ → Coord → Coord
numbers low p = coord (number_at low p.x) (number_at low p.y) (number_at low p.z)

joined_less : (n a b c d e f : ℕ) → c < n → e < n → f < n → b < n → (a < d) ⊎ (a ≡ d) × ((b < e) ⊎ (b ≡ e) × (c < f)) → joined n a b c < joined n d e f
joined_less n a b c d e f hc he hf hb h =
    elim h [
      | inl l ↦
          let outer : suc a * n ≤ d * n = mul-le-mul_right n l in
          let row : a * n + b < d * n + e = omega (arith, outer, hb) in
          let inner : suc (a * n + b) * n ≤ (d * n + e) * n = mul-le-mul_right n row in
          omega (arith, inner, hc)
      | inr r ↦ elim r.1 [
        | inl l ↦
            let row : a * n + b < d * n + e = let x = ap (λ t. t * n) r.0 in omega (arith, x, l) in
            let inner : suc (a * n + b) * n ≤ (d * n + e) * n = mul-le-mul_right n row in
            omega (arith, inner, hc)
        | inr s ↦
            let row : a * n + b ≡ d * n + e = let x = ap (λ t. t * n) r.0 in let y = s.0 in omega (arith, x, y) in
            let inner = ap (λ t. t * n) row in
            let z = s.1 in
            omega (arith, inner, z)
      ]
    ]

-- in one block, positions are ordered as the numbers of entries
position_less : (low bits : ℕ) (x y : ℤ) → number_at (low + bits) x ≡ number_at (low + bits) y → number_at low x <ℤ number_at low y → digit low bits x < digit low bits y
position_less low bits x y same less =
    let sx = number_split low bits x in
    let sy = number_split low bits y in
    let e = ap (λ t. t *ℤ pos (2 ^ bits)) same in
    smaller (number_at low x) (number_at low y) _ _ (digit low bits x) (digit low bits y) sx sy e less
  where
    smaller : (a b s t : ℤ) (d e : ℕ) → a ≡ s +ℤ pos d → b ≡ t +ℤ pos e → s ≡ t → a <ℤ b → d < e
    smaller a b s t d e h k same less = omega (arith, ints, h, k, same, less)

position_same : (low bits : ℕ) (x y : ℤ) → number_at (low + bits) x ≡ number_at (low + bits) y → number_at low x ≡ number_at low y → digit low bits x ≡ digit low bits y
position_same low bits x y same equal =
    let sx = number_split low bits x in
    let sy = number_split low bits y in
    let e = ap (λ t. t *ℤ pos (2 ^ bits)) same in
    alike (number_at low x) (number_at low y) _ _ (digit low bits x) (digit low bits y) sx sy e equal
  where
    alike : (a b s t : ℤ) (d e : ℕ) → a ≡ s +ℤ pos d → b ≡ t +ℤ pos e → s ≡ t → a ≡ b → d ≡ e
    alike a b s t d e h k same equal = omega (arith, ints, h, k, same, equal)

-- what a number of a coarser block is, if that of a finer one is known
same_axis : (bits : Bits) (level : Level) (p q : Coord) → block_number bits level p ≡ block_number bits level q
    → let k = entry_bits bits level + node_bits bits level in (number_at k p.x ≡ number_at k q.x) × (number_at k p.y ≡ number_at k q.y) × (number_at k p.z ≡ number_at k q.z)
same_axis bits level p q e =
    let s = subst (λ (k : ℕ). numbers k p ≡ numbers k q) (block_bits_split bits level) e in
    (ap (λ (c : Coord). c.x) s, ap (λ (c : Coord). c.y) s, ap (λ (c : Coord). c.z) s)

-- in one block of a level, the entry that comes before has the lower offset
pub offset_less : (bits : Bits) (level : Level) (p q : Coord) → block_number bits level p ≡ block_number bits level q → IsBefore (entry_number bits level p) (entry_number bits level q) → offset bits level p < offset bits level q
offset_less bits level p q same before =
    let low = entry_bits bits level in
    let b = node_bits bits level in
    let d : ℤ → ℕ = digit low b in
    let s = same_axis bits level p q same in
    let n = 2 ^ b in
    let less : joined n (d p.x) (d p.y) (d p.z) < joined n (d q.x) (d q.y) (d q.z) =
    joined_less n (d p.x) (d p.y) (d p.z) (d q.x) (d q.y) (d q.z) (digit_below low b p.z) (digit_below low b q.y) (digit_below low b q.z) (digit_below low b p.y)
    (elim before [
      | inl x ↦ inl (position_less low b p.x q.x s.0 x)
      | inr x ↦ inr (
        position_same low b p.x q.x s.0 x.0,
        elim x.1 [
          | inl y ↦ inl (position_less low b p.y q.y s.1 y)
          | inr y ↦ inr (position_same low b p.y q.y s.1 y.0, position_less low b p.z q.z s.2 y.1)
        ],
      )
    ]) in
    let ep = offset_is bits level p in
    let eq = offset_is bits level q in
    omega (arith, less, ep, eq)
