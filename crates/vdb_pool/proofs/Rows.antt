-- The addresses of the slots of the chunks.
use Rattle.vdb_pool.proofs.Common.{◌≡◌, ℕ, zero, suc, ◌+◌, ◌-◌, ◌*◌, ◌/◌, ◌%◌, ◌^◌, ◌<◌, ◌≤◌, List, [], ◌∷◌, ◌++◌, length, get_or, refl, sym, ap, subst, ◌∙◌, arith, length-append, Option, suc-mul, mod-lt, div-add-mod', Ptr, block_ptr, null_ptr, ◌+ₚ◌, row_from, rows_of, AreWhole, IsSound, Slot, Chunk}
use Rattle.std.proofs.Common.{append-nil, append_assoc}
use native.Mathlib.Nat.{zero-mul}
use Rattle.std.proofs.Math.Nat.{div-lt_iff_lt-mul, lt_of_mul-lt-mul_right, mul-le-mul_right, mul_comm, mul_assoc, add-mul}
use Rattle.std.proofs.lemmas.Nat.{div-mul-add}
use lib.ListN.{get_or-append}
use lib.Seq.{get_or-append-add}

pub length-row : (s : ℕ) (p : Ptr) (n : ℕ) → length (row_from s p n) ≡ n
length-row s p zero = refl
length-row s p (suc n) = ap suc (length-row s (p +ₚ s) n)

shift : (p : Ptr) (m n : ℕ) → (p +ₚ m) +ₚ n ≡ p +ₚ (m + n)
shift (block_ptr b o) m n = ap (λ k. block_ptr b k) (omega arith)
shift null_ptr m n = refl

unmoved : (p : Ptr) → p +ₚ 0 ≡ p
unmoved (block_ptr b o) = ap (λ k. block_ptr b k) (omega arith)
unmoved null_ptr = refl

pub row_at : (s : ℕ) (p : Ptr) (n i : ℕ) → i < n → get_or (row_from s p n) i null_ptr ≡ p +ₚ i * s
row_at s p zero i lt = absurd (omega (arith, lt))
row_at s p (suc n) zero lt = sym (unmoved p) ∙ ap (λ k. p +ₚ k) (sym (zero-mul s))
row_at s p (suc n) (suc i) lt =
    row_at s (p +ₚ s) n i (omega (arith, lt)) ∙ shift p s (i * s) ∙ ap (λ k. p +ₚ k) (omega (arith, suc-mul i s))

module _ {T : Type 0} (len : ℕ) where
  pub length-rows : (cs : List (Chunk T)) → length (rows_of len cs) ≡ length cs * len
  length-rows [] = sym (zero-mul len)
  length-rows (c ∷ cs) =
      length-append (row_from c.block.stride c.base.pointer len) (rows_of len cs)
      ∙ omega (arith, length-row c.block.stride c.base.pointer len, length-rows cs, suc-mul (length cs) len)

  -- the i-th slot of the k-th chunk
  pub rows_at : (cs : List (Chunk T)) (k i n : ℕ) (c : Chunk T) → k < length cs → i < len → n ≡ k * len + i → c ≡ get_or cs k c
      → get_or (rows_of len cs) n null_ptr ≡ c.base.pointer +ₚ i * c.block.stride
  rows_at [] k i n c lt lt₂ n_is e = absurd (omega (arith, lt))
  rows_at (d ∷ cs) zero i n c lt lt₂ n_is e =
      let row : List Ptr = row_from d.block.stride d.base.pointer len in
      let long : length row ≡ len = length-row d.block.stride d.base.pointer len in
      let same : n ≡ i = omega (arith, zero-mul len) in
      let below : n < length row = omega arith in
      get_or-append row (rows_of len cs) null_ptr n below
      ∙ ap (λ k. get_or row k null_ptr) same
      ∙ row_at d.block.stride d.base.pointer len i lt₂
      ∙ ap (λ (x : Chunk T). x.base.pointer +ₚ i * x.block.stride) (sym e)
  rows_at (d ∷ cs) (suc k) i n c lt lt₂ n_is e =
      let row : List Ptr = row_from d.block.stride d.base.pointer len in
      let long : length row ≡ len = length-row d.block.stride d.base.pointer len in
      let past : n ≡ length row + (k * len + i) = omega (arith, suc-mul k len) in
      ap (λ m. get_or (row ++ rows_of len cs) m null_ptr) past
      ∙ get_or-append-add row (rows_of len cs) (k * len + i) null_ptr
      ∙ rows_at cs k i (k * len + i) c (omega (arith, lt)) lt₂ refl e

  pub chunk_of : (cs : List (Chunk T)) (n : ℕ) → 0 < len → n < length (rows_of len cs) → n / len < length cs
  chunk_of cs n some lt = (div-lt_iff_lt-mul some).1 (subst (λ k. n < k) (length-rows cs) lt)

  -- each chunk is whole
  pub whole_at : (cs : List (Chunk T)) (k : ℕ) (c : Chunk T) → AreWhole len cs → k < length cs → c ≡ get_or cs k c
      → (c.block.at ≡ c.base.pointer) × (c.block.len ≡ len)
  whole_at [] k c w lt e = absurd (omega (arith, lt))
  whole_at (d ∷ cs) zero c w lt e = subst (λ (x : Chunk T). (x.block.at ≡ x.base.pointer) × (x.block.len ≡ len)) (sym e) w.0
  whole_at (d ∷ cs) (suc k) c w lt e = whole_at cs k c w.1 (omega (arith, lt)) e

  -- one more chunk
  pub rows_push : (cs : List (Chunk T)) (c : Chunk T) → rows_of len (cs ++ c ∷ []) ≡ rows_of len cs ++ row_from c.block.stride c.base.pointer len
  rows_push [] c = append-nil (row_from c.block.stride c.base.pointer len)
  rows_push (d ∷ cs) c =
      let row = row_from d.block.stride d.base.pointer len in
      ap (λ l. row ++ l) (rows_push cs c) ∙ sym (append_assoc row (rows_of len cs) (row_from c.block.stride c.base.pointer len))

  whole_push : (cs : List (Chunk T)) (c : Chunk T) → AreWhole len cs → (c.block.at ≡ c.base.pointer) × (c.block.len ≡ len) → AreWhole len (cs ++ c ∷ [])
  whole_push [] c w h = (h, tt)
  whole_push (d ∷ cs) c w h = (w.0, whole_push cs c w.1 h)

  pub grown : (most : ℕ) (cs cs' : List (Chunk T)) (ps ps' qs : List Ptr) (xs xs' : List (Slot T)) (used total held : ℕ) (top : Option ℕ) (c : Chunk T) → IsSound len most cs ps xs used total held top → total + len < 2 ^ 32
      → qs ≡ row_from c.block.stride c.base.pointer len → (c.block.at ≡ c.base.pointer) × (c.block.len ≡ len)
      → ps' ≡ ps ++ qs → xs' ≡ xs → cs' ≡ cs ++ c ∷ [] → IsSound len most cs' ps' xs' used (total + len) held top
  grown most cs cs' ps ps' qs xs xs' used total held top c ok fits qs_is h ps_is xs_is cs_is =
      let row : List Ptr = row_from c.block.stride c.base.pointer len in
      let long : length qs ≡ len = ap length qs_is ∙ length-row c.block.stride c.base.pointer len in
      let longer : length ps' ≡ length ps + length qs = ap length ps_is ∙ length-append ps qs in
      let total_is = ok.total_is in let within = ok.within in
      let sound : IsSound len most (cs ++ c ∷ []) ps' xs used (total + len) held top = record {
        all = ok.all;
        used_is = ok.used_is;
        total_is = omega arith;
        total_fits = fits;
        within = omega arith;
        rows = ps_is ∙ (λ i. ok.rows i ++ qs_is i) ∙ sym (rows_push cs c);
        whole = whole_push cs c ok.whole h;
        held_is = ok.held_is;
        held_within = ok.held_within;
        stack = ok.stack;
        listed = ok.listed;
      } in
      subst (λ (l : List (Slot T)). IsSound len most cs' ps' l used (total + len) held top) (sym xs_is)
      (subst (λ (l : List (Chunk T)). IsSound len most l ps' xs used (total + len) held top) (sym cs_is) sound)

  pub whole_last : (cs : List (Chunk T)) (c : Chunk T) → AreWhole len (cs ++ c ∷ []) → AreWhole len cs × ((c.block.at ≡ c.base.pointer) × (c.block.len ≡ len))
  whole_last [] c w = (tt, w.0)
  whole_last (d ∷ cs) c w = let r = whole_last cs c w.1 in ((w.0, r.0), r.1)

-- a pool's chunks have slots
pub some_of : (len most : ℕ) → len * most ≡ 4294967295 → 0 < len
some_of zero most all = absurd (omega (arith, zero-mul most, all))
some_of (suc len) most all = omega arith

-- a slot divided by the slots of a chunk, by the most chunks
pub quotient_is : (len most n : ℕ) → len * most ≡ 4294967295 → n < 4294967296 → (n + 1) * most / 4294967296 ≡ n / len
quotient_is len most n all fits =
    let some = some_of len most all in
    let q : ℕ = n / len in let r : ℕ = n % len in let t : ℕ = (r + 1) * most in
    let parts : n ≡ q * len + r = sym (div-add-mod' n len) in
    let short : q * len < suc most * len = omega (arith, parts, suc-mul most len, mul_comm len most, all, fits, some) in
    let least : q ≤ most = omega (arith, lt_of_mul-lt-mul_right len short) in
    let from : most ≤ t = omega (arith, suc-mul r most) in
    let within : r + 1 ≤ len = omega (arith, mod-lt n some) in
    let past : t ≤ 4294967295 = omega (arith, mul-le-mul_right most within, all) in
    let split : q * len + r + 1 ≡ q * len + (r + 1) = omega arith in
    let times : q * len * most ≡ q * 4294967295 = mul_assoc q len most ∙ ap (λ k. q * k) all in
    let whole : (n + 1) * most ≡ q * 4294967296 + (t - q) =
    ap (λ k. (k + 1) * most) parts ∙ ap (λ k. k * most) split ∙ add-mul (q * len) (r + 1) most ∙ omega (arith, times, least, from) in
    ap (λ k. k / 4294967296) whole ∙ div-mul-add q 4294967296 (t - q) (omega (arith, past))

-- the chunks of a pool have room for one more, if they have fewer slots than 4,294,967,295
pub one_more_fits : (len most n : ℕ) → len * most ≡ 4294967295 → n * len < 4294967295 → n * len + len < 4294967296
one_more_fits len most n all below =
    let fewer : n < most = lt_of_mul-lt-mul_right len (omega (arith, mul_comm len most, all, below)) in
    omega (arith, suc-mul n len, mul-le-mul_right len fewer, mul_comm len most, all)
