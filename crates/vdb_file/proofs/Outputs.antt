-- Bytes that an output appends, and bytes that it writes.
use Rattle.vdb_file.proofs.Common.{◌≡◌, ℕ, ◌+◌, ◌-◌, ◌^◌, List, [], ◌++◌, Option, arith, sym, ap, subst, ◌∙◌, length, length-append, length-drop, min, take, drop, Puts, Sent}
use Rattle.std.proofs.Common.{slice_range, take_all}
use lib.Seq.{take-add}
use Rattle.std.specs.Io.KnownBytes.{Appends}
use Rattle.std.proofs.KnownBytes.{Appends-nil, Appends-trans}

-- ---- writing

-- one more call took n bytes of the rest
pub appends_more : (a b c : Option (List ℕ)) (bytes : List ℕ) (at n : ℕ) → Appends a b (take at bytes) → Appends b c (take n (slice_range bytes at (length bytes))) → Appends a c (take (at + n) bytes)
appends_more a b c bytes at n p q =
    let rest : slice_range bytes at (length bytes) ≡ drop at bytes = take_all (length bytes - at) (drop at bytes) (omega (arith, length-drop at bytes)) in
    subst (Appends a c) (sym (take-add at n bytes ∙ ap (λ l. take at bytes ++ take n l) (sym rest)))
    (Appends-trans a b c (take at bytes) (take n (slice_range bytes at (length bytes))) p q)

-- ---- appending

-- the count of two parts is the count of both
both : (a b c x y : ℕ) → min b (2 ^ 64 - 1) ≡ min (a + x) (2 ^ 64 - 1) → min c (2 ^ 64 - 1) ≡ min (b + y) (2 ^ 64 - 1) → min c (2 ^ 64 - 1) ≡ min (a + (x + y)) (2 ^ 64 - 1)
both a b c x y h k = omega (arith, h, k)

-- no byte is appended
pub puts_none : (a : Sent) → Puts a a []
puts_none a = record {
  known = Appends-nil a.known;
  total = let e : min a.total (2 ^ 64 - 1) ≡ min (a.total + 0) (2 ^ 64 - 1) = omega arith in e;
}

-- one part after another is appended as one
pub puts_then : (a b c : Sent) (x y : List ℕ) → Puts a b x → Puts b c y → Puts a c (x ++ y)
puts_then a b c x y first second = record {
  known = Appends-trans a.known b.known c.known x y first.known second.known;
  total = both a.total b.total c.total (length x) (length y) first.total second.total ∙ ap (λ (n : ℕ). min (a.total + n) (2 ^ 64 - 1)) (sym (length-append x y));
}

-- the same bytes
pub puts_same : (a b : Sent) (x y : List ℕ) → x ≡ y → Puts a b x → Puts a b y
puts_same a b x y e h = subst (Puts a b) e h
