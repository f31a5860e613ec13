-- A listing takes little memory itself, whatever the values: the hidden goal of each call on a listing.
use Rattle.std.proofs.Common.{◌+◌, ◌*◌, ◌<◌, ◌≤◌, ℕ, max, arith}
use Rattle.vdb_node.proofs.Sizes.{up_le}
use prog.Memory.{up}

up_b : (al x n : ℕ) → al ≤ 8 → x ≤ n → up al x ≤ n + 8
up_b al x n h k = let e = up_le al x in omega (arith, e, h, k)

max_b : (x y n : ℕ) → x ≤ n → y ≤ n → max x y ≤ n
max_b x y n h k = omega (arith, h, k)

add_b : (x y m n : ℕ) → x ≤ m → y ≤ n → x + y ≤ m + n
add_b x y m n h k = omega (arith, h, k)

below : (x n : ℕ) → x ≤ n → n < 9223372036854775808 → x < 9223372036854775808
below x n h k = omega (arith, h, k)

pub run_small : (a s : ℕ) → a ≤ 8 → s ≤ 8 → up (max 4 (max 4 (max a 1))) (up a 8 + 8 * s) < 9223372036854775808
run_small a s ha hs =
    let inner = up_le a 8 in
    let outer = up_le (max 4 (max 4 (max a 1))) (up a 8 + 8 * s) in
    omega (arith, inner, outer, ha, hs)

pub listing_small : (a b s : ℕ) → a ≤ 8 → b ≤ 8 → s ≤ 8 → (up (max 8 (max 8 (max (max 1 (max (max (max 4 (max (max 1 (max (max (max a 1) 1) 1)) 1)) 1) 1)) (max (max 4 (max 4 (max a 1))) 4)))) ((up 4 ((up 4 ((up (max 4 (max 4 (max a 1))) ((up (max 1 (max (max (max 4 (max (max 1 (max (max (max a 1) 1) 1)) 1)) 1) 1)) 128) + (up (max 1 (max (max (max 4 (max (max 1 (max (max (max a 1) 1) 1)) 1)) 1) 1)) (max 1 (max ((up (max 4 (max (max 1 (max (max (max a 1) 1) 1)) 1)) 1) + (up (max 4 (max (max 1 (max (max (max a 1) 1) 1)) 1)) ((up (max 1 (max (max (max a 1) 1) 1)) 24) + (up (max 1 (max (max (max a 1) 1) 1)) (max 1 (max ((up (max a 1) 1) + (up (max a 1) ((up 1 ((up b 0) + s)) + 1))) 1)))))) 1))))) + (up (max 4 (max 4 (max a 1))) ((up a 8) + (8 * s))))) + 16)) + 4)) < 9223372036854775808
listing_small a b s ha hb hs = below (up (max 8 (max 8 (max (max 1 (max (max (max 4 (max (max 1 (max (max (max a 1) 1) 1)) 1)) 1) 1)) (max (max 4 (max 4 (max a 1))) 4)))) ((up 4 ((up 4 ((up (max 4 (max 4 (max a 1))) ((up (max 1 (max (max (max 4 (max (max 1 (max (max (max a 1) 1) 1)) 1)) 1) 1)) 128) + (up (max 1 (max (max (max 4 (max (max 1 (max (max (max a 1) 1) 1)) 1)) 1) 1)) (max 1 (max ((up (max 4 (max (max 1 (max (max (max a 1) 1) 1)) 1)) 1) + (up (max 4 (max (max 1 (max (max (max a 1) 1) 1)) 1)) ((up (max 1 (max (max (max a 1) 1) 1)) 24) + (up (max 1 (max (max (max a 1) 1) 1)) (max 1 (max ((up (max a 1) 1) + (up (max a 1) ((up 1 ((up b 0) + s)) + 1))) 1)))))) 1))))) + (up (max 4 (max 4 (max a 1))) ((up a 8) + (8 * s))))) + 16)) + 4)) 383 (up_b (max 8 (max 8 (max (max 1 (max (max (max 4 (max (max 1 (max (max (max a 1) 1) 1)) 1)) 1) 1)) (max (max 4 (max 4 (max a 1))) 4)))) ((up 4 ((up 4 ((up (max 4 (max 4 (max a 1))) ((up (max 1 (max (max (max 4 (max (max 1 (max (max (max a 1) 1) 1)) 1)) 1) 1)) 128) + (up (max 1 (max (max (max 4 (max (max 1 (max (max (max a 1) 1) 1)) 1)) 1) 1)) (max 1 (max ((up (max 4 (max (max 1 (max (max (max a 1) 1) 1)) 1)) 1) + (up (max 4 (max (max 1 (max (max (max a 1) 1) 1)) 1)) ((up (max 1 (max (max (max a 1) 1) 1)) 24) + (up (max 1 (max (max (max a 1) 1) 1)) (max 1 (max ((up (max a 1) 1) + (up (max a 1) ((up 1 ((up b 0) + s)) + 1))) 1)))))) 1))))) + (up (max 4 (max 4 (max a 1))) ((up a 8) + (8 * s))))) + 16)) + 4) 375 (max_b 8 (max 8 (max (max 1 (max (max (max 4 (max (max 1 (max (max (max a 1) 1) 1)) 1)) 1) 1)) (max (max 4 (max 4 (max a 1))) 4))) 8 (omega arith) (max_b 8 (max (max 1 (max (max (max 4 (max (max 1 (max (max (max a 1) 1) 1)) 1)) 1) 1)) (max (max 4 (max 4 (max a 1))) 4)) 8 (omega arith) (max_b (max 1 (max (max (max 4 (max (max 1 (max (max (max a 1) 1) 1)) 1)) 1) 1)) (max (max 4 (max 4 (max a 1))) 4) 8 (max_b 1 (max (max (max 4 (max (max 1 (max (max (max a 1) 1) 1)) 1)) 1) 1) 8 (omega arith) (max_b (max (max 4 (max (max 1 (max (max (max a 1) 1) 1)) 1)) 1) 1 8 (max_b (max 4 (max (max 1 (max (max (max a 1) 1) 1)) 1)) 1 8 (max_b 4 (max (max 1 (max (max (max a 1) 1) 1)) 1) 8 (omega arith) (max_b (max 1 (max (max (max a 1) 1) 1)) 1 8 (max_b 1 (max (max (max a 1) 1) 1) 8 (omega arith) (max_b (max (max a 1) 1) 1 8 (max_b (max a 1) 1 8 (max_b a 1 8 ha (omega arith)) (omega arith)) (omega arith))) (omega arith))) (omega arith)) (omega arith))) (max_b (max 4 (max 4 (max a 1))) 4 8 (max_b 4 (max 4 (max a 1)) 8 (omega arith) (max_b 4 (max a 1) 8 (omega arith) (max_b a 1 8 ha (omega arith)))) (omega arith))))) (add_b (up 4 ((up 4 ((up (max 4 (max 4 (max a 1))) ((up (max 1 (max (max (max 4 (max (max 1 (max (max (max a 1) 1) 1)) 1)) 1) 1)) 128) + (up (max 1 (max (max (max 4 (max (max 1 (max (max (max a 1) 1) 1)) 1)) 1) 1)) (max 1 (max ((up (max 4 (max (max 1 (max (max (max a 1) 1) 1)) 1)) 1) + (up (max 4 (max (max 1 (max (max (max a 1) 1) 1)) 1)) ((up (max 1 (max (max (max a 1) 1) 1)) 24) + (up (max 1 (max (max (max a 1) 1) 1)) (max 1 (max ((up (max a 1) 1) + (up (max a 1) ((up 1 ((up b 0) + s)) + 1))) 1)))))) 1))))) + (up (max 4 (max 4 (max a 1))) ((up a 8) + (8 * s))))) + 16)) 4 371 4 (up_b 4 ((up 4 ((up (max 4 (max 4 (max a 1))) ((up (max 1 (max (max (max 4 (max (max 1 (max (max (max a 1) 1) 1)) 1)) 1) 1)) 128) + (up (max 1 (max (max (max 4 (max (max 1 (max (max (max a 1) 1) 1)) 1)) 1) 1)) (max 1 (max ((up (max 4 (max (max 1 (max (max (max a 1) 1) 1)) 1)) 1) + (up (max 4 (max (max 1 (max (max (max a 1) 1) 1)) 1)) ((up (max 1 (max (max (max a 1) 1) 1)) 24) + (up (max 1 (max (max (max a 1) 1) 1)) (max 1 (max ((up (max a 1) 1) + (up (max a 1) ((up 1 ((up b 0) + s)) + 1))) 1)))))) 1))))) + (up (max 4 (max 4 (max a 1))) ((up a 8) + (8 * s))))) + 16) 363 (omega arith) (add_b (up 4 ((up (max 4 (max 4 (max a 1))) ((up (max 1 (max (max (max 4 (max (max 1 (max (max (max a 1) 1) 1)) 1)) 1) 1)) 128) + (up (max 1 (max (max (max 4 (max (max 1 (max (max (max a 1) 1) 1)) 1)) 1) 1)) (max 1 (max ((up (max 4 (max (max 1 (max (max (max a 1) 1) 1)) 1)) 1) + (up (max 4 (max (max 1 (max (max (max a 1) 1) 1)) 1)) ((up (max 1 (max (max (max a 1) 1) 1)) 24) + (up (max 1 (max (max (max a 1) 1) 1)) (max 1 (max ((up (max a 1) 1) + (up (max a 1) ((up 1 ((up b 0) + s)) + 1))) 1)))))) 1))))) + (up (max 4 (max 4 (max a 1))) ((up a 8) + (8 * s))))) 16 347 16 (up_b 4 ((up (max 4 (max 4 (max a 1))) ((up (max 1 (max (max (max 4 (max (max 1 (max (max (max a 1) 1) 1)) 1)) 1) 1)) 128) + (up (max 1 (max (max (max 4 (max (max 1 (max (max (max a 1) 1) 1)) 1)) 1) 1)) (max 1 (max ((up (max 4 (max (max 1 (max (max (max a 1) 1) 1)) 1)) 1) + (up (max 4 (max (max 1 (max (max (max a 1) 1) 1)) 1)) ((up (max 1 (max (max (max a 1) 1) 1)) 24) + (up (max 1 (max (max (max a 1) 1) 1)) (max 1 (max ((up (max a 1) 1) + (up (max a 1) ((up 1 ((up b 0) + s)) + 1))) 1)))))) 1))))) + (up (max 4 (max 4 (max a 1))) ((up a 8) + (8 * s)))) 339 (omega arith) (add_b (up (max 4 (max 4 (max a 1))) ((up (max 1 (max (max (max 4 (max (max 1 (max (max (max a 1) 1) 1)) 1)) 1) 1)) 128) + (up (max 1 (max (max (max 4 (max (max 1 (max (max (max a 1) 1) 1)) 1)) 1) 1)) (max 1 (max ((up (max 4 (max (max 1 (max (max (max a 1) 1) 1)) 1)) 1) + (up (max 4 (max (max 1 (max (max (max a 1) 1) 1)) 1)) ((up (max 1 (max (max (max a 1) 1) 1)) 24) + (up (max 1 (max (max (max a 1) 1) 1)) (max 1 (max ((up (max a 1) 1) + (up (max a 1) ((up 1 ((up b 0) + s)) + 1))) 1)))))) 1))))) (up (max 4 (max 4 (max a 1))) ((up a 8) + (8 * s))) 251 88 (up_b (max 4 (max 4 (max a 1))) ((up (max 1 (max (max (max 4 (max (max 1 (max (max (max a 1) 1) 1)) 1)) 1) 1)) 128) + (up (max 1 (max (max (max 4 (max (max 1 (max (max (max a 1) 1) 1)) 1)) 1) 1)) (max 1 (max ((up (max 4 (max (max 1 (max (max (max a 1) 1) 1)) 1)) 1) + (up (max 4 (max (max 1 (max (max (max a 1) 1) 1)) 1)) ((up (max 1 (max (max (max a 1) 1) 1)) 24) + (up (max 1 (max (max (max a 1) 1) 1)) (max 1 (max ((up (max a 1) 1) + (up (max a 1) ((up 1 ((up b 0) + s)) + 1))) 1)))))) 1)))) 243 (max_b 4 (max 4 (max a 1)) 8 (omega arith) (max_b 4 (max a 1) 8 (omega arith) (max_b a 1 8 ha (omega arith)))) (add_b (up (max 1 (max (max (max 4 (max (max 1 (max (max (max a 1) 1) 1)) 1)) 1) 1)) 128) (up (max 1 (max (max (max 4 (max (max 1 (max (max (max a 1) 1) 1)) 1)) 1) 1)) (max 1 (max ((up (max 4 (max (max 1 (max (max (max a 1) 1) 1)) 1)) 1) + (up (max 4 (max (max 1 (max (max (max a 1) 1) 1)) 1)) ((up (max 1 (max (max (max a 1) 1) 1)) 24) + (up (max 1 (max (max (max a 1) 1) 1)) (max 1 (max ((up (max a 1) 1) + (up (max a 1) ((up 1 ((up b 0) + s)) + 1))) 1)))))) 1))) 136 107 (up_b (max 1 (max (max (max 4 (max (max 1 (max (max (max a 1) 1) 1)) 1)) 1) 1)) 128 128 (max_b 1 (max (max (max 4 (max (max 1 (max (max (max a 1) 1) 1)) 1)) 1) 1) 8 (omega arith) (max_b (max (max 4 (max (max 1 (max (max (max a 1) 1) 1)) 1)) 1) 1 8 (max_b (max 4 (max (max 1 (max (max (max a 1) 1) 1)) 1)) 1 8 (max_b 4 (max (max 1 (max (max (max a 1) 1) 1)) 1) 8 (omega arith) (max_b (max 1 (max (max (max a 1) 1) 1)) 1 8 (max_b 1 (max (max (max a 1) 1) 1) 8 (omega arith) (max_b (max (max a 1) 1) 1 8 (max_b (max a 1) 1 8 (max_b a 1 8 ha (omega arith)) (omega arith)) (omega arith))) (omega arith))) (omega arith)) (omega arith))) (omega arith)) (up_b (max 1 (max (max (max 4 (max (max 1 (max (max (max a 1) 1) 1)) 1)) 1) 1)) (max 1 (max ((up (max 4 (max (max 1 (max (max (max a 1) 1) 1)) 1)) 1) + (up (max 4 (max (max 1 (max (max (max a 1) 1) 1)) 1)) ((up (max 1 (max (max (max a 1) 1) 1)) 24) + (up (max 1 (max (max (max a 1) 1) 1)) (max 1 (max ((up (max a 1) 1) + (up (max a 1) ((up 1 ((up b 0) + s)) + 1))) 1)))))) 1)) 99 (max_b 1 (max (max (max 4 (max (max 1 (max (max (max a 1) 1) 1)) 1)) 1) 1) 8 (omega arith) (max_b (max (max 4 (max (max 1 (max (max (max a 1) 1) 1)) 1)) 1) 1 8 (max_b (max 4 (max (max 1 (max (max (max a 1) 1) 1)) 1)) 1 8 (max_b 4 (max (max 1 (max (max (max a 1) 1) 1)) 1) 8 (omega arith) (max_b (max 1 (max (max (max a 1) 1) 1)) 1 8 (max_b 1 (max (max (max a 1) 1) 1) 8 (omega arith) (max_b (max (max a 1) 1) 1 8 (max_b (max a 1) 1 8 (max_b a 1 8 ha (omega arith)) (omega arith)) (omega arith))) (omega arith))) (omega arith)) (omega arith))) (max_b 1 (max ((up (max 4 (max (max 1 (max (max (max a 1) 1) 1)) 1)) 1) + (up (max 4 (max (max 1 (max (max (max a 1) 1) 1)) 1)) ((up (max 1 (max (max (max a 1) 1) 1)) 24) + (up (max 1 (max (max (max a 1) 1) 1)) (max 1 (max ((up (max a 1) 1) + (up (max a 1) ((up 1 ((up b 0) + s)) + 1))) 1)))))) 1) 99 (omega arith) (max_b ((up (max 4 (max (max 1 (max (max (max a 1) 1) 1)) 1)) 1) + (up (max 4 (max (max 1 (max (max (max a 1) 1) 1)) 1)) ((up (max 1 (max (max (max a 1) 1) 1)) 24) + (up (max 1 (max (max (max a 1) 1) 1)) (max 1 (max ((up (max a 1) 1) + (up (max a 1) ((up 1 ((up b 0) + s)) + 1))) 1)))))) 1 99 (add_b (up (max 4 (max (max 1 (max (max (max a 1) 1) 1)) 1)) 1) (up (max 4 (max (max 1 (max (max (max a 1) 1) 1)) 1)) ((up (max 1 (max (max (max a 1) 1) 1)) 24) + (up (max 1 (max (max (max a 1) 1) 1)) (max 1 (max ((up (max a 1) 1) + (up (max a 1) ((up 1 ((up b 0) + s)) + 1))) 1))))) 9 90 (up_b (max 4 (max (max 1 (max (max (max a 1) 1) 1)) 1)) 1 1 (max_b 4 (max (max 1 (max (max (max a 1) 1) 1)) 1) 8 (omega arith) (max_b (max 1 (max (max (max a 1) 1) 1)) 1 8 (max_b 1 (max (max (max a 1) 1) 1) 8 (omega arith) (max_b (max (max a 1) 1) 1 8 (max_b (max a 1) 1 8 (max_b a 1 8 ha (omega arith)) (omega arith)) (omega arith))) (omega arith))) (omega arith)) (up_b (max 4 (max (max 1 (max (max (max a 1) 1) 1)) 1)) ((up (max 1 (max (max (max a 1) 1) 1)) 24) + (up (max 1 (max (max (max a 1) 1) 1)) (max 1 (max ((up (max a 1) 1) + (up (max a 1) ((up 1 ((up b 0) + s)) + 1))) 1)))) 82 (max_b 4 (max (max 1 (max (max (max a 1) 1) 1)) 1) 8 (omega arith) (max_b (max 1 (max (max (max a 1) 1) 1)) 1 8 (max_b 1 (max (max (max a 1) 1) 1) 8 (omega arith) (max_b (max (max a 1) 1) 1 8 (max_b (max a 1) 1 8 (max_b a 1 8 ha (omega arith)) (omega arith)) (omega arith))) (omega arith))) (add_b (up (max 1 (max (max (max a 1) 1) 1)) 24) (up (max 1 (max (max (max a 1) 1) 1)) (max 1 (max ((up (max a 1) 1) + (up (max a 1) ((up 1 ((up b 0) + s)) + 1))) 1))) 32 50 (up_b (max 1 (max (max (max a 1) 1) 1)) 24 24 (max_b 1 (max (max (max a 1) 1) 1) 8 (omega arith) (max_b (max (max a 1) 1) 1 8 (max_b (max a 1) 1 8 (max_b a 1 8 ha (omega arith)) (omega arith)) (omega arith))) (omega arith)) (up_b (max 1 (max (max (max a 1) 1) 1)) (max 1 (max ((up (max a 1) 1) + (up (max a 1) ((up 1 ((up b 0) + s)) + 1))) 1)) 42 (max_b 1 (max (max (max a 1) 1) 1) 8 (omega arith) (max_b (max (max a 1) 1) 1 8 (max_b (max a 1) 1 8 (max_b a 1 8 ha (omega arith)) (omega arith)) (omega arith))) (max_b 1 (max ((up (max a 1) 1) + (up (max a 1) ((up 1 ((up b 0) + s)) + 1))) 1) 42 (omega arith) (max_b ((up (max a 1) 1) + (up (max a 1) ((up 1 ((up b 0) + s)) + 1))) 1 42 (add_b (up (max a 1) 1) (up (max a 1) ((up 1 ((up b 0) + s)) + 1)) 9 33 (up_b (max a 1) 1 1 (max_b a 1 8 ha (omega arith)) (omega arith)) (up_b (max a 1) ((up 1 ((up b 0) + s)) + 1) 25 (max_b a 1 8 ha (omega arith)) (add_b (up 1 ((up b 0) + s)) 1 24 1 (up_b 1 ((up b 0) + s) 16 (omega arith) (add_b (up b 0) s 8 8 (up_b b 0 0 hb (omega arith)) hs)) (omega arith)))) (omega arith))))))) (omega arith)))))) (up_b (max 4 (max 4 (max a 1))) ((up a 8) + (8 * s)) 80 (max_b 4 (max 4 (max a 1)) 8 (omega arith) (max_b 4 (max a 1) 8 (omega arith) (max_b a 1 8 ha (omega arith)))) (add_b (up a 8) (8 * s) 16 64 (up_b a 8 8 ha (omega arith)) (omega (arith, hs)))))) (omega arith))) (omega arith))) (omega arith)
