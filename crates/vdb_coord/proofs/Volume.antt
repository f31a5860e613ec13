-- How many coordinates a box has.
use Rattle.std.proofs.Common.{◌≡◌, sym, ap, ◌∙◌, ℕ, ◌*◌, ℤ, pos, ◌+ℤ◌, List, [], ◌∷◌, map, flat_map, length, arith}
use Rattle.std.proofs.Math.Nat.{mul_assoc, suc-mul, zero-mul}
use Rattle.std.proofs.lemmas.List.{length-append, length-map}
use Rattle.std.proofs.lemmas.List.FromFn.{length-map-range_with_len}
use Rattle.vdb_coord.specs.Space.{Box, coord, coordinates, extent, range, volume}

length_flat : {X Y : Type 0} (f : X → List Y) (n : ℕ) (xs : List X) → ((x : X) → length (f x) ≡ n) → length (flat_map f xs) ≡ length xs * n
length_flat f n [] h = sym (zero-mul n)
length_flat f n (x ∷ xs) h =
    let e = length-append (f x) (flat_map f xs) in let k = h x in let r = length_flat f n xs h in let m = suc-mul (length xs) n in omega arith

length_range : (low high : ℤ) → length (range low high) ≡ extent low high
length_range low high = length-map-range_with_len (λ k. low +ℤ pos k) 0 (extent low high)

pub length_coordinates : (b : Box) → length (coordinates b) ≡ volume b
unfolding coordinates
length_coordinates b =
    let n = extent b.min.z b.max.z in
    let m = extent b.min.y b.max.y in
    let row : (x y : ℤ) → length (map (λ z. coord x y z) (range b.min.z b.max.z)) ≡ n = λ x y. length-map (range b.min.z b.max.z) (λ z. coord x y z) ∙ length_range b.min.z b.max.z in
    let plane : (x : ℤ) → length (flat_map (λ y. map (λ z. coord x y z) (range b.min.z b.max.z)) (range b.min.y b.max.y)) ≡ m * n =
    λ x. length_flat _ n (range b.min.y b.max.y) (row x) ∙ ap (λ k. k * n) (length_range b.min.y b.max.y) in
    length_flat _ (m * n) (range b.min.x b.max.x) plane ∙ ap (λ k. k * (m * n)) (length_range b.min.x b.max.x) ∙ sym (mul_assoc (extent b.min.x b.max.x) m n)
