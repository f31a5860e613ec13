-- Lemmas on the unread bytes of a piece.
use Rattle.std.proofs.Common.{◌≡◌, ℕ, ◌+◌, ◌-◌, ◌≤◌, List, length, take, drop, ap, sym, ◌∙◌, arith, length-take, slice_range}
use Rattle.std.proofs.lemmas.List.{drop-drop, drop-take}

-- the unread bytes after the first n unread bytes
pub behind_first : (piece : List ℕ) (start n end : ℕ) → n ≤ length (slice_range piece start end) → slice_range piece (start + n) end ≡ drop n (slice_range piece start end)
behind_first piece start n end within =
    let rest = end - (start + n) in
    let width : end - start ≡ n + rest = omega (arith, length-take (end - start) (drop start piece)) in
    sym (ap (λ k. drop n (take k (drop start piece))) width ∙ drop-take n rest (drop start piece) ∙ ap (take rest) (drop-drop n start piece))
