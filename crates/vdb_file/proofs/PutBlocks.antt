-- Writes the body of a block: its one cell, or its entries one after another.
use Rattle.vdb_file.proofs.Common.{◌≡◌, ℕ, ◌+◌, ◌<◌, ◌≤◌, Bool, true, false, List, ◌∷◌, ◌++◌, sym, subst, ◌∙◌, length, w16, to_be_bytes, block_around, entries, sub_block, Box, Bits, Coord, Level, IsFirstWithoutAt, is_constant, Field, Cell, block_bytes, cell_bytes, listed, Puts, Sent, numbered, passing}
use Rattle.vdb_file.proofs.ListedEntries.{around, flat, listed_is}
use Rattle.vdb_file.proofs.Outputs.{puts_then}
use Rattle.vdb_file.proofs.Passing.{entry_put, others, others_end, others_next}

module _ {V : Type 0} (eq : V → V → Bool) (value_bytes : V → List ℕ) (bits : Bits) (f : Field V) (entry : Box → List ℕ) (level : Level) where
  -- a block of one cell
  pub cell_put : (box : Box) (a b : Sent) (cell : Cell V) → is_constant eq f box ≡ true → f.cell box.min ≡ cell → Puts a b (cell_bytes eq value_bytes cell) → Puts a b (block_bytes eq value_bytes bits f entry level box)
  cell_put box a b cell one at put =
      rw one (subst (λ (c : Cell V). Puts a b (cell_bytes eq value_bytes c)) (sym at) put)

  -- a block whose cells differ: its head, and then its listed entries
  pub node_put : (box : Box) (a b c : Sent) (count : ℕ) → is_constant eq f box ≡ false → Puts a b (3 ∷ to_be_bytes w16 count) → count ≡ length (listed eq value_bytes bits f level box)
      → Puts b c (numbered (λ i. entry (sub_block bits level box i)) (listed eq value_bytes bits f level box)) → Puts a c (block_bytes eq value_bytes bits f entry level box)
  node_put box a b c count no_one head is entries =
      let n = length (listed eq value_bytes bits f level box) in
      rw no_one (puts_then a b c (3 ∷ to_be_bytes w16 n) (numbered (λ i. entry (sub_block bits level box i)) (listed eq value_bytes bits f level box)) (subst (λ (m : ℕ). Puts a b (3 ∷ to_be_bytes w16 m)) is head) entries)

  module _ (p : Coord) where
    -- one more entry is written
    pub listed_put : (a b c : Sent) (from i : ℕ) → IsFirstWithoutAt (λ k. flat bits p eq f level k ≡ true) (entries bits level) from i
        → Puts a b (numbered (λ k. entry (around bits p level k)) (passing (others (flat bits p eq f level)) from)) → Puts b c (to_be_bytes w16 i ++ entry (around bits p level i))
        → Puts a c (numbered (λ k. entry (around bits p level k)) (passing (others (flat bits p eq f level)) (i + 1)))
    listed_put a b c from i next so_far more =
        entry_put (λ k. entry (around bits p level k)) a b c (passing (others (flat bits p eq f level)) from) i (passing (others (flat bits p eq f level)) (i + 1)) so_far more (others_next (flat bits p eq f level) (entries bits level) from i next)

    -- all entries are written
    pub all_put : (a b : Sent) (from : ℕ) → from ≤ entries bits level → ((i : ℕ) → from ≤ i → i < entries bits level → flat bits p eq f level i ≡ true)
        → Puts a b (numbered (λ k. entry (around bits p level k)) (passing (others (flat bits p eq f level)) from))
        → Puts a b (numbered (λ k. entry (around bits p level k)) (listed eq value_bytes bits f level (block_around bits level p)))
    all_put a b from within none so_far =
        subst (λ (is : List ℕ). Puts a b (numbered (λ k. entry (around bits p level k)) is))
        (sym (others_end (flat bits p eq f level) (entries bits level) from within none) ∙ sym (listed_is eq value_bytes bits f level (block_around bits level p))) so_far
