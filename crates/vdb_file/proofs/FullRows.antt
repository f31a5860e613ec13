-- Active voxels with consecutive numbers, read at once.
use Rattle.vdb_file.proofs.Common.{◌≡◌, ℕ, suc, ◌+◌, ◌-◌, ◌*◌, ◌<◌, ◌≤◌, Bool, true, false, List, length, length-drop, take, drop, refl, sym, ap, subst, ◌∙◌, arith, Option, Some, w16, to_be_bytes, entries, AreBits, Bits, Coord, Leaf, cell_in, Cell, cell_eq, off, Follows, Stock, Took, nat_cmp, position, cell_bytes}
use Rattle.std.proofs.Common.{drop-drop, take_all}
use Rattle.std.proofs.Math.Bool.{and-false}
use Rattle.std.specs.List.{slice_range}
use Rattle.std.specs.Prelude.{slice_index_or}
use native.Mathlib.Nat.{mul-le-mul_right, suc-mul}
use Rattle.vdb_mask.specs.Mask.{is_on}
use Rattle.vdb_node.specs.Leaf.{Leaf as LeafOf}
use Rattle.vdb_file.specs.internal.LeafVoxels.{IsActive, voxel_bytes}
use Rattle.vdb_file.specs.internal.Reading.{passed}
use Rattle.vdb_file.proofs.Agreement.{AreValues}
use Rattle.vdb_file.proofs.FieldBytes.{part_read}
use Rattle.vdb_file.proofs.LeafReads.{AreCells, HasRead, row_cells, row_read}

-- the leaf has an active cell with each of these values from a number on, and elsewhere what the old one has
pub record HasRow {V : Type 0} (background : V) (old new : LeafOf V) (first size : ℕ) (row : List V) : Type 0 where
  pub here : (i : ℕ) → i < size → cell_in (off background) new (first + i) ≡ record { value = slice_index_or row i background; on = true }
  pub before : (j : ℕ) → j < first → cell_in (off background) new j ≡ cell_in (off background) old j
  pub after : (j : ℕ) → first + size ≤ j → cell_in (off background) new j ≡ cell_in (off background) old j

active_cell : {V : Type 0} (value : V) (on : Bool) → on ≡ true → ◌≡◌ {A = Cell V} (record { value = value; on = on }) (record { value = value; on = true })
active_cell value on e = λ j. record { value = value; on = e j }

-- a row of active cells was set
pub full_row : {V : Type 0} (background : V) (old new : LeafOf V) (from first size : ℕ) (row : List V) (states : List Bool) → from ≡ first → length row ≡ size → ((i : ℕ) → i < size → is_on states i ≡ true)
    → ((d : Cell V) (i : ℕ) → i < length row → cell_in d new (from + i) ≡ record { value = slice_index_or row i d.value; on = is_on states i })
    → ((d : Cell V) (i : ℕ) → i < from → cell_in d new i ≡ cell_in d old i) → ((d : Cell V) (i : ℕ) → from + length row ≤ i → cell_in d new i ≡ cell_in d old i) → HasRow background old new first size row
full_row {V} background old new from first size row states e long on cells before after = record {
  here = λ i less.
      let move : cell_in (off background) new (first + i) ≡ cell_in (off background) new (from + i) = ap (λ (k : ℕ). cell_in (off background) new (k + i)) (sym e) in
      move ∙ cells (off background) i (omega (arith, less, long)) ∙ active_cell (slice_index_or row i background) (is_on states i) (on i less);
  before = λ j less. before (off background) j (omega (arith, less, e));
  after = λ j past. after (off background) j (omega (arith, past, e, long));
}

-- the bytes of an entry are a part of those from a place on
part_of : (bytes : List ℕ) (at k m : ℕ) → slice_range (slice_range bytes at (length bytes)) (k * m) (k * m + m) ≡ slice_range bytes (at + k * m) (at + k * m + m)
part_of bytes at k m =
    let rest : slice_range bytes at (length bytes) ≡ drop at bytes = take_all (length bytes - at) (drop at bytes) (omega (arith, length-drop at bytes)) in
    let a : k * m + m - k * m ≡ at + k * m + m - (at + k * m) = omega arith in
    ap (λ (l : List ℕ). slice_range l (k * m) (k * m + m)) rest
    ∙ ap (λ (l : List ℕ). take (k * m + m - k * m) l) (drop-drop (k * m) at bytes)
    ∙ ap (λ (n : ℕ). take n (drop (at + k * m) bytes)) a

-- the place behind an entry
step : (at k m : ℕ) → at + k * m + m ≡ at + (k + 1) * m
step at k m =
    let s : k + 1 ≡ suc k = omega arith in
    let e = ap (λ (j : ℕ). j * m) s ∙ suc-mul k m in
    omega (arith, e)

module _ {V : Type 0} {eq : V → V → Bool} {value_bytes : V → List ℕ} {P : V → Type 0} (values : AreValues eq value_bytes P) (bits : Bits) (few : AreBits bits) (background : V) (old new : LeafOf V) (first size : ℕ) (row : List V) (has : HasRow background old new first size row) (m : ℕ) (bytes : List ℕ) (at : ℕ)
    (active : (k : ℕ) → k < size → IsActive eq value_bytes P (first + k) (slice_index_or row k background) (slice_range (slice_range bytes at (length bytes)) (k * m) (k * m + m))) where
  -- the new cells' values have P too
  pub full_cells : AreCells P bits (cell_in (off background) old) → AreCells P bits (cell_in (off background) new)
  full_cells = row_cells values bits few background (cell_in (off background) old) (cell_in (off background) new) first size has.before has.after
      (λ k less. subst (λ (c : Cell V). P c.value) (sym (has.here k less)) (active k less).fits)

  -- their voxels were read
  pub full_read : (p : Coord) (s : Stock) (known : Option (List ℕ)) → bytes ≡ take (length bytes) s.unread → length bytes ≤ s.capacity → at + size * m ≤ length bytes → first + size ≤ entries bits Leaf → (last : ℕ) → last + 1 ≡ size → (n : ℕ) (before : Option ℕ) → Follows nat_cmp before first
      → HasRead eq value_bytes bits background p (cell_in (off background) old) (position s known) (position (passed at s) known) n before
      → HasRead eq value_bytes bits background p (cell_in (off background) new) (position s known) (position (passed (at + size * m) s) known) (n + size) (Some (first + last))
  full_read p s known same room fits less last end n before follows read =
      let start : at ≡ at + 0 * m = omega arith in
      row_read values bits few background p (cell_in (off background) old) (cell_in (off background) new) first size has.before has.after n before (position s known) (λ k. position (passed (at + k * m) s) known)
      (subst (λ (a : ℕ). HasRead eq value_bytes bits background p (cell_in (off background) old) (position s known) (position (passed a s) known) n before) start read)
      follows less
      (λ k l. subst (λ (c : Cell V). cell_eq eq c (off background) ≡ false) (sym (has.here k l)) (and-false (eq (slice_index_or row k background) background)))
      (λ k l.
      let below : k + 1 ≤ size = omega (arith, l) in
      let all : (k + 1) * m ≤ size * m = mul-le-mul_right m below in
      let next = step at k m in
      let cut = sym (part_of bytes at k m) ∙ sym (active k l).same ∙ ap (λ (c : Cell V). voxel_bytes eq value_bytes (first + k, c)) (sym (has.here k l)) in
      subst (λ (e : ℕ). Took (position (passed (at + k * m) s) known) (position (passed e s) known) (voxel_bytes eq value_bytes (first + k, cell_in (off background) new (first + k)))) next
      (subst (Took (position (passed (at + k * m) s) known) (position (passed (at + k * m + m) s) known)) cut (part_read s known bytes (at + k * m) m same room (omega (arith, next, all, fits)))))
      last end
