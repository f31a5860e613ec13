-- Each step from a scene that files encode leads to another one.
use Rattle.vdb_scene.proofs.Common.{◌≡◌, refl, sym, subst, inl, inr, ℕ, pos, negsuc, ◌<◌, ◌≤◌, Bool, true, false, not, ◌&&◌, ◌||◌, List, [], ◌∷◌, length, Option, Some, None, is_none, unwrap_or, nat_lt, Result, Ok, Err, arith, AllByRecursion, nat_cmp, slice_cmp, ints, vdb, Kind, roots, Field, as_write_of, clip, combine, dilate, erode, fill, replace, iterations, write, Write, are_coords, box_between, coord_of, count_of, is_coord, is_iteration_count, Pairs, has_pair, is_text, may_set, with_pair, without_pair, is_name, first_of_all, no_grid, refused_if, same_grid, has_form, has_value, kind_eq, kind_of, scalar, scalar_eq, scalar_greater, scalar_lesser, scalar_sum, Grid, Scene, field_at, grid_at, is_named, kind_at, limit_at, new_grid, the_grid, with_grid, Step, after, changed, passes, refusal, tried, tried_write, with_pairs, write_at, made_of, tried_of, IsField, is_value_of, Refusal, Command, Literal, Num, Near, Far, Point, Scalar, Operation, States, Values, Unite, Subtract, Intersect, Maximum, Minimum, Sum, Replace}
use Rattle.std.proofs.Common.{nat_le}
use Rattle.std.specs.List.Sorted.{IsStrictlySortedBy}
use Rattle.std.specs.Cmp.Lexicographic.{nat_list_cmp_total}
use Rattle.std.proofs.lemmas.Bool.{leb-false, ltb-false}
use Rattle.std.proofs.lemmas.Bool.Decides.{nat_tests}
use Rattle.std.proofs.lemmas.Map.{keys-set_value, length-set_value}
use Rattle.vdb_tree.specs.declared.Write.TheVariants as writes
use Rattle.vdb_scene.specs.Arguments.{is_root_limit, root_limit_of}
use Rattle.vdb_scene.specs.Refusals.{name_taken, too_many_grids}
use Rattle.vdb_scene.specs.Replies.{Reply}
use Rattle.vdb_scene.specs.Scene.{pairs_at, with_changed, without_grid}
use Rattle.vdb_scene.specs.Step.{Inserts, cell_of_line, meaning_of_two}
use Rattle.vdb_scene.specs.ValidScenes.{ArePairs, HasValidTexts, IsGrid, IsPair, IsScene}
use Rattle.vdb_scene.specs.declared.answer.Refusal.TheVariants as refusals
use Rattle.vdb_scene.specs.declared.command.Command.TheVariants as commands
use Rattle.vdb_scene.proofs.Steps.{grid_found}
use Rattle.vdb_scene.proofs.ValidEntries.{all_found, all_inserted, all_put, all_removed, length_inserted, length_removed, length_replaced, sorted_inserted, sorted_removed}
use Rattle.vdb_scene.proofs.ValidFields.{IsClosed, clip_is, clip_roots, combine_is, dilated_is, eroded_is, erosion_roots, fill_is, greater_closed, kind_exact, kind_read, lesser_closed, new_is, new_roots, replace_is, ruled_is, sum_closed, value_read, write_is}

-- ---- errors that don't apply

some_none : {A : Type 0} (x : A) → Some x ≡ None → ⊥
some_none x h = cc

-- if there is no first error, there is none
none_of : (tried : List (Option Refusal)) → first_of_all tried ≡ None → AllByRecursion (λ o. o ≡ None) tried
none_of [] h = tt
none_of (None ∷ rest) h = (refl, none_of rest h)
none_of (Some r ∷ rest) h = absurd (some_none r h)

unmet : (b : Bool) (r : Refusal) → refused_if b r ≡ None → b ≡ false
unmet true r h = absurd (some_none r h)
unmet false r h = refl

passed : (first : Option Refusal) (rest : List (Option Refusal)) → first_of_all (first ∷ rest) ≡ None → (first ≡ None) × (first_of_all rest ≡ None)
passed None rest h = (refl, h)
passed (Some r) rest h = absurd (some_none r h)

fits : (b : Bool) → not b ≡ false → b ≡ true
fits true h = refl
fits false h = absurd cc

both : (a b : Bool) → (a && b) ≡ true → (a ≡ true) × (b ≡ true)
both true b h = (refl, h)
both false b h = absurd cc

exists : (o : Option Grid) → is_none o ≡ false → (g : Grid) × (o ≡ Some g)
exists None h = absurd cc
exists (Some g) h = (g, refl)

-- ---- metadata pairs

no_pairs : ArePairs []
unfolding IsStrictlySortedBy
no_pairs = record { few = omega arith; in_order = tt; each = tt }

module _ (pairs : Pairs) (are : ArePairs pairs) (key : List ℕ) where
  module _ (text : List ℕ) where
    few_after : (has : Bool) → has_pair pairs key ≡ has → (has || nat_lt (length pairs) 16) ≡ true → length (with_pair pairs key text) ≤ 16
    few_after true has may =
        let same = length_replaced (slice_cmp nat_cmp) nat_list_cmp_total pairs key text are.in_order has in
        let few = are.few in
        omega (arith, same, few)
    few_after false has may =
        let more = length_inserted (slice_cmp nat_cmp) pairs key text in
        let few : length pairs < 16 = below may in
        omega (arith, more, few)
      where
        below : nat_lt (length pairs) 16 ≡ true → length pairs < 16
        below h = grind (arith, nat_tests)

    -- a pair is set
    pub with_pair_are : is_name key ≡ true → is_text text ≡ true → may_set pairs key ≡ true → ArePairs (with_pair pairs key text)
    with_pair_are name valid may = record {
      few = few_after (has_pair pairs key) refl may;
      in_order = sorted_inserted (slice_cmp nat_cmp) nat_list_cmp_total pairs key text are.in_order;
      each = all_inserted IsPair (slice_cmp nat_cmp) pairs key text (record { key = name; text = valid }) (λ k t is. record { key = is.key; text = valid }) are.each;
    }

  -- a pair is removed
  pub without_pair_are : ArePairs (without_pair pairs key)
  without_pair_are = record {
    few = let less = length_removed (is_named key) pairs in let few = are.few in omega (arith, less, few);
    in_order = sorted_removed (slice_cmp nat_cmp) (is_named key) pairs are.in_order;
    each = all_removed IsPair (is_named key) pairs are.each;
  }

-- ---- a further grid, a changed one, and one less

module _ (s : Scene) (is : IsScene s) where
  pub put_is : (name : List ℕ) (g : Grid) → ((k : List ℕ) → is_name k ≡ true → IsGrid (k, g)) → IsScene (with_changed s name g)
  put_is name g each = record {
    few = let same = length-set_value (is_named name) s g in let few = is.few in omega (arith, same, few);
    in_order = subst (IsStrictlySortedBy (slice_cmp nat_cmp)) (sym (keys-set_value (is_named name) s g)) is.in_order;
    grids = all_put IsGrid (is_named name) s g (λ k old h. each k h.name) is.grids;
  }

  pub added_is : (name : List ℕ) (g : Grid) → nat_le 64 (length s) ≡ false → IsGrid (name, g) → IsScene (with_grid s name g)
  added_is name g free new = record {
    few = let more = length_inserted (slice_cmp nat_cmp) s name g in let few = leb-false 64 (length s) free in omega (arith, more, few);
    in_order = sorted_inserted (slice_cmp nat_cmp) nat_list_cmp_total s name g is.in_order;
    grids = all_inserted IsGrid (slice_cmp nat_cmp) s name g new
        (λ k old h. record { name = h.name; field = new.field; positive = new.positive; limited = new.limited; roots = new.roots; pairs = new.pairs }) is.grids;
  }

  pub removed_is : (name : List ℕ) → IsScene (without_grid s name)
  removed_is name = record {
    few = let less = length_removed (is_named name) s in let few = is.few in omega (arith, less, few);
    in_order = sorted_removed (slice_cmp nat_cmp) (is_named name) s is.in_order;
    grids = all_removed IsGrid (is_named name) s is.grids;
  }

  module _ (name : List ℕ) (here : is_none (grid_at s name) ≡ false) where
    -- the grid of an existing name, with the name under which it lies
    held : (k : List ℕ) × IsGrid (k, the_grid s name)
    held =
        let found = exists (grid_at s name) here in
        let grid = all_found IsGrid (is_named name) s found.0 found.1 is.grids in
        (grid.0, subst (λ (g : Grid). IsGrid (grid.0, g)) (sym (grid_found s name found.0 found.1)) grid.1)

    field_held : IsField (field_at s name)
    field_held = let h = held in h.1.field

    -- the same grid under another name
    pub copied_is : (k : List ℕ) → is_name k ≡ true → IsGrid (k, the_grid s name)
    copied_is k valid = let h = held in let g = h.1 in record { name = valid; field = g.field; positive = g.positive; limited = g.limited; roots = g.roots; pairs = g.pairs }

    pub changed_is : (change : Field Scalar → Field Scalar) → IsField (change (field_at s name)) → roots scalar_eq vdb (change (field_at s name)) ≤ limit_at s name → IsScene (changed s name change)
    changed_is change field few =
        let h = held in
        let g = h.1 in
        put_is name (record (the_grid s name) { field = change (field_at s name) })
        (λ k valid. record { name = valid; field = field; positive = g.positive; limited = g.limited; roots = few; pairs = g.pairs })

    -- a change that adds no root block with a cell other than the background
    pub shrunk_is : (change : Field Scalar → Field Scalar) → IsField (change (field_at s name)) → roots scalar_eq vdb (change (field_at s name)) ≤ roots scalar_eq vdb (field_at s name) → IsScene (changed s name change)
    shrunk_is change field fewer = let h = held in let few = h.1.roots in changed_is change field (omega (arith, fewer, few))

    pub pairs_is : (change : Pairs → Pairs) → ArePairs (change (pairs_at s name)) → IsScene (with_pairs s name change)
    pairs_is change pairs =
        let h = held in
        let g = h.1 in
        put_is name (record (the_grid s name) { pairs = change (pairs_at s name) })
        (λ k valid. record { name = valid; field = g.field; positive = g.positive; limited = g.limited; roots = g.roots; pairs = pairs })

-- ---- values of a line

write_read : (k : Kind) (w : Write Literal) → passes (has_form k) w ≡ true → passes (has_value k) w ≡ true → passes (is_value_of k) (as_write_of (scalar k) w) ≡ true
write_read k (writes.On v) form value = value_read k v form value
write_read k (writes.Off v) form value = value_read k v form value
write_read k (writes.Value v) form value = value_read k v form value
write_read k (writes.State on) form value = refl

limit_read : (limit : Option Num) → is_root_limit limit ≡ true → (1 ≤ root_limit_of limit) × (root_limit_of limit ≤ 65536)
limit_read None h = (omega arith, omega arith)
limit_read (Some (Near (pos n))) h = (grind (arith, ints), grind (arith, ints))
limit_read (Some (Near (negsuc n))) h = absurd cc
limit_read (Some Far) h = absurd cc

-- a number of iterations is at least 1
some_iterations : (n : Num) → is_iteration_count n ≡ true → 1 ≤ count_of n
some_iterations (Near (pos n)) h = grind (arith, ints)
some_iterations (Near (negsuc n)) h = absurd cc
some_iterations Far h = absurd cc

-- ---- commands

module _ (s : Scene) (is : IsScene s) where
  write_step : (name : List ℕ) (k : Option Num) (p : Point) (w : Write Literal) → first_of_all (tried_write s name k p w) ≡ None → IsScene (changed s name (write (coord_of p) (write_at s name w)))
  write_step name k p w h =
      let tests = none_of (tried_write s name k p w) h in
      let here = unmet _ _ tests.0 in
      let form = fits _ (unmet _ _ tests.1.0) in
      let value = both (is_coord p) _ (fits _ (unmet _ _ tests.1.1.0)) in
      changed_is s is name here (write (coord_of p) (write_at s name w))
      (write_is (field_at s name) (field_held s is name here) (coord_of p) (write_at s name w) (write_read (kind_at s name) w form value.1)) (ltb-false _ _ (unmet _ _ tests.1.1.1.1.0))

  module _ (name other : List ℕ) (here : is_none (grid_at s name) ≡ false) (there : is_none (grid_at s other) ≡ false) where
    abbrev f : Field Scalar
    f = field_at s name

    abbrev g : Field Scalar
    g = field_at s other

    -- an operation that combines the values
    combined : (both : Scalar → Scalar → Scalar) → IsClosed both → kind_eq (kind_of f.background) (kind_of g.background) ≡ true → nat_lt (limit_at s name) (roots scalar_eq vdb (combine both f g)) ≡ false
        → IsScene (changed s name (λ f. combine both f g))
    combined both closed same few =
        changed_is s is name here (λ f. combine both f g) (combine_is f (field_held s is name here) g (field_held s is other there) (kind_exact _ _ same) both closed) (ltb-false _ _ few)

    two_step : (o : Operation) → first_of_all (tried_of o (limit_at s name) f g) ≡ None → IsScene (changed s name (λ f. made_of o f g))
    two_step (States rule) h =
        let tests = none_of (tried_of (States rule) (limit_at s name) f g) h in
        changed_is s is name here (λ f. made_of (States rule) f g) (ruled_is f (field_held s is name here) rule g) (ltb-false _ _ (unmet _ _ tests.0))
    two_step (Values Maximum) h = let tests = none_of (tried_of (Values Maximum) (limit_at s name) f g) h in combined scalar_greater greater_closed (fits _ (unmet _ _ tests.0)) (unmet _ _ tests.1.0)
    two_step (Values Minimum) h = let tests = none_of (tried_of (Values Minimum) (limit_at s name) f g) h in combined scalar_lesser lesser_closed (fits _ (unmet _ _ tests.0)) (unmet _ _ tests.1.0)
    two_step (Values Sum) h =
        let tests = none_of (tried_of (Values Sum) (limit_at s name) f g) h in combined (λ v w. unwrap_or (scalar_sum v w) v) sum_closed (fits _ (unmet _ _ tests.0)) (unmet _ _ tests.1.1.1.0)
    two_step (Values Replace) h =
        let tests = none_of (tried_of (Values Replace) (limit_at s name) f g) h in
        changed_is s is name here (λ f. replace f g) (replace_is f (field_held s is name here) g (field_held s is other there) (kind_exact _ _ (fits _ (unmet _ _ tests.0)))) (ltb-false _ _ (unmet _ _ tests.1.0))

  -- an operation on two grids
  both_step : (o : Operation) (name other : List ℕ) → first_of_all (meaning_of_two o s name other).tried ≡ None → IsScene (changed s name (λ f. made_of o f (field_at s other)))
  both_step o name other h =
      let here = passed (no_grid s name) _ h in
      let there = passed (no_grid s other) _ here.1 in
      let apart = passed (same_grid name other) _ there.1 in
      two_step name other (unmet _ _ here.0) (unmet _ _ there.0) o apart.1

  -- a command without an error
  pub after_is : (c : Command) → HasValidTexts c → refusal s c ≡ None → IsScene (after s c)
  after_is (commands.Grid name kind v limit) valid h =
      let tests = none_of (tried s (commands.Grid name kind v limit)) h in
      let form = fits _ (unmet _ _ tests.1.1.0) in
      let range = both (has_value kind v) (is_root_limit limit) (fits _ (unmet _ _ tests.1.1.1.0)) in
      let limits = limit_read limit range.1 in
      let none = new_roots (scalar kind v) in
      let value = subst (λ k. is_value_of k (scalar kind v) ≡ true) (sym (kind_read kind v form)) (value_read kind v form range.0) in
      added_is s is name (new_grid (scalar kind v) (root_limit_of limit)) (unmet _ _ tests.1.0)
      (record { name = valid; field = new_is (scalar kind v) value; positive = limits.0; limited = limits.1; roots = omega (arith, none); pairs = no_pairs })
  after_is (commands.Drop name) valid h = removed_is s is name
  after_is (commands.Copy from to) valid h =
      let tests = none_of (tried s (commands.Copy from to)) h in added_is s is to (the_grid s from) (unmet _ _ tests.1.1.0) (copied_is s is from (unmet _ _ tests.0) to valid)
  after_is (commands.Get name k p) valid h = is
  after_is (commands.Set name k p v) valid h = write_step name k p (writes.On v) h
  after_is (commands.Unset name k p v) valid h = write_step name k p (writes.Off v) h
  after_is (commands.Only name k p v) valid h = write_step name k p (writes.Value v) h
  after_is (commands.State name k p on) valid h = write_step name k p (writes.State on) h
  after_is (commands.Fill name c v on) valid h =
      let tests = none_of (tried s (commands.Fill name c v on)) h in
      let here = unmet _ _ tests.0 in
      let value = both (are_coords c) _ (fits _ (unmet _ _ tests.1.1.0)) in
      changed_is s is name here (fill (box_between c) (cell_of_line s name v on))
      (fill_is (field_at s name) (field_held s is name here) (box_between c) (cell_of_line s name v on) (value_read (kind_at s name) v (fits _ (unmet _ _ tests.1.0)) value.1)) (ltb-false _ _ (unmet _ _ tests.1.1.1.1.0))
  after_is (commands.Clip name c) valid h =
      let tests = none_of (tried s (commands.Clip name c)) h in
      let here = unmet _ _ tests.0 in
      let field = field_held s is name here in
      shrunk_is s is name here (clip (box_between c)) (clip_is (field_at s name) field (box_between c)) (clip_roots (field_at s name) field (box_between c))
  after_is (commands.Prune name) valid h = is
  after_is (commands.Voxelise name c) valid h = is
  after_is (commands.List name c limit) valid h = is
  after_is (commands.Slice name z a) valid h = is
  after_is (commands.Count name c) valid h = is
  after_is (commands.Bounds name) valid h = is
  after_is (commands.Census name) valid h = is
  after_is (commands.Union name other) valid h = both_step (States Unite) name other h
  after_is (commands.Difference name other) valid h = both_step (States Subtract) name other h
  after_is (commands.Intersect name other) valid h = both_step (States Intersect) name other h
  after_is (commands.Max name other) valid h = both_step (Values Maximum) name other h
  after_is (commands.Min name other) valid h = both_step (Values Minimum) name other h
  after_is (commands.Sum name other) valid h = both_step (Values Sum) name other h
  after_is (commands.Replace name other) valid h = both_step (Values Replace) name other h
  after_is (commands.Dilate name n) valid h =
      let tests = none_of (tried s (commands.Dilate name n)) h in
      let here = unmet _ _ tests.0 in
      changed_is s is name here (iterations (count_of n) dilate) (dilated_is (count_of n) (field_at s name) (field_held s is name here)) (ltb-false _ _ (unmet _ _ tests.1.1.0))
  after_is (commands.Erode name n) valid h =
      let tests = none_of (tried s (commands.Erode name n)) h in
      let here = unmet _ _ tests.0 in
      shrunk_is s is name here (iterations (count_of n) erode) (eroded_is (count_of n) (field_at s name) (field_held s is name here)) (erosion_roots (count_of n) (some_iterations n (fits _ (unmet _ _ tests.1.0))) (field_at s name))
  after_is (commands.Meta name key text) valid h =
      let tests = none_of (tried s (commands.Meta name key text)) h in
      let here = unmet _ _ tests.0 in
      let grid = held s is name here in
      pairs_is s is name here (λ pairs. with_pair pairs key text) (with_pair_are (pairs_at s name) grid.1.pairs key text valid.0 valid.1 (fits _ (unmet _ _ tests.1.0)))
  after_is (commands.Unmeta name key) valid h =
      let tests = none_of (tried s (commands.Unmeta name key)) h in
      let here = unmet _ _ tests.0 in
      let grid = held s is name here in
      pairs_is s is name here (λ pairs. without_pair pairs key) (without_pair_are (pairs_at s name) grid.1.pairs key)
  after_is (commands.Metas name) valid h = is

-- ---- steps

-- each step leads to a scene that files encode
pub step_is : (s : Scene) (c : Command) (reply : Reply) (next : Scene) → IsScene s → HasValidTexts c → Step s c reply next → IsScene next
step_is s c reply next is valid (inl h) = subst IsScene (sym h.3) is
step_is s c reply next is valid (inr (inl h)) = subst IsScene (sym h.2) (after_is s is c valid h.0)
step_is s c reply next is valid (inr (inr h)) = subst IsScene (sym h.3) is

-- an inserted grid
pub inserted_is : (s : Scene) (name : List ℕ) (g : Grid) (result : Result (Unit {0}) Refusal) (next : Scene) → IsScene s → IsGrid (name, g) → Inserts s name g result next → IsScene next
inserted_is s name g (Ok u) next is new h =
    let tests = none_of (name_taken s name ∷ too_many_grids s ∷ []) h.0 in subst IsScene (sym h.1) (added_is s is name g (unmet _ _ tests.1.0) new)
inserted_is s name g (Err refusals.Memory) next is new h = subst IsScene (sym h.1) is
inserted_is s name g (Err r) next is new h = subst IsScene (sym h.1) is

-- the empty scene
pub empty_is : IsScene []
unfolding IsStrictlySortedBy
empty_is = record { few = omega arith; in_order = tt; grids = tt }
