-- The grids of a scene by their names.
use Rattle.vdb_file.proofs.Common.{◌≡◌, ℕ, zero, suc, true, false, cond, List, [], ◌∷◌, ◌++◌, refl, ap, subst, ◌∙◌, Option, Some, None, map, option_map, w32, to_be_bytes, AllByRecursion, slice_get, nat_list_cmp_total, slice_cmp, nat_cmp, ordering_reverse, Ordering, Less, Equal, Greater, vdb, Field, Pairs, scalar_bytes, scalar_eq, Grid, Scene, grid_at, Scalar, roots_bytes, counted, grid_bytes, head_bytes, kind_bytes, pairs_bytes}
use Rattle.std.specs.List.Sorted.{IsStrictlySortedBy}
use Rattle.std.specs.Map.{lookup}
use Rattle.std.specs.Ordering.{is_eq}
use Rattle.vdb_scene.specs.Scene.{is_named}
use Rattle.vdb_file.proofs.Passing.{same_some}

abbrev cmp : List ℕ → List ℕ → Ordering
cmp = slice_cmp nat_cmp

-- what the image of each member has, the image at an index has
image_at : {A B : Type 0} (f : A → B) (P : B → Type 0) (xs : List A) (i : ℕ) (x : A) → slice_get xs i ≡ Some x → AllByRecursion P (map f xs) → P (f x)
image_at f P [] i x h all = absurd (none_some h)
  where
    none_some : {A : Type 0} {x : A} → ◌≡◌ {A = Option A} None (Some x) → ⊥
    none_some e = cc
image_at f P (y ∷ ys) zero x h all = subst (λ z. P (f z)) (same_some y x h) all.0
image_at f P (y ∷ ys) (suc i) x h all = image_at f P ys i x h all.1

-- a name equals itself
itself_at : (n : List ℕ) → is_eq (cmp n n) ≡ true
itself_at n = by (cmp n n) (nat_list_cmp_total.antisymm n n)
  where
    by : (o : Ordering) → o ≡ ordering_reverse o → is_eq o ≡ true
    by Less e = cc
    by Equal e = refl
    by Greater e = cc

-- a name differs from one that comes before it
before_at : (m n : List ℕ) → cmp m n ≡ Less → is_eq (cmp n m) ≡ false
before_at m n h = ap is_eq (nat_list_cmp_total.antisymm n m ∙ ap ordering_reverse h)

-- the grid at an index is the grid of the name at that index
pub grid_of_position : (s : Scene) → IsStrictlySortedBy cmp (map (λ e. e.0) s) → (i : ℕ) (e : List ℕ × Grid) → slice_get s i ≡ Some e → grid_at s e.0 ≡ Some e.1
unfolding IsStrictlySortedBy
grid_of_position [] sorted i e h = cc
grid_of_position (x ∷ xs) sorted zero e h =
    let same = same_some x e h in
    subst (λ (y : List ℕ × Grid). lookup (is_named y.0) (x ∷ xs) ≡ Some y.1) same (ap (λ b. cond b (Some x.1) (lookup (is_named x.0) xs)) (itself_at x.0))
grid_of_position (x ∷ xs) sorted (suc i) e h =
    let below = image_at (λ (y : List ℕ × Grid). y.0) (λ n. cmp x.0 n ≡ Less) xs i e h sorted.0 in
    ap (λ b. cond b (Some x.1) (lookup (is_named e.0) xs)) (before_at x.0 e.0 below) ∙ grid_of_position xs sorted.1 i e h

-- the name at an index is the name of the entry there
pub name_of_position : (s : Scene) (i : ℕ) (e : List ℕ × Grid) → slice_get s i ≡ Some e → slice_get (map (λ e. e.0) s) i ≡ Some e.0
name_of_position [] i e h = cc
name_of_position (x ∷ xs) zero e h = ap (λ o. option_map (λ (y : List ℕ × Grid). y.0) o) h
name_of_position (x ∷ xs) (suc i) e h = name_of_position xs i e h

-- if an option's image is none, the option has no item
pub not_there : {A B : Type 0} (f : A → B) (o : Option A) (x : A) → ◌≡◌ {A = Option B} None (option_map f o) → o ≡ Some x → ⊥
not_there f o x e h = let k = e ∙ ap (option_map f) h in cc

-- if an option has an item, the option's image is the item's image
pub made_there : {A B : Type 0} (f : A → B) (o : Option A) (x : A) (y : B) → ◌≡◌ {A = Option B} (Some y) (option_map f o) → o ≡ Some x → y ≡ f x
made_there f o x y e h = same_some y (f x) (e ∙ ap (option_map f) h)

-- a grid given by its parts has this encoding
pub parts_same : (name : List ℕ) (g : Grid) (f : Field Scalar) (limit : ℕ) (pairs : Pairs) → f ≡ g.field → limit ≡ g.limit → pairs ≡ g.pairs
    → counted name ++ (kind_bytes f.background ++ ((to_be_bytes w32 limit ++ pairs_bytes pairs) ++ roots_bytes scalar_eq scalar_bytes vdb f)) ≡ grid_bytes head_bytes (name, g)
parts_same name g f limit pairs e h k =
    ap (λ (d : Field Scalar). counted name ++ (kind_bytes d.background ++ ((to_be_bytes w32 limit ++ pairs_bytes pairs) ++ roots_bytes scalar_eq scalar_bytes vdb d))) e
    ∙ ap (λ n. counted name ++ (kind_bytes g.field.background ++ ((to_be_bytes w32 n ++ pairs_bytes pairs) ++ roots_bytes scalar_eq scalar_bytes vdb g.field))) h
    ∙ ap (λ ps. counted name ++ (kind_bytes g.field.background ++ ((to_be_bytes w32 g.limit ++ pairs_bytes ps) ++ roots_bytes scalar_eq scalar_bytes vdb g.field))) k
