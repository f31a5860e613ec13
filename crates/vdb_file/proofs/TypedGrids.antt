-- Converts a grid of one type of values to a grid of any type, and back.
use Rattle.vdb_file.proofs.Common.{◌≡◌, ℕ, ◌≤◌, Bool, true, false, List, [], ◌∷◌, ◌++◌, length, refl, sym, ap, subst, ◌∙◌, inl, inr, cases_Bool, vdb, everywhere, is_inside, Coord, Cell, Kind, roots, Field, as_field_of, field, off, Layout, field_of, Pairs, kind_of, scalar_bytes, scalar_eq, Grid, Scalar, roots_bytes, IsField, is_value_of, kind_bytes, kind_code, IsBody, IsLoadedGrid, LoadedGrid, body_bytes, head_code, head_of, loaded_bytes, Fails, Position, Took, LoadFault, Version}
use Rattle.vdb_tree.specs.Field.{as_cell_of}
use Rattle.vdb_file.specs.internal.Parts.{loaded}
use Rattle.vdb_file.proofs.Fronts.{fails_after, fails_turn, took_both}
use Rattle.vdb_file.proofs.MadeBodies.{made_keys, made_roots}
use Rattle.vdb_file.proofs.Values.{says_kind}

-- a type of values among all types
pub record IsKind {V : Type 0} (IsValue : V → Type 0) (eq : V → V → Bool) (bytes : V → List ℕ) (kind : Kind) (make : V → Scalar) (back : Scalar → V) : Type 0 where
  pub same_eq : (v w : V) → scalar_eq (make v) (make w) ≡ eq v w
  pub same_bytes : (v : V) → scalar_bytes (make v) ≡ bytes v
  pub same_kind : (v : V) → kind_of (make v) ≡ kind
  pub value : (v : V) → IsValue v → is_value_of kind (make v) ≡ true
  pub back_value : (s : Scalar) → is_value_of kind s ≡ true → IsValue (back s)
  pub there_again : (s : Scalar) → is_value_of kind s ≡ true → make (back s) ≡ s

-- a cell of a converted field
made_inside : {V : Type 0} (background : V) (cells : Coord → Cell V) (p : Coord) → is_inside everywhere p ≡ true → (field background cells).cell p ≡ cells p
made_inside background cells p e = rw e refl

made_outside : {V : Type 0} (background : V) (cells : Coord → Cell V) (p : Coord) → is_inside everywhere p ≡ false → (field background cells).cell p ≡ off background
made_outside background cells p e = rw e refl

-- a field that is background beyond the coordinates is built from its own cells
own_field : {V : Type 0} (f : Field V) → ((p : Coord) → is_inside everywhere p ≡ false → f.cell p ≡ off f.background) → field f.background f.cell ≡ f
own_field f outside = λ j. record { background = f.background; cell = λ p. cells p j }
  where
    cells : (p : Coord) → (field f.background f.cell).cell p ≡ f.cell p
    cells p =
        elim (cases_Bool (is_inside everywhere p)) [
          | inl e ↦ made_inside f.background f.cell p e
          | inr e ↦ made_outside f.background f.cell p e ∙ sym (outside p e)
        ]

module _ {V : Type 0} (IsValue : V → Type 0) (eq : V → V → Bool) (bytes : V → List ℕ) (kind : Kind) (make : V → Scalar) (back : Scalar → V) (is : IsKind IsValue eq bytes kind make back) where
  -- the grid with each value converted to a scalar of any type
  abbrev pub made_grid : LoadedGrid V → Grid
  made_grid g = record { field = as_field_of make g.field; limit = g.head.limit; pairs = g.head.pairs }

  -- the converted grid has the same root blocks and bytes
  same_roots : (f : Field V) → ((p : Coord) → is_inside everywhere p ≡ false → f.cell p ≡ off f.background) → roots scalar_eq vdb (as_field_of make f) ≡ roots eq vdb f
  same_roots f outside =
      subst (λ (d : Field V). roots scalar_eq vdb (as_field_of make d) ≡ roots eq vdb d) (own_field f outside)
      (ap length (made_keys make f.background f.cell eq scalar_eq is.same_eq bytes scalar_bytes is.same_bytes vdb))

  same_text : (f : Field V) → ((p : Coord) → is_inside everywhere p ≡ false → f.cell p ≡ off f.background) → roots_bytes scalar_eq scalar_bytes vdb (as_field_of make f) ≡ roots_bytes eq bytes vdb f
  same_text f outside =
      subst (λ (d : Field V). roots_bytes scalar_eq scalar_bytes vdb (as_field_of make d) ≡ roots_bytes eq bytes vdb d) (own_field f outside)
      (made_roots make f.background f.cell eq scalar_eq is.same_eq bytes scalar_bytes is.same_bytes vdb)

  -- the converted values have the type
  made_values : (f : Field V) → IsValue f.background → ((p : Coord) → IsValue (f.cell p).value) → (p : Coord) → is_value_of kind ((as_field_of make f).cell p).value ≡ true
  made_values f base each p =
      elim (cases_Bool (is_inside everywhere p)) [
        | inl e ↦ ap (λ (c : Cell Scalar). is_value_of kind c.value) (made_inside (make f.background) (λ q. as_cell_of make (f.cell q)) p e) ∙ is.value (f.cell p).value (each p)
        | inr e ↦ ap (λ (c : Cell Scalar). is_value_of kind c.value) (made_outside (make f.background) (λ q. as_cell_of make (f.cell q)) p e) ∙ is.value f.background base
      ]

  -- a loaded grid of the type gives a grid that the version may have
  pub made_body : (version : Version) (g : LoadedGrid V) → IsLoadedGrid IsValue eq bytes version g → IsBody version (made_grid g)
  made_body version g h = record {
    field = record {
      background = subst (λ k. is_value_of k (make g.field.background) ≡ true) (sym (is.same_kind g.field.background)) (is.value g.field.background h.value);
      values = λ p. subst (λ k. is_value_of k ((as_field_of make g.field).cell p).value ≡ true) (sym (is.same_kind g.field.background)) (made_values g.field h.value h.field.loaded.values.values p);
      outside = made_outside (make g.field.background) (λ q. as_cell_of make (g.field.cell q));
    };
    roots = subst (λ n. n ≤ g.head.limit) (sym (same_roots g.field h.field.loaded.outside)) h.field.few;
    head = h.head;
  }

  -- the converted grid has the same bytes
  pub made_text : (version : Version) (g : LoadedGrid V) → IsLoadedGrid IsValue eq bytes version g → kind_code kind ∷ loaded_bytes IsValue eq bytes version g ≡ body_bytes version (made_grid g)
  made_text version g h =
      ap (λ k. kind_code k ∷ loaded_bytes IsValue eq bytes version g) (sym (is.same_kind g.field.background))
      ∙ ap (λ t. kind_code (kind_of (make g.field.background)) ∷ (t ++ (head_code version g.head ++ roots_bytes eq bytes vdb g.field))) (sym (is.same_bytes g.field.background))
      ∙ ap (λ t. kind_bytes (make g.field.background) ++ (head_code version g.head ++ t)) (sym (same_text g.field h.field.loaded.outside))

  -- ---- the way back

  -- the grid with each value converted to the type
  abbrev typed : Grid → LoadedGrid V
  typed g = record { field = as_field_of back g.field; head = head_of g }

  -- converting a field of the type there and back changes nothing
  same_field_again : (f : Field Scalar) → IsField f → kind_of f.background ≡ kind → as_field_of make (as_field_of back f) ≡ f
  same_field_again f field_is same = λ j. record { background = base j; cell = λ p. cells p j }
    where
      base : make (back f.background) ≡ f.background
      base = is.there_again f.background (subst (λ k. is_value_of k f.background ≡ true) same field_is.background)

      cells : (p : Coord) → (as_field_of make (as_field_of back f)).cell p ≡ f.cell p
      cells p =
          elim (cases_Bool (is_inside everywhere p)) [
            | inl e ↦
                made_inside (make (back f.background)) (λ q. as_cell_of make ((as_field_of back f).cell q)) p e ∙ ap (as_cell_of make) (made_inside (back f.background) (λ q. as_cell_of back (f.cell q)) p e)
                ∙ (λ j. record { value = is.there_again (f.cell p).value (subst (λ k. is_value_of k (f.cell p).value ≡ true) same (field_is.values p)) j; on = (f.cell p).on })
            | inr e ↦ made_outside (make (back f.background)) (λ q. as_cell_of make ((as_field_of back f).cell q)) p e ∙ ap off base ∙ sym (field_is.outside p e)
          ]

  -- the values of the converted field have the type
  typed_values : (f : Field Scalar) → IsField f → kind_of f.background ≡ kind → (p : Coord) → IsValue ((as_field_of back f).cell p).value
  typed_values f field_is same p =
      elim (cases_Bool (is_inside everywhere p)) [
        | inl e ↦
            subst (λ (c : Cell V). IsValue c.value) (sym (made_inside (back f.background) (λ q. as_cell_of back (f.cell q)) p e))
            (is.back_value (f.cell p).value (subst (λ k. is_value_of k (f.cell p).value ≡ true) same (field_is.values p)))
        | inr e ↦
            subst (λ (c : Cell V). IsValue c.value) (sym (made_outside (back f.background) (λ q. as_cell_of back (f.cell q)) p e))
            (is.back_value f.background (subst (λ k. is_value_of k f.background ≡ true) same field_is.background))
      ]

  typed_outside : (f : Field Scalar) (p : Coord) → is_inside everywhere p ≡ false → (as_field_of back f).cell p ≡ off (back f.background)
  typed_outside f p e = made_outside (back f.background) (λ q. as_cell_of back (f.cell q)) p e

  typed_loaded : (version : Version) (g : Grid) → IsBody version g → kind_of g.field.background ≡ kind → IsLoadedGrid IsValue eq bytes version (typed g)
  typed_loaded version g h same = record {
    value = is.back_value g.field.background (subst (λ k. is_value_of k g.field.background ≡ true) same h.field.background);
    head = h.head;
    field = record {
      loaded = record { values = record { same = refl; values = typed_values g.field h.field same }; outside = typed_outside g.field };
      few = subst (λ n. n ≤ g.limit) (sym (ap (roots scalar_eq vdb) (same_field_again g.field h.field same)) ∙ same_roots (as_field_of back g.field) (typed_outside g.field)) h.roots;
    };
  }

  -- the bytes of a grid after its KIND
  abbrev behind_kind : Version → Grid → List ℕ
  behind_kind version g = scalar_bytes g.field.background ++ (head_code version (head_of g) ++ roots_bytes scalar_eq scalar_bytes vdb g.field)

  typed_text : (version : Version) (g : Grid) → IsBody version g → kind_of g.field.background ≡ kind → behind_kind version g ≡ loaded_bytes IsValue eq bytes version (typed g)
  typed_text version g h same =
      let again = same_field_again g.field h.field same in
      ap (λ (f : Field Scalar). scalar_bytes f.background ++ (head_code version (head_of g) ++ roots_bytes scalar_eq scalar_bytes vdb f)) (sym again)
      ∙ ap (λ t. t ++ (head_code version (head_of g) ++ roots_bytes scalar_eq scalar_bytes vdb (as_field_of make (as_field_of back g.field)))) (is.same_bytes (back g.field.background))
      ∙ ap (λ t. bytes (back g.field.background) ++ (head_code version (head_of g) ++ t)) (same_text (as_field_of back g.field) (typed_outside g.field))

  -- the KIND was read, and no such grid is ahead
  pub no_typed : (version : Version) (fault : LoadFault) (old mid : Position) → Took old mid (kind_code kind ∷ []) → Fails (IsLoadedGrid IsValue eq bytes version) (loaded_bytes IsValue eq bytes version) fault mid
      → Fails (IsBody version) (body_bytes version) fault old
  no_typed version fault old mid took h =
      fails_after (IsBody version) (body_bytes version) (kind_code kind ∷ []) (λ g. kind ≡ kind_of g.field.background) (λ g. kind_code (kind_of g.field.background) ∷ []) (behind_kind version) fault old mid took
      (λ g p. says_kind kind (kind_of g.field.background)) (λ g p. refl)
      (fails_turn (λ g. IsBody version g × (kind ≡ kind_of g.field.background)) (behind_kind version) (IsLoadedGrid IsValue eq bytes version) (loaded_bytes IsValue eq bytes version) typed fault mid
      (λ g p. typed_loaded version g p.0 (sym p.1)) (λ g p. typed_text version g p.0 (sym p.1)) h)

  -- the KIND and the grid were read
  pub typed_read : (version : Version) (old mid new : Position) (g : LoadedGrid V) → Took old mid (kind_code kind ∷ []) → IsLoadedGrid IsValue eq bytes version g → Took mid new (loaded_bytes IsValue eq bytes version g)
      → IsBody version (made_grid g) × Took old new (body_bytes version (made_grid g))
  typed_read version old mid new g first h more =
      (made_body version g h, subst (Took old new) (made_text version g h) (took_both old mid new (kind_code kind ∷ []) (loaded_bytes IsValue eq bytes version g) first more))

  -- the grid of a tree, with metadata pairs
  abbrev tree_grid : Layout V → Pairs → Grid
  tree_grid t pairs = record { field = as_field_of make (field_of vdb t); limit = t.limit; pairs = pairs }

  -- the KIND and the tree were read
  pub tree_typed : (version : Version) (old mid new : Position) (t u : Layout V) (pairs : Pairs) → u ≡ t → Took old mid (kind_code kind ∷ []) → IsLoadedGrid IsValue eq bytes version (loaded t pairs)
      → Took mid new (loaded_bytes IsValue eq bytes version (loaded t pairs)) → IsBody version (tree_grid u pairs) × Took old new (body_bytes version (tree_grid u pairs))
  tree_typed version old mid new t u pairs e first h more =
      subst (λ (w : Layout V). IsBody version (tree_grid w pairs) × Took old new (body_bytes version (tree_grid w pairs))) (sym e) (typed_read version old mid new (loaded t pairs) first h more)
