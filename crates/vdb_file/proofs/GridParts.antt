-- Reads grids.
use Rattle.vdb_file.proofs.Common.{◌≡◌, ℕ, ◌<◌, ◌≤◌, ◌^◌, Bool, List, [], ◌∷◌, ◌++◌, refl, sym, subst, ◌∙◌, arith, Option, ⊤, vdb, Kind, Field, kind_of, scalar_bytes, scalar_eq, Grid, roots_bytes, IsGrid, counted, kind_code, IsBody, IsItem, IsLoadedGrid, IsNamed, LoadedGrid, body_bytes, head_code, head_of, loaded_bytes, name_of, named_bytes, IsWithin, Fails, Position, Took, LoadFault, Version, One, Two}
use Rattle.vdb_value.specs.declared.Kind.TheVariants as kinds
use Rattle.vdb_file.specs.internal.Parts.{Head, IsHead, IsNext}
use Rattle.vdb_file.proofs.Unambiguous.{IsCode, Says, says_byte, says_fixed, says_map, says_then}
use Rattle.vdb_file.proofs.Numbers.{says_counted, says_u32}
use Rattle.vdb_file.proofs.Pairs.{says_pairs}
use Rattle.vdb_file.proofs.Scenes.{IsVersion, says_grid}
use Rattle.vdb_file.proofs.Fronts.{fails_after, fails_first, fails_none, fails_turn, took_both}

-- ---- the bytes of a head determine it

small_limit : (n : ℕ) → n ≤ 65536 → n < 2 ^ 32
small_limit n h = omega (arith, h)

pub says_head : (version : Version) (d e : Head) → IsHead version d → IsHead version e → Says (head_code version d) (head_code version e) ((d.limit ≡ e.limit) × (d.pairs ≡ e.pairs))
says_head One d e is_d is_e = says_map (λ _. (is_d.old.0 ∙ sym is_e.old.0, is_d.old.1 ∙ sym is_e.old.1)) (says_fixed [] [] refl)
says_head Two d e is_d is_e = says_then (says_u32 d.limit e.limit (small_limit d.limit is_d.limited) (small_limit e.limit is_e.limited)) (λ _. says_pairs d.pairs e.pairs)

-- a named grid of a version is a grid
pub named_grid : (version : Version) (e : List ℕ × Grid) → IsNamed version e → IsGrid e
named_grid version e h = record { name = h.name; field = h.body.field; positive = h.body.head.positive; limited = h.body.head.limited; roots = h.body.roots; pairs = h.body.head.pairs }

pub is_version : (version : Version) → IsVersion (IsNamed version) (λ g. head_code version (head_of g))
is_version version = record { grid = named_grid version; says = λ d e pd pe. says_head version (head_of d.1) (head_of e.1) pd.body.head pe.body.head }

-- the bytes of a named grid determine it
pub named_code : (version : Version) → IsCode (IsNamed version) (named_bytes version)
named_code version = says_grid (is_version version)

-- ---- a grid of one type

-- a field within one limit is within another if backgrounds and limits are equal
pub within_same : {V : Type 0} (eq : V → V → Bool) (IsValue : V → Type 0) (f : Field V) (base other : V) (limit most : ℕ) → base ≡ other → limit ≡ most → IsWithin eq IsValue base vdb limit f → IsWithin eq IsValue other vdb most f
within_same eq IsValue f base other limit most e l h = subst (λ n. IsWithin eq IsValue other vdb n f) l (subst (λ v. IsWithin eq IsValue v vdb limit f) e h)

module _ {V : Type 0} (IsValue : V → Type 0) (eq : V → V → Bool) (bytes : V → List ℕ) (code : IsCode IsValue bytes) (version : Version) (fault : LoadFault) (old : Position) where
  abbrev Is : LoadedGrid V → Type 0
  Is = IsLoadedGrid IsValue eq bytes version

  abbrev text : LoadedGrid V → List ℕ
  text = loaded_bytes IsValue eq bytes version

  abbrev behind : LoadedGrid V → List ℕ
  behind g = head_code version g.head ++ roots_bytes eq bytes vdb g.field

  abbrev the_roots : LoadedGrid V → List ℕ
  the_roots g = roots_bytes eq bytes vdb g.field

  -- no background is ahead
  pub no_background : Fails IsValue bytes fault old → Fails Is text fault old
  no_background h = fails_first Is text IsValue bytes (λ g. g.field.background) behind fault old (λ g p. p.value) (λ g p. refl) h

  module _ (one : Position) (background : V) (value : IsValue background) (took : Took old one (bytes background)) where
    after_background : Fails (λ g. Is g × (background ≡ g.field.background)) behind fault one → Fails Is text fault old
    after_background h = fails_after Is text (bytes background) (λ g. background ≡ g.field.background) (λ g. bytes g.field.background) behind fault old one took (λ g p. code background g.field.background value p.value) (λ g p. refl) h

    -- no limit and pairs are ahead
    pub no_head : Fails (IsHead version) (head_code version) fault one → Fails Is text fault old
    no_head h =
        after_background (fails_first (λ g. Is g × (background ≡ g.field.background)) behind (IsHead version) (head_code version) (λ g. g.head) the_roots fault one (λ g p. p.0.head) (λ g p. refl) h)

    -- no root blocks are ahead
    pub no_roots : (two : Position) (head : Head) (base : V) (limit : ℕ) → base ≡ background → limit ≡ head.limit → IsHead version head → Took one two (head_code version head)
        → Fails (IsWithin eq IsValue base vdb limit) (roots_bytes eq bytes vdb) fault two → Fails Is text fault old
    no_roots two head base limit e l is more h =
        after_background (fails_after (λ g. Is g × (background ≡ g.field.background)) behind (head_code version head) (λ g. (head.limit ≡ g.head.limit) × (head.pairs ≡ g.head.pairs)) (λ g. head_code version g.head) the_roots fault one two more
        (λ g p. says_head version head g.head is p.0.head) (λ g p. refl)
        (fails_turn (λ g. (Is g × (background ≡ g.field.background)) × ((head.limit ≡ g.head.limit) × (head.pairs ≡ g.head.pairs))) the_roots (IsWithin eq IsValue base vdb limit) (roots_bytes eq bytes vdb) (λ g. g.field) fault two
        (λ g p. within_same eq IsValue g.field g.field.background base g.head.limit limit (sym p.0.1 ∙ sym e) (sym (l ∙ p.1.0)) p.0.0.field)
        (λ g p. refl) h))

-- the whole grid was read
pub tree_read : {V : Type 0} (IsValue : V → Type 0) (eq : V → V → Bool) (bytes : V → List ℕ) (version : Version) (old one two new : Position) (background base : V) (limit most : ℕ) (head : Head) (f : Field V)
    → base ≡ background → limit ≡ head.limit → most ≡ limit → IsValue background → IsHead version head → IsWithin eq IsValue base vdb limit f
    → Took old one (bytes background) → Took one two (head_code version head) → Took two new (roots_bytes eq bytes vdb f)
    → let g : LoadedGrid V = record { field = f; head = record { limit = most; pairs = head.pairs } } in IsLoadedGrid IsValue eq bytes version g × Took old new (loaded_bytes IsValue eq bytes version g)
tree_read IsValue eq bytes version old one two new background base limit most head f e l m value is field first second third =
    let same : background ≡ f.background = sym e ∙ sym field.loaded.values.same in
    let again : head ≡ record { limit = most; pairs = head.pairs } = λ j. record { limit = sym (m ∙ l) j; pairs = head.pairs } in (
      record {
        value = subst IsValue same value;
        head = subst (IsHead version) again is;
        field = within_same eq IsValue f base f.background limit most (sym field.loaded.values.same) (sym m) field;
      },
      subst (λ v. Took old new (bytes v ++ (head_code version (record { limit = most; pairs = head.pairs }) ++ roots_bytes eq bytes vdb f))) same
          (took_both old one new (bytes background) _ first (took_both one two new (head_code version (record { limit = most; pairs = head.pairs })) (roots_bytes eq bytes vdb f) (subst (λ h. Took one two (head_code version h)) again second) third)),
    )

-- ---- the KIND

module _ (version : Version) (fault : LoadFault) (old : Position) where
  -- no KIND is ahead
  pub no_kind : Fails (λ n. ⊤) (λ n. n ∷ []) fault old → Fails (IsBody version) (body_bytes version) fault old
  no_kind h = fails_first (IsBody version) (body_bytes version) (λ n. ⊤) (λ n. n ∷ []) (λ g. kind_code (kind_of g.field.background)) (λ g. scalar_bytes g.field.background ++ (head_code version (head_of g) ++ roots_bytes scalar_eq scalar_bytes vdb g.field)) fault old (λ g p. tt) (λ g p. refl) h

  -- a number that is no KIND was read
  pub other_kind : (mid : Position) (n : ℕ) → Took old mid (n ∷ []) → (n ≡ 0 → ⊥) → (n ≡ 1 → ⊥) → (n ≡ 2 → ⊥) → Fails (IsBody version) (body_bytes version) fault old
  other_kind mid n took not_zero not_one not_two =
      fails_after (IsBody version) (body_bytes version) (n ∷ []) (λ g. n ≡ kind_code (kind_of g.field.background)) (λ g. kind_code (kind_of g.field.background) ∷ []) (λ g. scalar_bytes g.field.background ++ (head_code version (head_of g) ++ roots_bytes scalar_eq scalar_bytes vdb g.field)) fault old mid took
      (λ g p. says_byte n (kind_code (kind_of g.field.background))) (λ g p. refl)
      (fails_none (λ g. IsBody version g × (n ≡ kind_code (kind_of g.field.background))) (λ g. scalar_bytes g.field.background ++ (head_code version (head_of g) ++ roots_bytes scalar_eq scalar_bytes vdb g.field)) fault mid (λ g p. none (kind_of g.field.background) p.1))
    where
      none : (k : Kind) → n ≡ kind_code k → ⊥
      none kinds.Bool e = not_zero e
      none kinds.I32 e = not_one e
      none kinds.I64 e = not_two e

-- ---- a grid with its name

module _ (version : Version) (before : Option (List ℕ)) (fault : LoadFault) (old : Position) where
  -- no name is ahead
  pub no_grid_name : Fails (IsNext before) counted fault old → Fails (IsItem (IsNamed version) name_of before) (named_bytes version) fault old
  no_grid_name h = fails_first (IsItem (IsNamed version) name_of before) (named_bytes version) (IsNext before) counted (λ e. e.0) (λ e. body_bytes version e.1) fault old (λ e p. record { form = p.has.name; rises = p.rises }) (λ e p. refl) h

  -- no grid is ahead
  pub no_grid_body : (mid : Position) (name : List ℕ) → Took old mid (counted name) → Fails (IsBody version) (body_bytes version) fault mid → Fails (IsItem (IsNamed version) name_of before) (named_bytes version) fault old
  no_grid_body mid name took h =
      fails_after (IsItem (IsNamed version) name_of before) (named_bytes version) (counted name) (λ e. name ≡ e.0) (λ e. counted e.0) (λ e. body_bytes version e.1) fault old mid took (λ e p. says_counted name e.0) (λ e p. refl)
      (fails_turn (λ e. IsItem (IsNamed version) name_of before e × (name ≡ e.0)) (λ e. body_bytes version e.1) (IsBody version) (body_bytes version) (λ e. e.1) fault mid (λ e p. p.0.has.body) (λ e p. refl) h)

-- the name and the grid were read
pub named_read : (version : Version) (before : Option (List ℕ)) (old mid new : Position) (name : List ℕ) (g : Grid) → IsNext before name → IsBody version g → Took old mid (counted name) → Took mid new (body_bytes version g)
    → IsItem (IsNamed version) name_of before (name, g) × Took old new (named_bytes version (name, g))
named_read version before old mid new name g next body first more =
    (record { has = record { name = next.form; body = body }; rises = next.rises }, took_both old mid new (counted name) (body_bytes version g) first more)
