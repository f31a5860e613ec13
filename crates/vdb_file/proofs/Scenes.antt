-- The bytes of a file determine the scene that it encodes.
use Rattle.vdb_file.proofs.Common.{◌≡◌, inl, inr, ℕ, ◌<◌, ◌≤◌, ◌^◌, true, List, [], ◌∷◌, ◌++◌, length, refl, sym, subst, ◌∙◌, append-nil, arith, codes, AllByRecursion, flat_map, w16, to_be_bytes, vdb, Kind, roots, Field, kind_of, scalar_bytes, scalar_eq, Grid, Scene, Scalar, roots_bytes, IsField, IsGrid, IsScene, is_value_of, IsFileOf, IsOldGrid, file_bytes, grid_bytes, head_bytes, spelling}
use Rattle.vdb_file.proofs.Unambiguous.{IsCode, Says, says_all, says_behind, says_fixed, says_map, says_then, says_whole}
use Rattle.vdb_file.proofs.Numbers.{says_counted, says_u16, says_u32}
use Rattle.vdb_scene.proofs.ScalarValues.{scalar_exact, scalar_itself}
use Rattle.vdb_file.proofs.Values.{says_kinded, says_scalar}
use Rattle.vdb_file.proofs.Agreement.{AreAlike, AreValues}
use Rattle.vdb_file.proofs.Roots.{same_field, says_roots}
use Rattle.vdb_file.proofs.Pairs.{says_pairs}
use Rattle.vdb_file.proofs.Standard.{standard_bits}

-- the values of one type
pub scalar_values : (k : Kind) → AreValues scalar_eq scalar_bytes (λ v. is_value_of k v ≡ true)
scalar_values k = record { exact = scalar_exact; itself = scalar_itself; code = says_scalar k }

-- two fields of one background have its type
pub alike_fields : (f g : Field Scalar) → f.background ≡ g.background → IsField f → IsField g → AreAlike (λ v. is_value_of (kind_of g.background) v ≡ true) f g
alike_fields f g e is_f is_g = record {
  background = e;
  left = λ p. subst (λ v. is_value_of (kind_of v) (f.cell p).value ≡ true) e (is_f.values p);
  right = is_g.values;
}

-- the root blocks of fields that grids may have, if their backgrounds are equal
pub says_field : (f g : Field Scalar) → f.background ≡ g.background → IsField f → IsField g → roots scalar_eq vdb f ≤ 65536 → roots scalar_eq vdb g ≤ 65536
    → Says (roots_bytes scalar_eq scalar_bytes vdb f) (roots_bytes scalar_eq scalar_bytes vdb g) (f ≡ g)
says_field f g e is_f is_g few_f few_g =
    says_map (λ agree. same_field f g e agree is_f.outside is_g.outside)
    (says_roots (scalar_values (kind_of g.background)) vdb standard_bits f g (alike_fields f g e is_f is_g) (omega (arith, few_f)) (omega (arith, few_g)))

-- ---- grids

-- a version of files: the part between the background and the root blocks determines the limit and the pairs
pub record IsVersion (P : List ℕ × Grid → Type 0) (head : Grid → List ℕ) : Type 0 where
  pub grid : (e : List ℕ × Grid) → P e → IsGrid e
  pub says : (d e : List ℕ × Grid) → P d → P e → Says (head d.1) (head e.1) ((d.1.limit ≡ e.1.limit) × (d.1.pairs ≡ e.1.pairs))

-- a grid has no more root blocks than any limit allows
few_roots : (e : List ℕ × Grid) → IsGrid e → roots scalar_eq vdb e.1.field ≤ 65536
few_roots e is = let r = is.roots in let l = is.limited in omega (arith, r, l)

-- the bytes of a grid determine its name, its field, its limit and its pairs
pub says_grid : {P : List ℕ × Grid → Type 0} {head : Grid → List ℕ} → IsVersion P head → IsCode P (grid_bytes head)
says_grid version d e pd pe =
    let is_d = version.grid d pd in
    let is_e = version.grid e pe in
    says_map (λ r. λ j. (r.0 j, record { field = r.1.1.1 j; limit = r.1.1.0.0 j; pairs = r.1.1.0.1 j }))
    (says_then (says_counted d.0 e.0)
    (λ _. says_then (says_kinded d.1.field.background e.1.field.background is_d.field.background is_e.field.background)
    (λ same. says_then (version.says d e pd pe)
    (λ _. says_field d.1.field e.1.field same is_d.field is_e.field (few_roots d is_d) (few_roots e is_e)))))

-- version 2 has bytes for the limit and the pairs
pub new_version : IsVersion IsGrid head_bytes
new_version = record {
  grid = λ e is. is;
  says = λ d e is_d is_e.
      let small : (e : List ℕ × Grid) → IsGrid e → e.1.limit < 2 ^ 32 = λ e is. let l = is.limited in omega (arith, l) in
      says_then (says_u32 d.1.limit e.1.limit (small d is_d) (small e is_e)) (λ _. says_pairs d.1.pairs e.1.pairs);
}

-- version 1 has no bytes there, since its limit and pairs are fixed
pub old_version : IsVersion (λ e. IsGrid e × IsOldGrid e) (λ g. [])
old_version = record {
  grid = λ e is. is.0;
  says = λ d e is_d is_e. says_map (λ _. (is_d.1.limit ∙ sym is_e.1.limit, is_d.1.pairs ∙ sym is_e.1.pairs)) (says_fixed [] [] refl);
}

-- ---- scenes

-- the count of the grids, and then the grids
pub says_grids : {P : List ℕ × Grid → Type 0} {head : Grid → List ℕ} → IsVersion P head → (s t : Scene) → length s ≤ 64 → length t ≤ 64 → AllByRecursion P s → AllByRecursion P t
    → Says (to_be_bytes w16 (length s) ++ flat_map (grid_bytes head) s) (to_be_bytes w16 (length t) ++ flat_map (grid_bytes head) t) (s ≡ t)
says_grids {P = P} {head = head} version s t few_s few_t all_s all_t =
    says_behind (says_u16 (length s) (length t) (omega (arith, few_s)) (omega (arith, few_t))) (λ l. says_all P (grid_bytes head) (says_grid version) s t l all_s all_t)

-- files of one version
pub says_file : {P : List ℕ × Grid → Type 0} {head : Grid → List ℕ} → IsVersion P head → (n : ℕ) (s t : Scene) → length s ≤ 64 → length t ≤ 64 → AllByRecursion P s → AllByRecursion P t
    → Says (file_bytes n head s) (file_bytes n head t) (s ≡ t)
says_file version n s t few_s few_t all_s all_t =
    says_behind (says_fixed (codes "VDBS") (codes "VDBS") refl) (λ _. says_behind (says_fixed (to_be_bytes w16 n) (to_be_bytes w16 n) refl) (λ _. says_grids version s t few_s few_t all_s all_t))

-- files of two versions
pub says_versions : {C : Type 0} (m n : ℕ) (head other : Grid → List ℕ) (s t : Scene) → m < 2 ^ 16 → n < 2 ^ 16 → (m ≡ n → ⊥) → Says (file_bytes m head s) (file_bytes n other t) C
says_versions m n head other s t small_m small_n differ = says_behind (says_fixed (codes "VDBS") (codes "VDBS") refl) (λ _. says_behind (says_u16 m n small_m small_n) (λ e. absurd (differ e)))

-- the encodings of two scenes
pub says_spelling : (s t : Scene) → IsScene s → IsScene t → Says (spelling s) (spelling t) (s ≡ t)
says_spelling s t is_s is_t = says_file new_version 2 s t is_s.few is_t.few is_s.grids is_t.grids

-- two facts about each item of a list, as one
both_all : {A : Type 0} (P Q : A → Type 0) (xs : List A) → AllByRecursion P xs → AllByRecursion Q xs → AllByRecursion (λ x. P x × Q x) xs
both_all P Q [] ps qs = tt
both_all P Q (x ∷ xs) ps qs = ((ps.0, qs.0), both_all P Q xs ps.1 qs.1)

-- the encodings of two scenes in version 1
pub says_old_spelling : (s t : Scene) → IsScene s → IsScene t → AllByRecursion IsOldGrid s → AllByRecursion IsOldGrid t → Says (file_bytes 1 (λ g. []) s) (file_bytes 1 (λ g. []) t) (s ≡ t)
says_old_spelling s t is_s is_t old_s old_t = says_file old_version 1 s t is_s.few is_t.few (both_all IsGrid IsOldGrid s is_s.grids old_s) (both_all IsGrid IsOldGrid t is_t.grids old_t)

-- ---- files

-- a file that begins another is equal to it, and so are their scenes
pub one_file : (bytes rest : List ℕ) (a b : Scene) → IsScene a → IsScene b → IsFileOf bytes a → IsFileOf (bytes ++ rest) b → (a ≡ b) × (rest ≡ [])
one_file bytes rest a b is_a is_b (inl new_a) (inl new_b) = says_whole bytes rest (says_spelling a b is_a is_b) new_a.0 new_b.0
one_file bytes rest a b is_a is_b (inl new_a) (inr old_b) = says_whole bytes rest (says_versions 2 1 head_bytes (λ g. []) a b (omega arith) (omega arith) (λ e. cc)) new_a.0 old_b.same
one_file bytes rest a b is_a is_b (inr old_a) (inl new_b) = says_whole bytes rest (says_versions 1 2 (λ g. []) head_bytes a b (omega arith) (omega arith) (λ e. cc)) old_a.same new_b.0
one_file bytes rest a b is_a is_b (inr old_a) (inr old_b) = says_whole bytes rest (says_old_spelling a b is_a is_b old_a.grids old_b.grids) old_a.same old_b.same

-- the bytes of a file encode one scene
pub one_scene : (bytes : List ℕ) (a b : Scene) → IsScene a → IsScene b → IsFileOf bytes a → IsFileOf bytes b → a ≡ b
one_scene bytes a b is_a is_b file_a file_b = (one_file bytes [] a b is_a is_b file_a (subst (λ t. IsFileOf t b) (sym (append-nil bytes)) file_b)).0

-- no file is the beginning of another
pub no_prefix : (bytes rest : List ℕ) (a b : Scene) → IsScene a → IsScene b → IsFileOf bytes a → IsFileOf (bytes ++ rest) b → rest ≡ []
no_prefix bytes rest a b is_a is_b file_a file_b = (one_file bytes rest a b is_a is_b file_a file_b).1
