-- What is known of all bytes of a reader after a file was read from it, or not.
use Rattle.vdb_file.proofs.Common.{◌≡◌, inl, inr, ℕ, ◌<◌, ◌≤◌, List, [], ◌∷◌, ◌++◌, length, refl, sym, ap, subst, ◌∙◌, append-nil, arith, Option, Some, None, IfSome, AllByRecursion, Consumes, IsAtEnd, Keeps, prepend_known, Grid, Scene, BeginsAsFile, Claims, IsGrid, IsScene, IsFileOf, IsOldGrid, IsFile, IsNamed, IsSceneOf, bytes_of_file, Fails, Position, Took, LoadFault, Version, One, Two}
use Rattle.vdb_file.specs.Scenes.{BeginsWithFile, EndsEarly}
use Rattle.vdb_file.proofs.Fronts.{some_turn}
use Rattle.vdb_file.proofs.GridParts.{named_grid}
use Rattle.vdb_file.proofs.Scenes.{no_prefix}

-- ---- scenes and files of a version

-- what each item of a list has, by a property that it already has
all_map : {A : Type 0} (P Q : A → Type 0) → ((a : A) → P a → Q a) → (xs : List A) → AllByRecursion P xs → AllByRecursion Q xs
all_map P Q f [] ps = tt
all_map P Q f (x ∷ xs) ps = (f x ps.0, all_map P Q f xs ps.1)

both_map : {A : Type 0} (P Q R : A → Type 0) → ((a : A) → P a → Q a → R a) → (xs : List A) → AllByRecursion P xs → AllByRecursion Q xs → AllByRecursion R xs
both_map P Q R f [] ps qs = tt
both_map P Q R f (x ∷ xs) ps qs = (f x ps.0 qs.0, both_map P Q R f xs ps.1 qs.1)

-- a scene of a version is a scene
pub scene_is : (version : Version) (s : Scene) → IsSceneOf version s → IsScene s
scene_is version s h = record { few = h.few; in_order = h.in_order; grids = all_map (IsNamed version) IsGrid (named_grid version) s h.grids }

-- each scene is a scene of version 2
new_named : (e : List ℕ × Grid) → IsGrid e → IsNamed Two e
new_named e h = record { name = h.name; body = record { field = h.field; roots = h.roots; head = record { positive = h.positive; limited = h.limited; pairs = h.pairs; old = tt } } }

new_scene : (s : Scene) → IsScene s → IsSceneOf Two s
new_scene s h = record { few = h.few; in_order = h.in_order; grids = all_map IsGrid (IsNamed Two) new_named s h.grids }

-- a scene that version 1 can hold is a scene of version 1
old_named : (e : List ℕ × Grid) → IsGrid e → IsOldGrid e → IsNamed One e
old_named e h o = record { name = h.name; body = record { field = h.field; roots = h.roots; head = record { positive = h.positive; limited = h.limited; pairs = h.pairs; old = (o.limit, o.pairs) } } }

old_scene : (s : Scene) → IsScene s → AllByRecursion IsOldGrid s → IsSceneOf One s
old_scene s h o = record { few = h.few; in_order = h.in_order; grids = both_map IsGrid IsOldGrid (IsNamed One) old_named s h.grids o }

old_grid : (e : List ℕ × Grid) → IsNamed One e → IsOldGrid e
old_grid e h = record { limit = h.body.head.old.0; pairs = h.body.head.old.1 }

-- the bytes of a file of a version are a file of its scene
pub file_of : (file : Version × Scene) (bytes : List ℕ) → IsFile file → bytes ≡ bytes_of_file file → length bytes ≤ 268435456 → IsFileOf bytes file.1
file_of (One, s) bytes h e short = inr (record { grids = all_map (IsNamed One) IsOldGrid old_grid s h.grids; same = e; short = short })
file_of (Two, s) bytes h e short = inl (e, short)

-- a file of a scene is a file of some version
pub of_version : (bytes : List ℕ) (s : Scene) → IsScene s → IsFileOf bytes s → (version : Version) × IsFile (version, s) × (bytes ≡ bytes_of_file (version, s)) × (length bytes ≤ 268435456)
of_version bytes s h (inl new) = (Two, new_scene s h, new.0, new.1)
of_version bytes s h (inr old) = (One, old_scene s h old.grids, old.same, old.short)

-- ---- all bytes of a reader

-- a fault that claims something about the bytes shows that they are no file
pub no_file : (fault : LoadFault) (known : Option (List ℕ)) → Fails IsFile bytes_of_file fault (record { known = prepend_known [] known; capacity = 268435456 })
    → Claims fault → IfSome known (λ bytes. (s : Scene) → IsScene s → IsFileOf bytes s → ⊥)
no_file fault None h claims = tt
no_file fault (Some bytes) h claims = λ s is file.
    let v = of_version bytes s is file in
    h.none claims (v.0, s) [] v.1 (subst (λ t. length t ≤ 268435456) v.2 v.3) (v.2 ∙ sym (append-nil (bytes_of_file (v.0, s))))

-- bytes that begin as a file does, and of which such a fault shows that no file is at their front
pub ends_early : (fault : LoadFault) (known : Option (List ℕ)) → Fails IsFile bytes_of_file fault (record { known = prepend_known [] known; capacity = 268435456 })
    → Claims fault → IfSome (prepend_known [] known) BeginsAsFile → IfSome known EndsEarly
ends_early fault None h claims begins = tt
ends_early fault (Some bytes) h claims begins = (
  begins,
  λ b.
      let v = of_version b.file b.scene b.is_scene b.is_file in
      h.none claims (v.0, b.scene) (b.byte ∷ b.rest) v.1 (subst (λ t. length t ≤ 268435456) v.2 v.3) (b.begins ∙ ap (λ t. t ++ (b.byte ∷ b.rest)) v.2),
)

-- all bytes were read
pub whole_file : (file : Version × Scene) (known : Option (List ℕ)) (mid : Position) → IsFile file → Took (record { known = prepend_known [] known; capacity = 268435456 }) mid (bytes_of_file file) → IsAtEnd mid.known
    → IfSome known (λ bytes. IsFileOf bytes file.1)
whole_file file None mid is took end = tt
whole_file file (Some bytes) mid is took end = more mid.known took.bytes end
  where
    more : (m : Option (List ℕ)) → Consumes (Some bytes) m (bytes_of_file file) → IsAtEnd m → IsFileOf bytes file.1
    more None c e = absurd c
    more (Some x) c e =
        let whole : bytes ≡ bytes_of_file file = c ∙ ap (λ t. bytes_of_file file ++ t) e ∙ append-nil (bytes_of_file file) in
        let few = took.fewer in
        file_of file bytes is whole (omega (arith, few, ap length whole))

-- all fields were read, and a byte follows them
pub file_and_more : (file : Version × Scene) (known rest : Option (List ℕ)) (mid : Position) (unread : List ℕ) → IsFile file → Took (record { known = prepend_known [] known; capacity = 268435456 }) mid (bytes_of_file file)
    → Keeps mid.known (prepend_known unread rest) → 0 < length unread → IfSome known BeginsWithFile
file_and_more file None rest mid unread is took kept some = tt
file_and_more file (Some bytes) rest mid unread is took kept some = more mid.known rest unread took.bytes kept some
  where
    more : (m r : Option (List ℕ)) (u : List ℕ) → Consumes (Some bytes) m (bytes_of_file file) → Keeps m (prepend_known u r) → 0 < length u → BeginsWithFile bytes
    more None r u c k h = absurd c
    more (Some x) None u c k h = absurd k
    more (Some x) (Some y) [] c k h = absurd (omega arith)
    more (Some x) (Some y) (b ∷ u) c k h =
        let few = took.fewer in
        record {
          scene = file.1;
          file = bytes_of_file file;
          byte = b;
          rest = u ++ y;
          is_scene = scene_is file.0 file.1 is;
          is_file = file_of file (bytes_of_file file) is refl (omega (arith, few));
          begins = c ∙ ap (λ t. bytes_of_file file ++ t) (sym k);
        }

-- bytes that go on after a file are no file
pub begins_only : (known : Option (List ℕ)) → IfSome known BeginsWithFile → IfSome known (λ bytes. (s : Scene) → IsScene s → IsFileOf bytes s → ⊥)
begins_only known h =
    some_turn known (λ bytes. (s : Scene) → IsScene s → IsFileOf bytes s → ⊥) BeginsWithFile
    (λ bytes b s is file. let none : b.byte ∷ b.rest ≡ [] = no_prefix b.file (b.byte ∷ b.rest) b.scene s b.is_scene is b.is_file (subst (λ t. IsFileOf t s) b.begins file) in cc) h

-- ---- a reader before which nothing is unread

-- what is known of its bytes
pub nothing_before : (known : Option (List ℕ)) (P : List ℕ → Type 0) → IfSome (prepend_known [] known) P → IfSome known P
nothing_before None P h = tt
nothing_before (Some x) P h = h

-- if no byte is left in all, the reader has none
pub reader_at_end : (unread : List ℕ) (known : Option (List ℕ)) → IsAtEnd (prepend_known unread known) → IsAtEnd known
reader_at_end unread None h = tt
reader_at_end [] (Some x) h = h
reader_at_end (b ∷ unread) (Some x) h = cc
