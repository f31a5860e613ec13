-- A run has one outcome if no allocation fails.
use Rattle.vdb_script.proofs.Common.{◌≡◌, ◌≢◌, refl, sym, ap, ◌∙◌, subst, ℕ, pos, Bool, true, false, List, [], ◌∷◌, ◌++◌, Option, Some, None, Result, Ok, Err, inl, inr, IsTrue, arith, same_Some, coord, Coord, Reply, Refused, Bounds, Scene, Command, Refusal, Scalar, Run, TakesLine, read}
use Rattle.std.proofs.Common.{ℤ, ◌+ℤ◌}
use Rattle.std.proofs.lemmas.Int.{ints}
use Rattle.vdb_coord.specs.Space.{Box, is_between, is_inside, is_within}
use Rattle.vdb_coord.proofs.Boxes.{both, three}
use Rattle.vdb_tree.specs.Field.{Field}
use Rattle.vdb_walk.specs.Reports.{IsActiveBounds}
use Rattle.vdb_scene.specs.Scene.{field_at}
use Rattle.vdb_scene.specs.Step.{IsReply, Step, refusal}
use Rattle.vdb_scene.specs.declared.command.Command.TheVariants as commands
use Rattle.vdb_scene.specs.declared.answer.Refusal.TheVariants as refusals
use Rattle.vdb_script.specs.Run.{NoMemoryError}

-- ---- bounds

-- a number that each of two pairs of ends has between them is an end of both
same_ends : (low high least greatest : ℤ) → is_between least greatest low ≡ true → is_between least greatest high ≡ true → is_between low high least ≡ true → is_between low high greatest ≡ true
    → (low ≡ least) × (high ≡ greatest)
same_ends low high least greatest h k l m = (grind (arith, ints), grind (arith, ints))

same_coord : (p q : Coord) → p.x ≡ q.x → p.y ≡ q.y → p.z ≡ q.z → p ≡ q
same_coord p q h k l = ap (λ x. coord x p.y p.z) h ∙ ap (λ y. coord q.x y p.z) k ∙ ap (λ z. coord q.x q.y z) l

same_box : (a b : Box) → a.min ≡ b.min → a.max ≡ b.max → a ≡ b
same_box a b h k = ap (λ p. box p a.max) h ∙ ap (λ p. box b.min p) k
  where
    box : Coord → Coord → Box
    box min max = record { min = min; max = max }

-- two boxes within each other are the same
within_both : (a b : Box) → is_within a b ≡ true → is_within b a ≡ true → a ≡ b
within_both a b h k =
    let hs = both (is_inside b a.min) (is_inside b a.max) h in
    let ks = both (is_inside a b.min) (is_inside a b.max) k in
    let a_min = three (is_between b.min.x b.max.x a.min.x) (is_between b.min.y b.max.y a.min.y) (is_between b.min.z b.max.z a.min.z) hs.0 in
    let a_max = three (is_between b.min.x b.max.x a.max.x) (is_between b.min.y b.max.y a.max.y) (is_between b.min.z b.max.z a.max.z) hs.1 in
    let b_min = three (is_between a.min.x a.max.x b.min.x) (is_between a.min.y a.max.y b.min.y) (is_between a.min.z a.max.z b.min.z) ks.0 in
    let b_max = three (is_between a.min.x a.max.x b.max.x) (is_between a.min.y a.max.y b.max.y) (is_between a.min.z a.max.z b.max.z) ks.1 in
    let xs = same_ends a.min.x a.max.x b.min.x b.max.x a_min.0 a_max.0 b_min.0 b_max.0 in
    let ys = same_ends a.min.y a.max.y b.min.y b.max.y a_min.1 a_max.1 b_min.1 b_max.1 in
    let zs = same_ends a.min.z a.max.z b.min.z b.max.z a_min.2 a_max.2 b_min.2 b_max.2 in
    same_box a b (same_coord a.min b.min xs.0 ys.0 zs.0) (same_coord a.max b.max xs.1 ys.1 zs.1)

-- a box past the least corner of another
abbrev past_min : Box → Box
past_min b = record { min = record b.min { x = b.min.x +ℤ pos 1 }; max = b.max }

not_past : (b : Box) → is_within b (past_min b) ≡ true → ⊥
not_past b h =
    let hs = both (is_inside (past_min b) b.min) (is_inside (past_min b) b.max) h in
    let parts = three (is_between (b.min.x +ℤ pos 1) b.max.x b.min.x) (is_between b.min.y b.max.y b.min.y) (is_between b.min.z b.max.z b.min.z) hs.0 in
    over b.min.x b.max.x parts.0
  where
    over : (x y : ℤ) → is_between (x +ℤ pos 1) y x ≡ true → ⊥
    over x y h = grind (arith, ints)

no_active : (on : Bool) {P : Type 0} → on ≡ false → IsTrue on → P
no_active true h t = absurd (let never : true ≡ false = h in cc)
no_active false h t = absurd (let never : false ≡ true = t in cc)

-- a field has one bounding box, or none
one_bounds : (f : Field Scalar) (a b : Option Box) → IsActiveBounds f a → IsActiveBounds f b → a ≡ b
one_bounds f None None h k = refl
one_bounds f None (Some b) h k = absurd (not_past b (k.1 (past_min b) (λ p on. no_active (f.cell p).on (h p) on)))
one_bounds f (Some a) None h k = absurd (not_past a (h.1 (past_min a) (λ p on. no_active (f.cell p).on (k p) on)))
one_bounds f (Some a) (Some b) h k = ap Some (within_both a b (h.1 b k.0) (k.1 a h.0))

-- ---- one step

-- a command that succeeds has one answer
one_reply : (s : Scene) (c : Command) (a b : Reply) → IsReply s c a → IsReply s c b → a ≡ b
one_reply s (commands.Grid name kind v limit) a b h k = h ∙ sym k
one_reply s (commands.Drop name) a b h k = h ∙ sym k
one_reply s (commands.Copy from to) a b h k = h ∙ sym k
one_reply s (commands.Get name n p) a b h k = h ∙ sym k
one_reply s (commands.Set name n p v) a b h k = h ∙ sym k
one_reply s (commands.Unset name n p v) a b h k = h ∙ sym k
one_reply s (commands.Only name n p v) a b h k = h ∙ sym k
one_reply s (commands.State name n p on) a b h k = h ∙ sym k
one_reply s (commands.Fill name c v on) a b h k = h ∙ sym k
one_reply s (commands.Clip name c) a b h k = h ∙ sym k
one_reply s (commands.Prune name) a b h k = h ∙ sym k
one_reply s (commands.Voxelise name c) a b h k = h ∙ sym k
one_reply s (commands.List name c limit) a b h k = h ∙ sym k
one_reply s (commands.Slice name z r) a b h k = h ∙ sym k
one_reply s (commands.Count name c) a b h k = h ∙ sym k
one_reply s (commands.Bounds name) a b h k = h.1 ∙ ap Bounds (one_bounds (field_at s name) h.0 k.0 h.2 k.2) ∙ sym k.1
one_reply s (commands.Census name) a b h k = h ∙ sym k
one_reply s (commands.Union name other) a b h k = h ∙ sym k
one_reply s (commands.Difference name other) a b h k = h ∙ sym k
one_reply s (commands.Intersect name other) a b h k = h ∙ sym k
one_reply s (commands.Max name other) a b h k = h ∙ sym k
one_reply s (commands.Min name other) a b h k = h ∙ sym k
one_reply s (commands.Sum name other) a b h k = h ∙ sym k
one_reply s (commands.Replace name other) a b h k = h ∙ sym k
one_reply s (commands.Dilate name n) a b h k = h ∙ sym k
one_reply s (commands.Erode name n) a b h k = h ∙ sym k
one_reply s (commands.Meta name key text) a b h k = h ∙ sym k
one_reply s (commands.Unmeta name key) a b h k = h ∙ sym k
one_reply s (commands.Metas name) a b h k = h ∙ sym k

refused_or_not : {P : Type 0} (o : Option Refusal) (r : Refusal) → o ≡ Some r → o ≡ None → P
refused_or_not o r h k = absurd (let never : Some r ≡ None = sym h ∙ k in cc)

-- a step has one answer and one scene after it, unless an allocation fails
one_step : (s : Scene) (c : Command) (a b : Reply) (x y : Scene) → Step s c a x → Step s c b y → a ≢ Refused refusals.Memory → b ≢ Refused refusals.Memory → (a ≡ b) × (x ≡ y)
one_step s c a b x y h k clear clear₂ = elim h [
  | inl r ↦ elim k [
    | inl q ↦ (r.2 ∙ ap Refused (same_Some r.0 q.0 (sym r.1 ∙ q.1)) ∙ sym q.2, r.3 ∙ sym q.3)
    | inr d ↦ elim d [ inl d ↦ refused_or_not (refusal s c) r.0 r.1 d.0 | inr m ↦ absurd (clear₂ m.2) ]
  ]
  | inr d ↦ elim d [
    | inl d ↦ elim k [
      | inl q ↦ refused_or_not (refusal s c) q.0 q.1 d.0
      | inr e ↦ elim e [ inl e ↦ (one_reply s c a b d.1 e.1, d.2 ∙ sym e.2) | inr m ↦ absurd (clear₂ m.2) ]
    ]
    | inr m ↦ absurd (clear m.2)
  ]
]

-- ---- runs

clear_front : (xs ys : List Reply) → NoMemoryError (xs ++ ys) → NoMemoryError xs
clear_front [] ys h = tt
clear_front (x ∷ xs) ys h = (h.0, clear_front xs ys h.1)

clear_rest : (xs ys : List Reply) → NoMemoryError (xs ++ ys) → NoMemoryError ys
clear_rest [] ys h = h
clear_rest (x ∷ xs) ys h = clear_rest xs ys h.1

-- a line
one_line : (s : Scene) (line : Result (Option Command) Refusal) (a b : List Reply) (x y : Scene) → TakesLine s line a x → TakesLine s line b y → NoMemoryError a → NoMemoryError b → (a ≡ b) × (x ≡ y)
one_line s (Ok None) a b x y h k clear clear₂ = (h.0 ∙ sym k.0, h.1 ∙ sym k.1)
one_line s (Ok (Some c)) a b x y h k clear clear₂ =
    let step = one_step s c h.0 k.0 x y h.2 k.2 (subst NoMemoryError h.1 clear).0 (subst NoMemoryError k.1 clear₂).0 in
    (h.1 ∙ ap (λ reply. reply ∷ []) step.0 ∙ sym k.1, step.1)
one_line s (Err r) a b x y h k clear clear₂ = (h.0 ∙ sym k.0, h.1 ∙ sym k.1)

-- all lines
pub one_run : (s : Scene) (ls : List (List ℕ)) (a b : List Reply) (x y : Scene) → Run s ls a x → Run s ls b y → NoMemoryError a → NoMemoryError b → (a ≡ b) × (x ≡ y)
one_run s [] a b x y h k clear clear₂ = (h.0 ∙ sym k.0, h.1 ∙ sym k.1)
one_run s (l ∷ ls) a b x y h k clear clear₂ =
    let all = subst NoMemoryError h.3 clear in
    let all₂ = subst NoMemoryError k.3 clear₂ in
    let line = one_line s (read l) h.0 k.0 h.2 k.2 h.4 k.4 (clear_front h.0 h.1 all) (clear_front k.0 k.1 all₂) in
    let rest = one_run k.2 ls h.1 k.1 x y (subst (λ m. Run m ls h.1 x) line.1 h.5) k.5 (clear_rest h.0 h.1 all) (clear_rest k.0 k.1 all₂) in
    (h.3 ∙ ap (λ l. l ++ h.1) line.0 ∙ ap (λ l. k.0 ++ l) rest.0 ∙ sym k.3, rest.1)
