-- Pointers as machine values, alone in a struct and with an allocator beside them. Assumes `Logic`.
use Rattle.vdb_c.proofs.Common.{◌≡◌, refl, sym, subst, Ura, Val, vstruct, has_ty, WT, full_share, ent, Logic, sem, RattleType, lone, Ptr, ptr_val, lies_at, Testable, IsSome, box_owns, Ptr-Good, freeing}
use lib.Dec.{T}
use mir.Raw.{raw as bare}
use mir.Syntax.{Ty, ty_ptr}
use mir.Val.{vcons, vnil}
use mathlib.Core.Bool.{Bool, true, false, ◌&&◌}
use base.Logic.{guard, guard_i, via, snd∗}
use contract.Monad.{fact_use}
use Rattle.std.specs.declared.option.Option.{Option}
use Rattle.std.specs.declared.option.Option.TheVariants.{None, Some}
use Rattle.std.proofs.Handle.{handle as any_heap}
use Rattle.std.proofs.GlobalToken.{dealloc_token-Testable}

-- a struct of one pointer, and of a pointer and one more value
abbrev pub pointer_val : Ptr → Val
pointer_val p = vstruct (vcons (ptr_val p) vnil)

abbrev pub beside_val : Ptr → Val → Val
beside_val p v = vstruct (vcons (ptr_val p) (vcons v vnil))

-- their types hold of them
pub all_one : (x : Bool) → T x → T (x && true)
all_one true one = tt
all_one false none = absurd none

pub all_two : (x y : Bool) → T x → T y → T (x && (y && true))
all_two true true one two = tt
all_two true false one none = absurd none
all_two false y none two = absurd none

pub pointer_fits : (p : Ptr) → T (has_ty ty_ptr (ptr_val p) && true) × WT (pointer_val p)
pointer_fits p = (all_one (has_ty ty_ptr (ptr_val p)) (Ptr-Good p).0, ((Ptr-Good p).1, tt))

pub beside_fits : (σ : Ty) (p : Ptr) (v : Val) → T (has_ty σ v) × WT v → T (has_ty ty_ptr (ptr_val p) && (has_ty σ v && true)) × WT (beside_val p v)
beside_fits σ p v fits = (all_two (has_ty ty_ptr (ptr_val p)) (has_ty σ v) (Ptr-Good p).0 fits.0, ((Ptr-Good p).1, (fits.1, tt)))

-- the pointer of a box may be compared with null, since its block may be given back
pub is_testable : {M : Type 1} {𝓤 : Ura M} (𝓛 : Logic 𝓤) (R : RattleType) (p : Ptr) (x : R.Denot)
    → ent 𝓤 (sem 𝓛 (box_owns freeing R p x)) (guard 𝓤 (Testable p) (sem 𝓛 (box_owns freeing R p x)))
is_testable {𝓤 = 𝓤} 𝓛 R p x =
    let block = bare (lone R.mir) in
    fact_use 𝓤 (Testable p)
    (via 𝓤 _ (snd∗ 𝓤 (sem 𝓛 (lies_at R full_share p x)) (sem 𝓛 (freeing block p))) (dealloc_token-Testable 𝓛 any_heap block p))
    (guard_i 𝓤 (Testable p) (sem 𝓛 (box_owns freeing R p x)))

-- an optional value is absent or present
pub either : {A : Type 0} {P : Type 1} (x : Option A) → (x ≡ None → P) → ((y : A) → x ≡ Some y → P) → P
either None absent present = absent refl
either (Some y) absent present = present y refl

-- nothing is not something
pub not_some : {A : Type 0} {x : Option A} → x ≡ None → IsSome x → ⊥
not_some none some = subst T (sym (subst IsSome none some)) tt
