-- Values of any type that compare equal are equal.
use Rattle.vdb_scene.proofs.Common.{◌≡◌, refl, ap, Bool, true, false, scalar_eq, Scalar, I32, I64}
use Rattle.std.proofs.lemmas.Bool.Decides.{Decides-int_eq}
use Rattle.vdb_scene.specs.declared.scalar.Scalar.TheVariants.{Bool as truth}

same_truth : (a b : Bool) → scalar_eq (truth a) (truth b) ≡ true → a ≡ b
same_truth true true h = refl
same_truth true false h = cc
same_truth false true h = cc
same_truth false false h = refl

pub scalar_exact : (a b : Scalar) → scalar_eq a b ≡ true → a ≡ b
scalar_exact (truth a) (truth b) h = ap truth (same_truth a b h)
scalar_exact (I32 y) (I32 z) h = ap I32 ((Decides-int_eq y z).0 h)
scalar_exact (I64 y) (I64 z) h = ap I64 ((Decides-int_eq y z).0 h)
scalar_exact a b h = absurd cc

-- a value compares equal to itself
pub scalar_itself : (a : Scalar) → scalar_eq a a ≡ true
scalar_itself (truth true) = refl
scalar_itself (truth false) = refl
scalar_itself (I32 z) = (Decides-int_eq z z).1 refl
scalar_itself (I64 z) = (Decides-int_eq z z).1 refl
