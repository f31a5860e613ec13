-- What the walks of the raw layer share: the rows of its types, and the machine values of an address and of a mark. Assumes `Logic`.
use Rattle.vdb_pool.proofs.Common.{◌≡◌, ℕ, zero, suc, List, [], ◌∷◌, ◌++◌, refl, ◌∙◌, Ura, Val, vstruct, vcons, vnil, ent, sep, emp, Logic, sem, ‵, ◌$◌, ◌∵◌, !, qed, move, fjoin, fpack, feq_i, done, RattleType, Is, Ptr, ptr_val, plain, nothing, Struct, Tuple, shape, El, R}
use mir.Val.{of_list}
use denote.RattleType.{Valss}
use denote.Builtin.{unit}
use denote.Shadow.{makes_shadow}
use denote.Signature.{Slot}
use denote.Struct.Declared as Declared
use denote.Struct.Struct.{within}
use denote.Struct.Tuple.{tuple_type}
use Rattle.vdb_pool.specs.contracts.storage.Address as address
use Rattle.vdb_pool.specs.contracts.storage.Storage as storage

-- the k-th parameter of a signature
abbrev pub slot : {n : ℕ} → ℕ → List (Slot n) → Slot n
slot k [] = plain (λ _. unit)
slot zero (s ∷ ss) = s
slot (suc k) (s ∷ ss) = slot k ss

module _ (E : El) where
  abbrev pub Addr : RattleType
  Addr = address.the_row (R E)

  abbrev pub Store : RattleType
  Store = storage.the_row (R E)

  -- what a storage has beside its memory: a mark, which takes no bytes
  abbrev pub Mark : RattleType
  Mark = Struct (shape (storage.the_type (R E)))

-- the machine values of an address and of a mark
abbrev pub addr_val : Ptr → Val
addr_val p = vstruct (vcons (ptr_val p) vnil)

abbrev pub mark_val : Val
mark_val = vstruct (vcons (vstruct vnil) vnil)

pub addr_told : (E : El) (a : (Addr E).Denot) (vs : List Val) → Is (Addr E) a vs → vs ≡ addr_val a.pointer ∷ []
addr_told E a vs s = s.1.0 ∙ (λ i. vstruct (of_list (s.1.1.0 i ++ [])) ∷ [])

pub mark_told : (E : El) (vs : List Val) → Is (Mark E) (tt, tt) vs → vs ≡ mark_val ∷ []
mark_told E vs s = s.1.0 ∙ (λ i. vstruct (of_list (s.1.1.0.1.0 i ++ [])) ∷ [])

pub addr_made : (E : El) {M : Type 1} {𝓤 : Ura M} (𝓛 : Logic 𝓤) (a : (Addr E).Denot) → ent 𝓤 (emp 𝓤) (sem 𝓛 ((Addr E).own_val a (addr_val a.pointer ∷ [])))
addr_made E 𝓛 a = makes_shadow 𝓛 ((Addr E).own_val a (addr_val a.pointer ∷ [])) (λ vss. (tt, (tt, tt))) ((ptr_val a.pointer ∷ [], tt), (refl, (refl, tt)))

pub mark_made : (E : El) {M : Type 1} {𝓤 : Ura M} (𝓛 : Logic 𝓤) → ent 𝓤 (emp 𝓤) (sem 𝓛 ((Mark E).own_val (tt, tt) (mark_val ∷ [])))
mark_made E 𝓛 = makes_shadow 𝓛 ((Mark E).own_val (tt, tt) (mark_val ∷ [])) (λ vss. (tt, ((λ uss. (tt, tt)), tt))) ((vstruct vnil ∷ [], tt), (refl, ((tt, (refl, tt)), tt)))

-- three values side by side
abbrev pub three_val : Val → Val → Val → Val
three_val u v w = vstruct (vcons u (vcons v (vcons w vnil)))

pub three_made : {M : Type 1} {𝓤 : Ura M} (𝓛 : Logic 𝓤) (Q S T : RattleType) (x : Q.Denot) (y : S.Denot) (z : T.Denot) (u v w : Val)
    → ent 𝓤 (sep 𝓤 (sem 𝓛 (Q.own_val x (u ∷ []))) (sep 𝓤 (sem 𝓛 (S.own_val y (v ∷ []))) (sem 𝓛 (T.own_val z (w ∷ [])))))
    (sem 𝓛 ((Tuple (Q ∷ S ∷ T ∷ [])).own_val (x, y, z) (three_val u v w ∷ [])))
three_made 𝓛 Q S T x y z u v w =
    let Rs : List RattleType = Q ∷ S ∷ T ∷ [] in
    qed 𝓛 (‵ (Q.own_val x (u ∷ [])) ∷ ‵ (S.own_val y (v ∷ [])) ∷ ‵ (T.own_val z (w ∷ [])) ∷ []) ∵
    nothing ! $ move ! (3 ∷ 0 ∷ []) $ fjoin ! $ move ! (2 ∷ 0 ∷ []) $ fjoin ! $ move ! (1 ∷ 0 ∷ []) $ fjoin ! $
    feq_i ! (List Val) (three_val u v w ∷ []) (three_val u v w ∷ []) refl $ fjoin ! $
    fpack ! (Valss Rs) (within (Declared.shape (tuple_type Rs)) (x, (y, (z, tt))) (three_val u v w ∷ [])) (u ∷ [], (v ∷ [], (w ∷ [], tt))) $ done !
