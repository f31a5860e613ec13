-- A rule that makes states inactive adds no upper extent that holds anything but the background.
use Rattle.vdb_tree.proofs.Common.{◌≡◌, ◌≢◌, ◌∙◌, refl, true, false, Bool, not, ◌&&◌, cond, ◌≤◌, ℕ, arith, sym, block, block_numbers, everywhere, is_inside, Bits, Coord, Upper, and_true, count_at_most, member_passing, Cell, is_background, roots, Field, off, ruled, StateRule, Unite, Subtract, Intersect}
use Rattle.vdb_tree.specs.ConstantBlocks.{root_keys}
use Rattle.vdb_tree.specs.Field.{with_states}
use Rattle.vdb_tree.proofs.Blocks.{never}
use Rattle.vdb_tree.proofs.Rooted.{not_from, was_false}
use Rattle.vdb_tree.proofs.Uniform.{uniform_cells, uniform_from}

-- if each root of one field is a root of another, it has no more roots than the other
pub fewer_roots : {V : Type 0} (eq : V → V → Bool) (bits : Bits) (f g : Field V)
    → ((k : Coord) → is_background eq f (block bits Upper k) ≡ true → is_background eq g (block bits Upper k) ≡ true) → roots eq bits g ≤ roots eq bits f
fewer_roots eq bits f g h =
    count_at_most (block_numbers bits Upper) (λ n. not (is_background eq g (block bits Upper n))) (root_keys eq bits f)
    (λ k inside n. member_passing (block_numbers bits Upper) (λ n. not (is_background eq f (block bits Upper n))) k ∙ and_true _ _ inside (not_from _ (non_background (is_background eq f (block bits Upper k)) (h k) (was_false _ n))))
  where
    non_background : (s : Bool) {t : Bool} → (s ≡ true → t ≡ true) → t ≡ false → s ≡ false
    non_background true imp e = absurd (never e (imp refl))
    non_background false imp e = refl

-- an inactive background cell stays one under a rule that makes states inactive
stays_off : {V : Type 0} (state : Bool → Bool → Bool) → ((t : Bool) → state false t ≡ false) → (v : V) (inside t : Bool) (x : Cell V) → x ≡ off v
    → cond inside (record { value = x.value; on = state x.on t }) (off v) ≡ off v
stays_off state quiet v true t x e = let k = quiet t in rw (e, k) refl
stays_off state quiet v false t x e = refl

module _ {V X : Type 0} (eq : V → V → Bool) (exact : (x y : V) → eq x y ≡ true → x ≡ y) (itself : (x : V) → eq x x ≡ true) (bits : Bits) where
  states_within : (state : Bool → Bool → Bool) → ((t : Bool) → state false t ≡ false) → (f : Field V) (g : Field X) → roots eq bits (with_states state f g) ≤ roots eq bits f
  states_within state quiet f g =
      fewer_roots eq bits f (with_states state f g) (λ k flat.
      uniform_from eq exact itself (with_states state f g) (block bits Upper k) (off f.background)
      (λ p inside. stays_off state quiet f.background (is_inside everywhere p) (g.cell p).on (f.cell p) (uniform_cells eq exact itself f (block bits Upper k) (off f.background) flat p inside)))

  pub ruled_within : (rule : StateRule) → rule ≢ Unite → (f : Field V) (g : Field X) → roots eq bits (ruled rule f g) ≤ roots eq bits f
  ruled_within Unite other f g = absurd (other refl)
  ruled_within Subtract other f g = states_within (λ s t. s && not t) (λ t. refl) f g
  ruled_within Intersect other f g = states_within (λ s t. s && t) (λ t. refl) f g

  -- a rule that makes states inactive keeps to the limit
  pub ruled_keeps : (rule : StateRule) → rule ≢ Unite → (f : Field V) (g : Field X) (few limit : ℕ) → roots eq bits f ≤ few → few ≡ limit → roots eq bits (ruled rule f g) ≤ limit
  ruled_keeps rule other f g few limit h e = let k = ruled_within rule other f g in omega (arith, h, k, e)

pub no_unite_subtract : (rule : StateRule) → rule ≡ Subtract → rule ≢ Unite
no_unite_subtract rule e k = subtract_unite (sym e ∙ k)
  where
    subtract_unite : ◌≡◌ {A = StateRule} Subtract Unite → ⊥
    subtract_unite e = cc

pub no_unite_intersect : (rule : StateRule) → rule ≡ Intersect → rule ≢ Unite
no_unite_intersect rule e k = intersect_unite (sym e ∙ k)
  where
    intersect_unite : ◌≡◌ {A = StateRule} Intersect Unite → ⊥
    intersect_unite e = cc
