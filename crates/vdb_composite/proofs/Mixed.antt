-- The combination of two fields: its cells, and when another field equals it.
use Rattle.vdb_composite.proofs.Common.{◌≡◌, refl, sym, ap, subst, ◌∙◌, Bool, ◌||◌, IsTrue, Option, Some, None, IsSome, if◌then◌else◌, option_map, everywhere, is_inside, Coord, Cell, Field, field, off, IsMixIn, mixed, mixed_cell, mixed_value, Blend, Mix, Values, Replace, never, cell_inside}
use Rattle.std.specs.Option.{unwrap_or}
use Rattle.vdb_composite.specs.Mixes.{HasMix}
use Rattle.vdb_tree.proofs.Fields.{same_cells}

pub some_same : {A : Type 0} (x y : A) → ◌≡◌ {A = Option A} (Some x) (Some y) → x ≡ y
some_same x y e = cc

pub some_is : {A : Type 0} (o : Option A) (x : A) → o ≡ Some x → IsSome o
some_is o x e = rw e refl

-- a cell of this state
abbrev pub cell_of : {V : Type 0} → Bool → V → Cell V
cell_of b v = record { value = v; on = b }

map_some : {V : Type 0} (o : Option V) → IsSome o → IsSome (option_map (λ (x : V). off x) o)
map_some (Some x) h = refl
map_some None h = h

module _ {V : Type 0} (blend : Blend → V → V → Option V) where
  -- two backgrounds combine to a background
  pub off_mix : (mix : Mix) (v w x : V) → mixed_value blend mix v w ≡ Some x → mixed_cell blend mix (off v) (off w) ≡ Some (off x)
  off_mix (Values how) v w x h = ap (option_map off) h
  off_mix Replace v w x h = ap (option_map off) h

  pub off_mixed : (mix : Mix) (v w x : V) → mixed_value blend mix v w ≡ Some x → (c d : Cell V) → c ≡ off v → d ≡ off w → mixed_cell blend mix c d ≡ Some (off x)
  off_mixed mix v w x h c d e k = rw (e, k) (off_mix mix v w x h)

  -- if the backgrounds combine, what both fields have as background combines to it
  pub flat_some : (mix : Mix) (v w : V) → IsSome (mixed_value blend mix v w) → (c d : Cell V) → c ≡ off v → d ≡ off w → IsSome (mixed_cell blend mix c d)
  flat_some (Values how) v w h c d e k = rw (e, k) (map_some (blend how v w) h)
  flat_some Replace v w h c d e k = refl

  pub mixed_background : (mix : Mix) (f g : Field V) (x : V) → mixed_value blend mix f.background g.background ≡ Some x → (mixed blend mix f g).background ≡ x
  mixed_background (Values how) f g x h = ap (λ (o : Option V). unwrap_or o f.background) h
  mixed_background Replace f g x h = some_same f.background x h

  -- the value that a test finds
  unwrapped : (b : Bool) (o : Option V) (v : V) → IsSome (option_map (λ (x : V). cell_of b x) o) → option_map (λ (x : V). cell_of b x) o ≡ Some (cell_of b (unwrap_or o v))
  unwrapped b (Some x) v h = refl
  unwrapped b None v h = absurd (never refl h)

  -- the cells of the combination of two fields, if every two cells combine
  pub mixed_cells : (mix : Mix) (f g : Field V) → HasMix blend mix f g → IsMixIn blend mix everywhere f g (mixed blend mix f g)
  mixed_cells (Values how) f g h q inside =
      unwrapped ((f.cell q).on || (g.cell q).on) (blend how (f.cell q).value (g.cell q).value) (f.cell q).value (h q inside) ∙ (rw inside refl)
  mixed_cells Replace f g h q inside = rw inside refl

  pub has_mix : (mix : Mix) (f g h : Field V) → IsMixIn blend mix everywhere f g h → HasMix blend mix f g
  has_mix mix f g h is q inside = some_is (mixed_cell blend mix (f.cell q) (g.cell q)) (h.cell q) (is q inside)

  fields_same : (b e : V) (c d : Coord → Cell V) → b ≡ e → ((p : Coord) → IsTrue (is_inside everywhere p) → (field b c).cell p ≡ (field e d).cell p) → field b c ≡ field e d
  fields_same b e c d same h = subst (λ (x : V). field b c ≡ field x d) same (same_cells b c d (λ p i. sym (cell_inside b c p i) ∙ h p i ∙ cell_inside e d p i))

  -- a field with the cells and the background of the combination equals it
  pub is_mixed : (mix : Mix) (f g : Field V) (b : V) (c : Coord → Cell V) → mixed_value blend mix f.background g.background ≡ Some b → IsMixIn blend mix everywhere f g (field b c)
      → field b c ≡ mixed blend mix f g
  is_mixed (Values how) f g b c value is =
      fields_same b (unwrap_or (blend how f.background g.background) f.background) c
      (λ p. record { value = unwrap_or (blend how (f.cell p).value (g.cell p).value) (f.cell p).value; on = (f.cell p).on || (g.cell p).on })
      (sym (mixed_background (Values how) f g b value))
      (λ p i. some_same ((field b c).cell p) ((mixed blend (Values how) f g).cell p) (sym (is p i) ∙ mixed_cells (Values how) f g (has_mix (Values how) f g (field b c) is) p i))
  is_mixed Replace f g b c value is =
      fields_same b f.background c (λ p. if (g.cell p).on then g.cell p else f.cell p)
      (sym (mixed_background Replace f g b value))
      (λ p i. some_same ((field b c).cell p) ((mixed blend Replace f g).cell p) (sym (is p i) ∙ mixed_cells Replace f g (has_mix Replace f g (field b c) is) p i))

  -- ---- the background of the combination of two fields

  module _ (mix : Mix) (f g : Field V) (x : V) (value : mixed_value blend mix f.background g.background ≡ Some x) (has : HasMix blend mix f g) (q : Coord) (inside : IsTrue (is_inside everywhere q)) where
    pub mixed_flat : mixed_cell blend mix (f.cell q) (g.cell q) ≡ Some (off x) → (mixed blend mix f g).cell q ≡ off (mixed blend mix f g).background
    mixed_flat e =
        some_same ((mixed blend mix f g).cell q) (off x) (sym (mixed_cells mix f g has q inside) ∙ e) ∙ ap off (sym (mixed_background mix f g x value))

    pub mixed_off : f.cell q ≡ off f.background → g.cell q ≡ off g.background → (mixed blend mix f g).cell q ≡ off (mixed blend mix f g).background
    mixed_off a b = mixed_flat (off_mixed mix f.background g.background x value (f.cell q) (g.cell q) a b)

    pub mixed_unlike : (mixed_cell blend mix (f.cell q) (g.cell q) ≡ Some (off x) → ⊥) → (mixed blend mix f g).cell q ≡ off (mixed blend mix f g).background → ⊥
    mixed_unlike other flat =
        other (mixed_cells mix f g has q inside ∙ ap (λ (c : Cell V). Some c) (flat ∙ ap off (mixed_background mix f g x value)))
