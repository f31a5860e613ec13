use Rattle.vdb_walk.proofs.Common.{◌≡◌, ◌∙◌, ◌∷◌, Some, ℕ, ◌-◌, ap, arith, inl, suc, sym, is_past, Box, bits_of, field_of, active, Listed, past}
use Rattle.vdb_walk.proofs.InOrder.{none_left, past_step, rises_keys}
use Rattle.vdb_walk.proofs.listing.Listing.next.Goals as goal

one_less : (n : ℕ) → (n ≡ 0 → ⊥) → n ≡ suc (n - 1)
one_less n h = grind arith

pub returns-in-Some : goal.returns-in-Some
returns-in-Some g c =
    let bits = bits_of g.row.U g.row.L g.row.F in
    let f = field_of bits c.self.inside.tree.now in (
      ap (λ (l : Listed g.row.V.Denot). l.rest) (sym c.self.view_is)
          ∙ past_step bits (λ p. (f.cell p).value) c.self.inside.last _ (rises_keys bits f c.self.inside.walk.box) c.in-Some.item (sym c.yield_next.ensures.next ∙ c.in-Some.is)
          ∙ ap (λ (b : Box). c.in-Some.item ∷ past bits (Some c.in-Some.item.0) (active bits f b)) (sym c.yield_next.ensures.bounds),
      ap (λ (l : Listed g.row.V.Denot). l.left) (sym c.self.view_is) ∙ one_less c.self.inside.left c.if-self-eq0.false,
    )

pub returns-in-None : goal.returns-in-None
returns-in-None g c =
    let bits = bits_of g.row.U g.row.L g.row.F in
    let f = field_of bits c.self.inside.tree.now in (
      inl (ap (λ (l : Listed g.row.V.Denot). l.rest) (sym c.self.view_is)
          ∙ none_left (λ item. is_past bits c.self.inside.last item.0) (active bits f c.self.inside.walk.box) (sym c.yield_next.ensures.next ∙ c.in-None.is)),
      ap (λ (b : Box). record { rest = past bits c.self.inside.last (active bits f b); left = c.self.inside.left }) c.yield_next.ensures.bounds ∙ c.self.view_is,
    )
