use Rattle.vdb_c.proofs.Common.{◌≡◌, [], ◌∷◌, ◌+◌, ◌∙◌, ap, arith, refl, subst, sym, ℕ, get_or}
use Rattle.vdb_c.proofs.PartPlaces.{place_none}
use Rattle.vdb_c.proofs.boxes.reading.lay_tile.Goals as goal

pub copy_part-requires-clause-sources : goal.copy_part-requires-clause-sources
copy_part-requires-clause-sources g c = let none = place_none c.args.part c.args.part.max in omega (arith, none)

pub returns : goal.returns
returns g c =
    let element = c.of-element.result in
    c.copy_part.ensures (λ q. g.S.Shown.of c.args.cell) (λ q e i.
    subst (λ (n : ℕ). get_or (element ∷ []) n e ≡ element) (sym (ap (λ (n : ℕ). 0 + n) (place_none c.args.part q))) refl ∙ c.of-element.ensures)
