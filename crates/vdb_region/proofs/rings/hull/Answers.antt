use Rattle.vdb_region.proofs.Common.{◌≡◌, ◌∙◌, ap, sym, Some, None, Option, block_around, Box, Coord, both}
use Rattle.vdb_region.proofs.Sides.{made_hull}
use Rattle.vdb_region.proofs.rings.hull.Goals as goal

none_some : {A : Type 0} (x : A) → ◌≡◌ {A = Option A} None (Some x) → ⊥
none_some x e = cc

some_same : {A : Type 0} (x y : A) → ◌≡◌ {A = Option A} (Some x) (Some y) → x ≡ y
some_same x y e = cc

pub unreachable-requires : goal.unreachable-requires
unreachable-requires c =
    let bits = c.args.bits in
    let level = c.args.level in
    let low = c.min-min.ensures.corner ∙ ap (λ (b : Box). b.min) c.block_in.ensures ∙ ap (λ (p : Coord). (block_around bits level p).min) c.min.ensures.corner in
    let high = c.max-max.ensures.corner ∙ ap (λ (b : Box). b.max) c.block_in-2.ensures ∙ ap (λ (p : Coord). (block_around bits level p).max) c.max.ensures.corner in
    none_some _ (sym c.in-None.is ∙ c.new.ensures ∙ made_hull bits level c.args.bounds c.min-min.result c.max-max.result (both _ _ c.min.ensures.bounds).0 low high)

pub returns : goal.returns
returns c =
    let bits = c.args.bits in
    let level = c.args.level in
    let low = c.min-min.ensures.corner ∙ ap (λ (b : Box). b.min) c.block_in.ensures ∙ ap (λ (p : Coord). (block_around bits level p).min) c.min.ensures.corner in
    let high = c.max-max.ensures.corner ∙ ap (λ (b : Box). b.max) c.block_in-2.ensures ∙ ap (λ (p : Coord). (block_around bits level p).max) c.max.ensures.corner in
    some_same _ _ (sym c.in-Some.is ∙ c.new.ensures ∙ made_hull bits level c.args.bounds c.min-min.result c.max-max.result (both _ _ c.min.ensures.bounds).0 low high)
