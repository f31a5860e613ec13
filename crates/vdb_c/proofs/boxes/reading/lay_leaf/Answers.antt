use Rattle.vdb_c.proofs.Common.{◌≡◌, ◌∙◌, ◌+◌, ℕ, IsTrue, ap, arith, both, is_inside, min_inside, offset, place, vdb, cell_in}
use Rattle.vdb_coord.specs.declared.Level.TheVariants.{Leaf as leaf_level}
use Rattle.vdb_c.proofs.GivenLeaves.{entry_below, entry_from, leaf_strides}
use Rattle.vdb_c.proofs.Places.{max_inside}
use Rattle.vdb_c.proofs.boxes.reading.lay_leaf.Goals as goal

pub copy_part-requires-clause-sources : goal.copy_part-requires-clause-sources
copy_part-requires-clause-sources g c =
    let part = c.args.part in
    let inside : IsTrue (is_inside part c.min.result) = rw c.min.ensures.corner (min_inside part (both _ _ c.min.ensures.bounds).0) in
    let below = entry_below part c.min.result c.offset-first.result inside c.min.ensures.corner c.requires.block c.offset-first.ensures.value part.max (max_inside part c.min.ensures.bounds) in
    let size = c.copy_row.ensures.length in
    omega (arith, below, size)

pub returns : goal.returns
returns g c = λ d.
    let part = c.args.part in
    let inside : IsTrue (is_inside part c.min.result) = rw c.min.ensures.corner (min_inside part (both _ _ c.min.ensures.bounds).0) in
    let leaf = c.args.leaf.now in
    let first = c.offset-first.result in
    c.copy_part.ensures (λ q. g.S.Shown.of (cell_in d leaf (offset vdb leaf_level q))) (λ q e i.
    let below = entry_below part c.min.result first inside c.min.ensures.corner c.requires.block c.offset-first.ensures.value q i in
    let entry = entry_from part c.min.result first inside c.min.ensures.corner c.requires.block c.offset-first.ensures.value q i in
    c.copy_row.ensures.elements d (first + place part leaf_strides q) e below ∙ ap (λ (n : ℕ). g.S.Shown.of (cell_in d leaf n)) (none (first + place part leaf_strides q) ∙ entry))
  where
    none : (n : ℕ) → 0 + n ≡ n
    none n = omega arith
