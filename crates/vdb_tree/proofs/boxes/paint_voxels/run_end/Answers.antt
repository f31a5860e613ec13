use Rattle.vdb_tree.proofs.Common.{◌≡◌, ◌∙◌, ℤ, SFits, ap, of_z, rules, sym, to_z, w32, int_min, to_z-of_z, block, block_around, block_number, Box, Bits, Coord, Leaf}
use Rattle.vdb_tree.proofs.VoxelRuns.{plane_to, row_to, whole_to}
use Rattle.vdb_tree.proofs.boxes.paint_voxels.run_end.Goals as goal

-- the lesser of two numbers, and the equality of two, in terms of other numbers that equal them
least : (a b r : ℤ) → SFits w32 a → SFits w32 b → r ≡ int_min (to_z w32 (of_z w32 a)) (to_z w32 (of_z w32 b)) → (x y : ℤ) → a ≡ x → b ≡ y → r ≡ int_min x y
least a b r f g e x y h k = (rw (to_z-of_z w32 a f, to_z-of_z w32 b g) at e) ∙ ap (λ (t : ℤ). int_min t b) h ∙ ap (λ (t : ℤ). int_min x t) k

same : (a b : ℤ) → SFits w32 a → SFits w32 b → to_z w32 (of_z w32 a) ≡ to_z w32 (of_z w32 b) → (x y : ℤ) → a ≡ x → b ≡ y → x ≡ y
same a b f g e x y h k = sym h ∙ (rw (to_z-of_z w32 a f, to_z-of_z w32 b g) at e) ∙ k

-- the block around a part's least corner is that around p
around : (bits : Bits) (min p low : Coord) (b : Box) → low ≡ min → b ≡ block_around bits Leaf low → block_number bits Leaf min ≡ block_number bits Leaf p → b ≡ block_around bits Leaf p
around bits min p low b at is one = is ∙ ap (block_around bits Leaf) at ∙ ap (block bits Leaf) one

pub returns-then-not-is_range : goal.returns-then-not-is_range
returns-then-not-is_range c =
    let fit_z : SFits w32 c.min-z.result = search rules in
    let end_z : SFits w32 c.max-last.result.z = search rules in
    let high_fit_z : SFits w32 c.max-high.result.z = search rules in
    let at_z = least _ _ _ high_fit_z end_z c.min-z.ensures.value _ _ (ap (λ (t : Coord). t.z) c.max-high.ensures.corner) (ap (λ (t : Coord). t.z) c.max-last.ensures.corner ∙ ap (λ (b : Box). b.max.z) (around c.args.bits c.args.part.min c.args.p c.min-low.result _ c.min-low.ensures.corner c.block_in-block.ensures c.requires.one)) in
    let own_x : SFits w32 c.args.p.x = search rules in
    let own_y : SFits w32 c.args.p.y = search rules in
    row_to c.args.bits c.args.part c.args.p c.requires.inside _ _ _ (to_z-of_z w32 c.args.p.x own_x) (to_z-of_z w32 c.args.p.y own_y) (to_z-of_z w32 c.min-z.result fit_z ∙ at_z)

pub returns-then-not-is_range-2 : goal.returns-then-not-is_range-2
returns-then-not-is_range-2 c =
    let fit_z : SFits w32 c.min-z.result = search rules in
    let end_z : SFits w32 c.max-last.result.z = search rules in
    let high_fit_z : SFits w32 c.max-high.result.z = search rules in
    let at_z = least _ _ _ high_fit_z end_z c.min-z.ensures.value _ _ (ap (λ (t : Coord). t.z) c.max-high.ensures.corner) (ap (λ (t : Coord). t.z) c.max-last.ensures.corner ∙ ap (λ (b : Box). b.max.z) (around c.args.bits c.args.part.min c.args.p c.min-low.result _ c.min-low.ensures.corner c.block_in-block.ensures c.requires.one)) in
    let first_z : SFits w32 c.min-first.result.z = search rules in
    let low_fit_z : SFits w32 c.min-low.result.z = search rules in
    let on_z = c.is_range.ensures c.if-not-is_range.false in
    let low_z = same _ _ low_fit_z first_z on_z.0 _ _ (ap (λ (t : Coord). t.z) c.min-low.ensures.corner) (ap (λ (t : Coord). t.z) c.min-first.ensures.corner ∙ ap (λ (b : Box). b.min.z) (around c.args.bits c.args.part.min c.args.p c.min-low.result _ c.min-low.ensures.corner c.block_in-block.ensures c.requires.one)) in
    let high_z = same _ _ high_fit_z end_z on_z.1 _ _ (ap (λ (t : Coord). t.z) c.max-high.ensures.corner) (ap (λ (t : Coord). t.z) c.max-last.ensures.corner ∙ ap (λ (b : Box). b.max.z) (around c.args.bits c.args.part.min c.args.p c.min-low.result _ c.min-low.ensures.corner c.block_in-block.ensures c.requires.one)) in
    let fit_y : SFits w32 c.min-y.result = search rules in
    let end_y : SFits w32 c.max-last.result.y = search rules in
    let high_fit_y : SFits w32 c.max-high.result.y = search rules in
    let at_y = least _ _ _ high_fit_y end_y c.min-y.ensures.value _ _ (ap (λ (t : Coord). t.y) c.max-high.ensures.corner) (ap (λ (t : Coord). t.y) c.max-last.ensures.corner ∙ ap (λ (b : Box). b.max.y) (around c.args.bits c.args.part.min c.args.p c.min-low.result _ c.min-low.ensures.corner c.block_in-block.ensures c.requires.one)) in
    let own_x : SFits w32 c.args.p.x = search rules in
    plane_to c.args.bits c.args.part c.args.p c.requires.inside low_z high_z _ _ _ (to_z-of_z w32 c.args.p.x own_x) (to_z-of_z w32 c.min-y.result fit_y ∙ at_y) (to_z-of_z w32 c.min-z.result fit_z ∙ at_z)

pub returns : goal.returns
returns c =
    let fit_z : SFits w32 c.min-z.result = search rules in
    let end_z : SFits w32 c.max-last.result.z = search rules in
    let high_fit_z : SFits w32 c.max-high.result.z = search rules in
    let at_z = least _ _ _ high_fit_z end_z c.min-z.ensures.value _ _ (ap (λ (t : Coord). t.z) c.max-high.ensures.corner) (ap (λ (t : Coord). t.z) c.max-last.ensures.corner ∙ ap (λ (b : Box). b.max.z) (around c.args.bits c.args.part.min c.args.p c.min-low.result _ c.min-low.ensures.corner c.block_in-block.ensures c.requires.one)) in
    let first_z : SFits w32 c.min-first.result.z = search rules in
    let low_fit_z : SFits w32 c.min-low.result.z = search rules in
    let on_z = c.is_range.ensures c.if-not-is_range.false in
    let low_z = same _ _ low_fit_z first_z on_z.0 _ _ (ap (λ (t : Coord). t.z) c.min-low.ensures.corner) (ap (λ (t : Coord). t.z) c.min-first.ensures.corner ∙ ap (λ (b : Box). b.min.z) (around c.args.bits c.args.part.min c.args.p c.min-low.result _ c.min-low.ensures.corner c.block_in-block.ensures c.requires.one)) in
    let high_z = same _ _ high_fit_z end_z on_z.1 _ _ (ap (λ (t : Coord). t.z) c.max-high.ensures.corner) (ap (λ (t : Coord). t.z) c.max-last.ensures.corner ∙ ap (λ (b : Box). b.max.z) (around c.args.bits c.args.part.min c.args.p c.min-low.result _ c.min-low.ensures.corner c.block_in-block.ensures c.requires.one)) in
    let fit_y : SFits w32 c.min-y.result = search rules in
    let end_y : SFits w32 c.max-last.result.y = search rules in
    let high_fit_y : SFits w32 c.max-high.result.y = search rules in
    let at_y = least _ _ _ high_fit_y end_y c.min-y.ensures.value _ _ (ap (λ (t : Coord). t.y) c.max-high.ensures.corner) (ap (λ (t : Coord). t.y) c.max-last.ensures.corner ∙ ap (λ (b : Box). b.max.y) (around c.args.bits c.args.part.min c.args.p c.min-low.result _ c.min-low.ensures.corner c.block_in-block.ensures c.requires.one)) in
    let first_y : SFits w32 c.min-first.result.y = search rules in
    let low_fit_y : SFits w32 c.min-low.result.y = search rules in
    let on_y = c.is_range-2.ensures c.if-not-is_range-2.false in
    let low_y = same _ _ low_fit_y first_y on_y.0 _ _ (ap (λ (t : Coord). t.y) c.min-low.ensures.corner) (ap (λ (t : Coord). t.y) c.min-first.ensures.corner ∙ ap (λ (b : Box). b.min.y) (around c.args.bits c.args.part.min c.args.p c.min-low.result _ c.min-low.ensures.corner c.block_in-block.ensures c.requires.one)) in
    let high_y = same _ _ high_fit_y end_y on_y.1 _ _ (ap (λ (t : Coord). t.y) c.max-high.ensures.corner) (ap (λ (t : Coord). t.y) c.max-last.ensures.corner ∙ ap (λ (b : Box). b.max.y) (around c.args.bits c.args.part.min c.args.p c.min-low.result _ c.min-low.ensures.corner c.block_in-block.ensures c.requires.one)) in
    let fit_x : SFits w32 c.min-x.result = search rules in
    let end_x : SFits w32 c.max-last.result.x = search rules in
    let high_fit_x : SFits w32 c.max-high.result.x = search rules in
    let at_x = least _ _ _ high_fit_x end_x c.min-x.ensures.value _ _ (ap (λ (t : Coord). t.x) c.max-high.ensures.corner) (ap (λ (t : Coord). t.x) c.max-last.ensures.corner ∙ ap (λ (b : Box). b.max.x) (around c.args.bits c.args.part.min c.args.p c.min-low.result _ c.min-low.ensures.corner c.block_in-block.ensures c.requires.one)) in
    whole_to c.args.bits c.args.part c.args.p c.requires.inside low_z high_z low_y high_y _ _ _ (to_z-of_z w32 c.min-x.result fit_x ∙ at_x) (to_z-of_z w32 c.min-y.result fit_y ∙ at_y) (to_z-of_z w32 c.min-z.result fit_z ∙ at_z)
