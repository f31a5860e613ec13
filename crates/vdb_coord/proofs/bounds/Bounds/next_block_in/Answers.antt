use Rattle.vdb_coord.proofs.Common.{◌≡◌, ◌∙◌, ◌+ℤ◌, ◌<ℤ◌, ◌≤ℤ◌, SFits, ap, arith, pos, refl, rules, to_z, true, false, w32, ℤ, ints, to_z-of_z, block_bits, Box, coord}
use Rattle.std.proofs.Common.{of_z}
use lib.Signed.{lt_z}
use Rattle.vdb_coord.proofs.Walk.{few_after, nearer_x, nearer_y, nearer_z, next_x, next_y, next_z, no_next, own_end}
use Rattle.vdb_coord.proofs.bounds.Bounds.next_block_in.Goals as goal

-- a number behind another that has one above it
bumped : (x m : ℤ) → SFits w32 x → SFits w32 m → lt_z (to_z w32 (of_z w32 x)) (to_z w32 (of_z w32 m)) ≡ true
    → (to_z w32 (of_z w32 (to_z w32 (of_z w32 x) +ℤ pos 1)) ≡ x +ℤ pos 1) × (x <ℤ m) × SFits w32 (x +ℤ pos 1)
bumped x m fx fm h =
    let less : x <ℤ m = let k = simp to_z-of_z at h in grind (arith, ints) in
    let fits : SFits w32 (x +ℤ pos 1) = grind (arith, ints) in
    (simp to_z-of_z, less, fits)

covered : (x m : ℤ) → SFits w32 x → SFits w32 m → lt_z (to_z w32 (of_z w32 x)) (to_z w32 (of_z w32 m)) ≡ false → m ≤ℤ x
covered x m fx fm h = let k = simp to_z-of_z at h in grind (arith, ints)

-- a number of 32 bits isn't past the greatest
greatest : (x : ℤ) → SFits w32 x → x ≤ℤ pos 2147483647
greatest x h = grind (arith, ints)

behind : (x l : ℤ) → x ≤ℤ l → x <ℤ (l +ℤ pos 1)
behind x l h = omega (arith, ints, h)

pub returns-then-last-max-clause-next : goal.returns-then-last-max-clause-next
returns-then-last-max-clause-next c =
    let last = c.max-last.ensures.corner ∙ ap (λ (b : Box). b.max) c.block_in.ensures in
    let max = c.max.ensures.corner in
    let x : SFits w32 c.args.p.x = search rules in
    let y : SFits w32 c.args.p.y = search rules in
    let lz : SFits w32 c.max-last.result.z = search rules in
    let mz : SFits w32 c.max.result.z = search rules in
    let z = bumped c.max-last.result.z c.max.result.z lz mz c.if-last-max.true in
    rw (to_z-of_z w32 c.args.p.x x, to_z-of_z w32 c.args.p.y y, z.0, last)
    (next_z c.args.bits c.args.level c.args.self c.args.p c.requires.inside (rw (last, max) at z.1))

pub returns-then-last-max-clause-nearer : goal.returns-then-last-max-clause-nearer
returns-then-last-max-clause-nearer c =
    let last = c.max-last.ensures.corner ∙ ap (λ (b : Box). b.max) c.block_in.ensures in
    let x : SFits w32 c.args.p.x = search rules in
    let y : SFits w32 c.args.p.y = search rules in
    let lz : SFits w32 c.max-last.result.z = search rules in
    let mz : SFits w32 c.max.result.z = search rules in
    let z = bumped c.max-last.result.z c.max.result.z lz mz c.if-last-max.true in
    let further = behind c.args.p.z c.max-last.result.z (rw last (own_end (block_bits c.args.bits c.args.level) c.args.p.z)) in
    rw (to_z-of_z w32 c.args.p.x x, to_z-of_z w32 c.args.p.y y, z.0)
    (nearer_z c.args.p (coord c.args.p.x c.args.p.y (c.max-last.result.z +ℤ pos 1)) (greatest _ x) (greatest _ y) (greatest _ z.2) (few_after _ y) (few_after _ z.2) refl refl further)

pub returns-then-last-max-2-clause-next : goal.returns-then-last-max-2-clause-next
returns-then-last-max-2-clause-next c =
    let last = c.max-last.ensures.corner ∙ ap (λ (b : Box). b.max) c.block_in.ensures in
    let x : SFits w32 c.args.p.x = search rules in
    let lz : SFits w32 c.max-last.result.z = search rules in
    let mz : SFits w32 c.max.result.z = search rules in
    let ly : SFits w32 c.max-last.result.y = search rules in
    let my : SFits w32 c.max-2.result.y = search rules in
    let low : SFits w32 c.min.result.z = search rules in
    let z = covered c.max-last.result.z c.max.result.z lz mz c.if-last-max.false in
    let y = bumped c.max-last.result.y c.max-2.result.y ly my c.if-last-max-2.true in
    rw (to_z-of_z w32 c.args.p.x x, y.0, to_z-of_z w32 c.min.result.z low, last, c.min.ensures.corner)
    (next_y c.args.bits c.args.level c.args.self c.args.p c.requires.inside (rw (last, c.max.ensures.corner) at z) (rw (last, c.max-2.ensures.corner) at y.1))

pub returns-then-last-max-2-clause-nearer : goal.returns-then-last-max-2-clause-nearer
returns-then-last-max-2-clause-nearer c =
    let last = c.max-last.ensures.corner ∙ ap (λ (b : Box). b.max) c.block_in.ensures in
    let x : SFits w32 c.args.p.x = search rules in
    let ly : SFits w32 c.max-last.result.y = search rules in
    let my : SFits w32 c.max-2.result.y = search rules in
    let low : SFits w32 c.min.result.z = search rules in
    let y = bumped c.max-last.result.y c.max-2.result.y ly my c.if-last-max-2.true in
    let further = behind c.args.p.y c.max-last.result.y (rw last (own_end (block_bits c.args.bits c.args.level) c.args.p.y)) in
    rw (to_z-of_z w32 c.args.p.x x, y.0, to_z-of_z w32 c.min.result.z low)
    (nearer_y c.args.p (coord c.args.p.x (c.max-last.result.y +ℤ pos 1) c.min.result.z) (greatest _ x) (greatest _ y.2) (greatest _ low) (few_after _ y.2) (few_after _ low) refl further)

pub returns-then-last-max-3-clause-next : goal.returns-then-last-max-3-clause-next
returns-then-last-max-3-clause-next c =
    let last = c.max-last.ensures.corner ∙ ap (λ (b : Box). b.max) c.block_in.ensures in
    let lz : SFits w32 c.max-last.result.z = search rules in
    let mz : SFits w32 c.max.result.z = search rules in
    let ly : SFits w32 c.max-last.result.y = search rules in
    let my : SFits w32 c.max-2.result.y = search rules in
    let lx : SFits w32 c.max-last.result.x = search rules in
    let mx : SFits w32 c.max-3.result.x = search rules in
    let low_y : SFits w32 c.min-then-last-max-3.result.y = search rules in
    let low_z : SFits w32 c.min-then-last-max-3-2.result.z = search rules in
    let z = covered c.max-last.result.z c.max.result.z lz mz c.if-last-max.false in
    let y = covered c.max-last.result.y c.max-2.result.y ly my c.if-last-max-2.false in
    let x = bumped c.max-last.result.x c.max-3.result.x lx mx c.if-last-max-3.true in
    rw (x.0, to_z-of_z w32 c.min-then-last-max-3.result.y low_y, to_z-of_z w32 c.min-then-last-max-3-2.result.z low_z, last, c.min-then-last-max-3.ensures.corner, c.min-then-last-max-3-2.ensures.corner)
    (next_x c.args.bits c.args.level c.args.self c.args.p c.requires.inside (rw (last, c.max.ensures.corner) at z) (rw (last, c.max-2.ensures.corner) at y) (rw (last, c.max-3.ensures.corner) at x.1))

pub returns-then-last-max-3-clause-nearer : goal.returns-then-last-max-3-clause-nearer
returns-then-last-max-3-clause-nearer c =
    let last = c.max-last.ensures.corner ∙ ap (λ (b : Box). b.max) c.block_in.ensures in
    let lx : SFits w32 c.max-last.result.x = search rules in
    let mx : SFits w32 c.max-3.result.x = search rules in
    let low_y : SFits w32 c.min-then-last-max-3.result.y = search rules in
    let low_z : SFits w32 c.min-then-last-max-3-2.result.z = search rules in
    let x = bumped c.max-last.result.x c.max-3.result.x lx mx c.if-last-max-3.true in
    let further = behind c.args.p.x c.max-last.result.x (rw last (own_end (block_bits c.args.bits c.args.level) c.args.p.x)) in
    rw (x.0, to_z-of_z w32 c.min-then-last-max-3.result.y low_y, to_z-of_z w32 c.min-then-last-max-3-2.result.z low_z)
    (nearer_x c.args.p (coord (c.max-last.result.x +ℤ pos 1) c.min-then-last-max-3.result.y c.min-then-last-max-3-2.result.z) (greatest _ x.2) (greatest _ low_y) (greatest _ low_z) (few_after _ low_y) (few_after _ low_z) further)

pub returns-clause-next : goal.returns-clause-next
returns-clause-next c =
    let last = c.max-last.ensures.corner ∙ ap (λ (b : Box). b.max) c.block_in.ensures in
    let lz : SFits w32 c.max-last.result.z = search rules in
    let mz : SFits w32 c.max.result.z = search rules in
    let ly : SFits w32 c.max-last.result.y = search rules in
    let my : SFits w32 c.max-2.result.y = search rules in
    let lx : SFits w32 c.max-last.result.x = search rules in
    let mx : SFits w32 c.max-3.result.x = search rules in
    let z = covered c.max-last.result.z c.max.result.z lz mz c.if-last-max.false in
    let y = covered c.max-last.result.y c.max-2.result.y ly my c.if-last-max-2.false in
    let x = covered c.max-last.result.x c.max-3.result.x lx mx c.if-last-max-3.false in
    no_next c.args.bits c.args.level c.args.self c.args.p c.requires.inside (rw (last, c.max.ensures.corner) at z) (rw (last, c.max-2.ensures.corner) at y) (rw (last, c.max-3.ensures.corner) at x)
