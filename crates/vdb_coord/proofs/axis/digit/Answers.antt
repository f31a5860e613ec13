-- The entry's number minus the first number of its block is the position.
use Rattle.vdb_coord.proofs.Common.{◌≡◌, ◌≤◌, ◌<◌, ◌+◌, ◌^◌, ◌+ℤ◌, ◌-ℤ◌, ℕ, ℤ, pos, SFits, w32, rules, arith, ap, refl, sym, subst, ◌∙◌, pow_mono, ints, to_z-of_z, digit, first_of, number_at}
use Rattle.vdb_coord.proofs.Digits.{digit_below, number_split, number_up}
use Rattle.vdb_coord.proofs.axis.digit.Goals as goal

less : (x y : ℤ) (r : ℕ) → x ≡ y +ℤ pos r → x -ℤ y ≡ pos r
less x y r e = omega (arith, ints, e)

small_fits : (bits d : ℕ) → bits ≤ 5 → d < 2 ^ bits → SFits w32 (pos d)
small_fits bits d few h = let most : 2 ^ bits ≤ 2 ^ 5 = pow_mono few in record { sfits = omega (arith, h, most) }

abbrev position : goal.After-first_around → ℕ
position c = digit c.args.low c.args.bits c.args.component

entry_is : (c : goal.After-first_around) → c.number_at-entry.result ≡ number_at c.args.low c.args.component
entry_is c = let component : SFits w32 c.args.component = c.ranges.component in simp to_z-of_z at c.number_at-entry.ensures

first_is : (c : goal.After-first_around) → c.first_around.result ≡ first_of c.args.bits (number_at (c.args.low + c.args.bits) c.args.component)
first_is c =
    let fe : SFits w32 c.number_at-entry.result = search rules in
    let first : c.first_around.result ≡ first_of c.args.bits (number_at c.args.bits c.number_at-entry.result) = simp to_z-of_z at c.first_around.ensures in
    first ∙ ap (first_of c.args.bits) (ap (number_at c.args.bits) (entry_is c) ∙ sym (number_up c.args.low c.args.bits c.args.component))

difference : (c : goal.After-first_around) → c.number_at-entry.result -ℤ c.first_around.result ≡ pos (position c)
difference c =
    less c.number_at-entry.result c.first_around.result (position c)
    (entry_is c ∙ number_split c.args.low c.args.bits c.args.component ∙ ap (λ y. y +ℤ pos (position c)) (sym (first_is c)))

left_fits : (c : goal.After-first_around) → SFits w32 (c.number_at-entry.result -ℤ c.first_around.result)
left_fits c =
    subst (λ x. SFits w32 x) (sym (difference c)) (small_fits c.args.bits (position c) c.requires.bits_fit (digit_below c.args.low c.args.bits c.args.component))

pub overflow_sub-result : goal.overflow_sub-result
overflow_sub-result c =
    let fe : SFits w32 c.number_at-entry.result = search rules in
    let ff : SFits w32 c.first_around.result = search rules in
    simp to_z-of_z (left_fits c)

pub overflow_cast-result : goal.overflow_cast-result
overflow_cast-result c =
    let fe : SFits w32 c.number_at-entry.result = search rules in
    let ff : SFits w32 c.first_around.result = search rules in
    let fl = left_fits c in
    let small = digit_below c.args.low c.args.bits c.args.component in
    let most : 2 ^ c.args.bits ≤ 2 ^ 5 = pow_mono c.requires.bits_fit in
    simp to_z-of_z (rw (difference c) (tt, record { fits = omega (arith, small, most) }))

pub returns-clause-value : goal.returns-clause-value
returns-clause-value c =
    let fe : SFits w32 c.number_at-entry.result = search rules in
    let ff : SFits w32 c.first_around.result = search rules in
    let fl = left_fits c in
    simp to_z-of_z (rw (difference c) refl)

pub returns-clause-bound : goal.returns-clause-bound
returns-clause-bound c = subst (λ d. d < 2 ^ c.args.bits) (sym (returns-clause-value c)) (digit_below c.args.low c.args.bits c.args.component)
