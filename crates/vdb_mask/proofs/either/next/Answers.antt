use Rattle.vdb_mask.proofs.Common.{◌*◌, ◌%◌, ◌/◌, ◌≡◌, ℕ, arith, inl, inr, cases_lt}
use Rattle.std.proofs.lemmas.Nat.{or_lt}
use Rattle.vdb_mask.proofs.EitherSearch.{first_shown, none_shown, Shows-either, Shows-from}
use Rattle.vdb_mask.proofs.either.next.Goals as goal

pub returns-then-either-ne0 : goal.returns-then-either-ne0
returns-then-either-ne0 c =
    let k : ℕ = c.args.from / 64 in
    let r : ℕ = c.args.from % 64 in
    let shows =
    Shows-from _ k r _ (omega arith)
    (Shows-either c.args.value c.args.words.now c.args.others.now k c.matches.result
    (or_lt 64 _ _ (c.type_inv.words k).fits c.matches.type_inv) c.matches.ensures.ones c.matches.ensures.zeros) in
    let same : k * 64 ≡ 64 * k = omega arith in
    rw same
    (first_shown _ k r _ shows (omega (arith, c.if-either-ne0.true)) _ c.if-first-words.false c.args.from (omega arith)
    (λ i least less. absurd (omega (arith, least, less))))

pub words-init : goal.words-init
words-init c =
    let k : ℕ = c.args.from / 64 in
    let r : ℕ = c.args.from % 64 in
    let shows =
    Shows-from _ k r _ (omega arith)
    (Shows-either c.args.value c.args.words.now c.args.others.now k c.matches.result
    (or_lt 64 _ _ (c.type_inv.words k).fits c.matches.type_inv) c.matches.ensures.ones c.matches.ensures.zeros) in
    λ i least less. none_shown _ k r _ shows c.if-either-ne0.false i (omega (arith, least)) (omega (arith, less))

pub returns-then-either-ne0-2 : goal.returns-then-either-ne0-2
returns-then-either-ne0-2 c =
    let k : ℕ = c.words.k in
    let shows =
    Shows-either c.args.value c.args.words.now c.args.others.now k c.matches-in-words.result
    (or_lt 64 _ _ (c.type_inv.words k).fits c.matches-in-words.type_inv) c.matches-in-words.ensures.ones c.matches-in-words.ensures.zeros in
    let same : k * 64 ≡ 64 * k = omega arith in
    rw same
    (first_shown _ k 0 _ shows (omega (arith, c.if-either-ne0-2.true)) _ c.words-test.true c.args.from
    (omega (arith, c.words.auto.k)) (λ i least less. c.words.invariant i least (omega (arith, less))))

pub words-preserved : goal.words-preserved
words-preserved c =
    let k : ℕ = c.words.k in
    let shows =
    Shows-either c.args.value c.args.words.now c.args.others.now k c.matches-in-words.result
    (or_lt 64 _ _ (c.type_inv.words k).fits c.matches-in-words.type_inv) c.matches-in-words.ensures.ones c.matches-in-words.ensures.zeros in
    λ i least less.
    elim (cases_lt i (64 * k)) [
      | inl h ↦ c.words.invariant i least h
      | inr h ↦ none_shown _ k 0 _ shows c.if-either-ne0-2.false i (omega (arith, h)) (omega (arith, less))
    ]
