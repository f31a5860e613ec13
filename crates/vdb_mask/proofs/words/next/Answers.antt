use Rattle.vdb_mask.proofs.Common.{◌*◌, ◌%◌, ◌/◌, ◌≡◌, ℕ, arith, get_or, inl, inr, cases_lt}
use Rattle.vdb_mask.proofs.RowSearch.{Finds-from, Finds-matches, first_found, none_found}
use Rattle.vdb_mask.proofs.words.next.Goals as goal

pub returns-then-found-ne0 : goal.returns-then-found-ne0
returns-then-found-ne0 c =
    let k : ℕ = c.args.from / 64 in
    let r : ℕ = c.args.from % 64 in
    let finds = Finds-from c.args.value (get_or c.args.words.now k 0) c.matches.result r (omega arith) c.matches.type_inv c.matches.ensures.ones c.matches.ensures.zeros in
    let same : k * 64 ≡ 64 * k = omega arith in
    rw same
    (first_found c.args.value c.args.words.now k r _ c.if-first-words.false finds (omega (arith, c.if-found-ne0.true)) c.args.from
    (omega arith) (λ i least less. absurd (omega (arith, least, less))))

pub words-init : goal.words-init
words-init c =
    let k : ℕ = c.args.from / 64 in
    let r : ℕ = c.args.from % 64 in
    let finds = Finds-from c.args.value (get_or c.args.words.now k 0) c.matches.result r (omega arith) c.matches.type_inv c.matches.ensures.ones c.matches.ensures.zeros in
    λ i least less.
    none_found c.args.value c.args.words.now k r _ c.if-first-words.false finds c.if-found-ne0.false i (omega (arith, least)) (omega (arith, less))

pub returns-then-found-ne0-2 : goal.returns-then-found-ne0-2
returns-then-found-ne0-2 c =
    let k : ℕ = c.words.k in
    let finds =
    Finds-matches c.args.value (get_or c.args.words.now k 0) c.matches-found.result c.matches-found.type_inv c.matches-found.ensures.ones
    c.matches-found.ensures.zeros in
    let same : k * 64 ≡ 64 * k = omega arith in
    rw same
    (first_found c.args.value c.args.words.now k 0 _ c.words-test.true finds (omega (arith, c.if-found-ne0-2.true)) c.args.from
    (omega (arith, c.words.auto.k)) (λ i least less. c.words.invariant i least (omega (arith, less))))

pub words-preserved : goal.words-preserved
words-preserved c =
    let k : ℕ = c.words.k in
    let finds =
    Finds-matches c.args.value (get_or c.args.words.now k 0) c.matches-found.result c.matches-found.type_inv c.matches-found.ensures.ones
    c.matches-found.ensures.zeros in
    λ i least less.
    elim (cases_lt i (64 * k)) [
      | inl h ↦ c.words.invariant i least h
      | inr h ↦
          none_found c.args.value c.args.words.now k 0 _ c.words-test.true finds c.if-found-ne0-2.false i (omega (arith, h)) (omega (arith, less))
    ]
