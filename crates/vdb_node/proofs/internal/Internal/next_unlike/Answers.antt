use Rattle.vdb_node.proofs.Common.{◌≡◌, ◌<◌, ◌≤◌, ℕ, false, arith, inl, inr, cases_lt, is_on, entry_count}
use Rattle.vdb_node.proofs.Entries.{no_tile_of, tile_of}
use Rattle.vdb_node.proofs.internal.Internal.next_unlike.Goals as goal

-- what holds before a part and in it
and_on : (P : ℕ → Type 0) (from start end : ℕ) → ((i : ℕ) → from ≤ i → i < start → P i) → ((i : ℕ) → start ≤ i → i < end → P i)
    → (i : ℕ) → from ≤ i → i < end → P i
and_on P from start end before here i least less =
    elim (cases_lt i start) [
      | inl h ↦ before i least h
      | inr h ↦ here i h less
    ]

pub returns-then-found-end : goal.returns-then-found-end
returns-then-found-end g c =
    let found : ℕ = c.next_unlike-found.result in
    let marked : ℕ = c.next_marked-marked.result in
    let within : found < entry_count g.row.LOG2 = omega (arith, c.if-found-end.true, c.min-end.ensures, c.entries-count.ensures) in
    let far = c.next_unlike-found.ensures.within in
    rw (← c.self.view_is)
    (record {
      within = within;
      from_on = omega (arith, c.parts.invariant.least, c.next_unlike-found.ensures.least);
      here = no_tile_of g.V.Stored.slot_of c.self.inside.children c.self.inside.states (g.V.Stored.value_in c.self.inside.values) c.self.inside.slots.items
          (entry_count g.row.LOG2) found c.args.cell within
          (λ off value on.
          elim (cases_lt found marked) [
            | inl h ↦ c.next_unlike-found.ensures.here h value
            | inr h ↦
                let at : found ≡ marked = omega (arith, h, far) in
                c.next_marked-marked.ensures.here (omega (arith, at, c.if-found-end.true)) (rw at at off) (rw at at on)
          ]);
      before = λ i least less.
          tile_of g.V.Stored.slot_of c.self.inside.children c.self.inside.states (g.V.Stored.value_in c.self.inside.values) c.self.inside.slots.items
          (entry_count g.row.LOG2) i c.args.cell (omega (arith, less, within))
          (and_on (λ j. is_on c.self.inside.children j ≡ false) c.args.from c.parts.start found c.parts.invariant.unmarked
          (λ j low high. c.next_marked-marked.ensures.unmarked j low (omega (arith, high, far))) i least less)
          (and_on (λ j. g.V.Stored.value_in c.self.inside.values j ≡ c.args.cell.value) c.args.from c.parts.start found c.parts.invariant.values
          c.next_unlike-found.ensures.before i least less)
          (and_on (λ j. is_on c.self.inside.states j ≡ c.args.cell.on) c.args.from c.parts.start found c.parts.invariant.same
          (λ j low high. c.next_marked-marked.ensures.same j low (omega (arith, high, far))) i least less);
    })

pub parts-preserved : goal.parts-preserved
parts-preserved g c =
    let end : ℕ = c.min-end.result in
    let found : ℕ = c.next_unlike-found.result in
    let marked : ℕ = c.next_marked-marked.result in
    let whole : end ≤ found = c.if-found-end.false in
    let far : end ≤ marked = omega (arith, whole, c.next_unlike-found.ensures.within) in
    record {
      least = omega (arith, c.parts.invariant.least, c.next_marked-marked.ensures.least, c.next_marked-marked.ensures.within);
      within = omega (arith, c.min-end.ensures);
      unmarked = and_on (λ j. is_on c.self.inside.children j ≡ false) c.args.from c.parts.start end c.parts.invariant.unmarked
          (λ j low high. c.next_marked-marked.ensures.unmarked j low (omega (arith, high, far)));
      values = and_on (λ j. g.V.Stored.value_in c.self.inside.values j ≡ c.args.cell.value) c.args.from c.parts.start end c.parts.invariant.values
          (λ j low high. c.next_unlike-found.ensures.before j low (omega (arith, high, whole)));
      same = and_on (λ j. is_on c.self.inside.states j ≡ c.args.cell.on) c.args.from c.parts.start end c.parts.invariant.same
          (λ j low high. c.next_marked-marked.ensures.same j low (omega (arith, high, far)));
    }

pub returns : goal.returns
returns g c =
    let all : entry_count g.row.LOG2 ≤ c.parts.start = omega (arith, c.parts-test.false, c.entries-count.ensures) in
    rw (← c.self.view_is)
    (λ i least below.
    let less : i < c.parts.start = omega (arith, below, all) in
    tile_of g.V.Stored.slot_of c.self.inside.children c.self.inside.states (g.V.Stored.value_in c.self.inside.values) c.self.inside.slots.items
    (entry_count g.row.LOG2) i c.args.cell below (c.parts.invariant.unmarked i least less) (c.parts.invariant.values i least less)
    (c.parts.invariant.same i least less))
