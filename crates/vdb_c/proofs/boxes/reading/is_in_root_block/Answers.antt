use Rattle.vdb_c.proofs.Common.{◌≡◌, ◌∙◌, ap, subst, sym, true, IsTrue, IsSome, key, vdb, Box, is_inside, is_within, Coord, number_in_block, root_at}
use Rattle.vdb_coord.specs.Blocks.{block, block_numbers}
use Rattle.vdb_coord.specs.declared.Bits.{Bits}
use Rattle.vdb_coord.specs.declared.Level.TheVariants.{Upper}
use Rattle.vdb_coord.proofs.Meeting.{within_each}
use Rattle.vdb_c.proofs.boxes.reading.is_in_root_block.Goals as goal

pub numbered_block_in-requires-clause-within : goal.numbered_block_in-requires-clause-within
numbered_block_in-requires-clause-within g c =
    subst (λ (b : Bits). IsTrue (is_inside (block_numbers b Upper) c.in-Some.next)) (sym c.bits.ensures.value) (c.in-Some.ensures.inside c.in-Some.next c.in-Some.ensures.least.0)

pub returns : goal.returns
returns g c = λ h q i.
    let next = c.in-Some.next in
    let around = c.numbered_block_in.result in
    let covers : is_within c.args.bounds around ≡ true = sym c.covers.ensures ∙ h in
    let inside : is_inside around q ≡ true = within_each c.args.bounds around q covers i in
    let here : key vdb q ≡ next = number_in_block vdb Upper next q (subst (λ (b : Box). is_inside b q ≡ true) (c.numbered_block_in.ensures ∙ ap (λ (b : Bits). block b Upper next) c.bits.ensures.value) inside) in
    subst (λ (k : Coord). IsSome (root_at c.args.tree.now.root k)) (sym here) c.in-Some.ensures.least.0
