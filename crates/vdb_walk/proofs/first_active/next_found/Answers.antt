use Rattle.vdb_walk.proofs.Common.{◌∙◌, None, Some, subst, sym, Box, bits_of, field_of, YieldsBox, IsActivePast, IsFirst}
use Rattle.vdb_walk.proofs.PartSeeks.{first_of_all, held_is, listing_end, listing_next, none_at_end, none_in_part}
use Rattle.vdb_walk.proofs.first_active.next_found.Goals as goal

pub returns-in-Some-first_in-clause-first : goal.returns-in-Some-first_in-clause-first
returns-in-Some-first_in-clause-first g c =
    let bits = bits_of g.row.U g.row.L g.row.F in
    let t = c.args.tree.now in
    let held = c.without_leaf-held.result in
    let same = c.without_leaf-held.ensures.bounds in
    let cells = held_is bits t c.in-Some.part held same c.without_leaf-held.ensures.tile (record { tile = c.in-Some.ensures.tile; leaf = c.in-Some.ensures.leaf }) in
    let yields : YieldsBox bits t c.parts.walk c.next_part.new.walk held.bounds = subst (λ (b : Box). YieldsBox bits t c.parts.walk c.next_part.new.walk b) (sym same) c.in-Some.ensures.part in
    let listing = listing_next bits t c.args.after c.parts.walk c.next_part.new.walk c.parts.invariant.listing held c.next_part.ensures.walk yields cells in
    let first = subst (λ (b : Box). IsFirst bits (IsActivePast bits c.args.after (field_of bits t)) b (Some c.in-Some-first_in.item.0)) (sym same) c.in-Some-first_in.ensures.first in
    let all = first_of_all bits t c.args.after c.next_part.new.walk held listing c.in-Some-first_in.item.0 first in
    subst (λ (b : Box). IsFirst bits (IsActivePast bits c.args.after (field_of bits t)) b (Some c.in-Some-first_in.item.0)) (yields.passes.box ∙ c.parts.invariant.bounds) all

pub returns-in-Some-first_in-clause-some : goal.returns-in-Some-first_in-clause-some
returns-in-Some-first_in-clause-some g c =
    let bits = bits_of g.row.U g.row.L g.row.F in
    let t = c.args.tree.now in
    let held = c.without_leaf-held.result in
    let same = c.without_leaf-held.ensures.bounds in
    let cells = held_is bits t c.in-Some.part held same c.without_leaf-held.ensures.tile (record { tile = c.in-Some.ensures.tile; leaf = c.in-Some.ensures.leaf }) in
    let yields : YieldsBox bits t c.parts.walk c.next_part.new.walk held.bounds = subst (λ (b : Box). YieldsBox bits t c.parts.walk c.next_part.new.walk b) (sym same) c.in-Some.ensures.part in
    let listing = listing_next bits t c.args.after c.parts.walk c.next_part.new.walk c.parts.invariant.listing held c.next_part.ensures.walk yields cells in
    listing

pub parts-preserved : goal.parts-preserved
parts-preserved g c =
    let bits = bits_of g.row.U g.row.L g.row.F in
    let t = c.args.tree.now in
    let held = c.without_leaf-held.result in
    let same = c.without_leaf-held.ensures.bounds in
    let cells = held_is bits t c.in-Some.part held same c.without_leaf-held.ensures.tile (record { tile = c.in-Some.ensures.tile; leaf = c.in-Some.ensures.leaf }) in
    let yields : YieldsBox bits t c.parts.walk c.next_part.new.walk held.bounds = subst (λ (b : Box). YieldsBox bits t c.parts.walk c.next_part.new.walk b) (sym same) c.in-Some.ensures.part in
    let listing = listing_next bits t c.args.after c.parts.walk c.next_part.new.walk c.parts.invariant.listing held c.next_part.ensures.walk yields cells in
    let first = subst (λ (b : Box). IsFirst bits (IsActivePast bits c.args.after (field_of bits t)) b None) (sym same) c.in_default-first_in.ensures.first in
    record {
      listing = none_in_part bits t c.args.after c.next_part.new.walk held listing first;
      bounds = yields.passes.box ∙ c.parts.invariant.bounds;
    }

pub returns-clause-first : goal.returns-clause-first
returns-clause-first g c =
    let bits = bits_of g.row.U g.row.L g.row.F in
    subst (λ (b : Box). IsFirst bits (IsActivePast bits c.args.after (field_of bits c.args.tree.now)) b None) c.parts.invariant.bounds
    (none_at_end bits c.args.tree.now c.args.after c.parts.walk c.next_part.new.walk c.parts.invariant.listing c.in_default.ensures.end c.in_default.ensures.none_left)

pub returns-clause-none : goal.returns-clause-none
returns-clause-none g c =
    let bits = bits_of g.row.U g.row.L g.row.F in
    listing_end bits c.args.tree.now c.args.after c.parts.walk c.next_part.new.walk c.parts.invariant.listing c.in_default.ensures.end c.in_default.ensures.none_left c.next_part.ensures.walk
