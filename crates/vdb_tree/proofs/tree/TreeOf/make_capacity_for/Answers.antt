use Rattle.vdb_tree.proofs.Common.{◌≡◌, ◌≢◌, ◌<◌, ◌≤◌, refl, rules, subst, sym, blocks_meeting, Upper, Field, fill, bits_of, field_of, roots}
use Rattle.vdb_tree.proofs.Equations.{keeps_field}
use Rattle.vdb_tree.proofs.Erasing.{background_stays}
use Rattle.vdb_tree.proofs.Capacities.{capacity_or_lack}
use Rattle.vdb_tree.proofs.tree.TreeOf.make_capacity_for.Goals as goal

pub returns-then-blocks_meeting_in-from-clause-full : goal.returns-then-blocks_meeting_in-from-clause-full
returns-then-blocks_meeting_in-from-clause-full g c =
    let bits = bits_of g.row.U g.row.L g.row.F in
    let wide : c.args.self.now.limit < blocks_meeting bits Upper c.args.bounds = search rules in
    (refl, λ cell other. c.keeps_fills_to_limit.ensures.wide wide cell other)

pub returns-then-has_capacity_for-clause-within : goal.returns-then-has_capacity_for-clause-within
returns-then-has_capacity_for-clause-within g c = c.keeps_fills_to_limit.ensures.within (c.has_capacity_for.ensures.capacity c.if-has_capacity_for.true)

pub returns-then-has_capacity_for-2-clause-within : goal.returns-then-has_capacity_for-2-clause-within
returns-then-has_capacity_for-2-clause-within g c = λ cell.
    let bits = bits_of g.row.U g.row.L g.row.F in
    let swept = field_of bits c.erase_background.new.self in
    let same : swept ≡ field_of bits c.args.self.now = keeps_field bits c.args.self.now c.erase_background.new.self c.erase_background.ensures.keeps in
    let h = c.keeps_fills_to_limit-2.ensures.within (c.has_capacity_for-2.ensures.capacity c.if-has_capacity_for-2.true) cell in
    subst (λ (f : Field g.row.V.Denot). roots g.V.PartialEq.eq bits (fill c.args.bounds cell f) ≤ c.args.self.now.limit) same
    (subst (λ n. roots g.V.PartialEq.eq bits (fill c.args.bounds cell swept) ≤ n) c.erase_background.ensures.keeps.head.limit h)

pub returns-clause-full : goal.returns-clause-full
returns-clause-full g c =
    let bits = bits_of g.row.U g.row.L g.row.F in
    let swept = field_of bits c.erase_background.new.self in
    let same : swept ≡ field_of bits c.args.self.now = keeps_field bits c.args.self.now c.erase_background.new.self c.erase_background.ensures.keeps in (
      refl,
      λ cell other.
          let h = c.keeps_fills_to_limit-2.ensures.full (c.has_capacity_for-2.ensures.full c.if-has_capacity_for-2.false) c.erase_background.ensures.swept cell
          (subst (λ d. cell ≢ d) (sym (background_stays bits c.args.self.now c.erase_background.new.self c.erase_background.ensures.keeps)) other) in
          subst (λ (f : Field g.row.V.Denot). c.args.self.now.limit < roots g.V.PartialEq.eq bits (fill c.args.bounds cell f)) same
          (subst (λ n. n < roots g.V.PartialEq.eq bits (fill c.args.bounds cell swept)) c.erase_background.ensures.keeps.head.limit h),
    )

pub returns-then-blocks_meeting_in-from-clause-stays : goal.returns-then-blocks_meeting_in-from-clause-stays
returns-then-blocks_meeting_in-from-clause-stays g c = λ capacity. refl

pub returns-then-has_capacity_for-2-clause-stays : goal.returns-then-has_capacity_for-2-clause-stays
returns-then-has_capacity_for-2-clause-stays g c = λ capacity. absurd (capacity_or_lack (bits_of g.row.U g.row.L g.row.F) c.args.self.now c.args.bounds capacity (c.has_capacity_for.ensures.full c.if-has_capacity_for.false))

pub returns-clause-stays : goal.returns-clause-stays
returns-clause-stays g c = λ capacity. absurd (capacity_or_lack (bits_of g.row.U g.row.L g.row.F) c.args.self.now c.args.bounds capacity (c.has_capacity_for.ensures.full c.if-has_capacity_for.false))
