use Rattle.vdb_tree.proofs.Common.{◌≡◌, ◌<◌, ◌≤◌, refl, subst, roots, Field, unite, bits_of, field_of}
use Rattle.vdb_tree.proofs.Equations.{keeps_field}
use Rattle.vdb_tree.proofs.tree.TreeOf.make_capacity_for_active.Goals as goal

pub returns-then-has_capacity_for_active-clause-within : goal.returns-then-has_capacity_for_active-clause-within
returns-then-has_capacity_for_active-clause-within g c = c.keeps_unions_to_limit.ensures.within (c.has_capacity_for_active.ensures.capacity c.if-has_capacity_for_active.true)

pub returns-then-has_capacity_for_active-2-clause-within : goal.returns-then-has_capacity_for_active-2-clause-within
returns-then-has_capacity_for_active-2-clause-within g c =
    let bits = bits_of g.row.U g.row.L g.row.F in
    let swept = field_of bits c.erase_background.new.self in
    let added = field_of bits c.args.other.now in
    let same : swept ≡ field_of bits c.args.self.now = keeps_field bits c.args.self.now c.erase_background.new.self c.erase_background.ensures.keeps in
    let h = c.keeps_unions_to_limit-2.ensures.within (c.has_capacity_for_active-2.ensures.capacity c.if-has_capacity_for_active-2.true) in
    subst (λ (f : Field g.row.V.Denot). roots g.V.PartialEq.eq bits (unite f added) ≤ c.args.self.now.limit) same
    (subst (λ n. roots g.V.PartialEq.eq bits (unite swept added) ≤ n) c.erase_background.ensures.keeps.head.limit h)

pub returns-clause-full : goal.returns-clause-full
returns-clause-full g c =
    let bits = bits_of g.row.U g.row.L g.row.F in
    let swept = field_of bits c.erase_background.new.self in
    let added = field_of bits c.args.other.now in
    let same : swept ≡ field_of bits c.args.self.now = keeps_field bits c.args.self.now c.erase_background.new.self c.erase_background.ensures.keeps in
    let h = c.keeps_unions_to_limit-2.ensures.full (c.has_capacity_for_active-2.ensures.full c.if-has_capacity_for_active-2.false) c.erase_background.ensures.swept in (
      refl,
      subst (λ (f : Field g.row.V.Denot). c.args.self.now.limit < roots g.V.PartialEq.eq bits (unite f added)) same
          (subst (λ n. n < roots g.V.PartialEq.eq bits (unite swept added)) c.erase_background.ensures.keeps.head.limit h),
    )
