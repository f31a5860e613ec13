use Rattle.vdb_tree.proofs.Common.{◌≡◌, ◌≤◌, ◌<◌, sym, subst, refl, key, Field, AreSameCells, IsAlteredIn, bits_of, field_of, roots}
use Rattle.vdb_tree.proofs.Blocks.{never}
use Rattle.vdb_tree.proofs.Equations.{keeps_field}
use Rattle.vdb_tree.proofs.tree.TreeOf.make_capacity.Goals as goal

pub returns-then-has_capacity-clause-within : goal.returns-then-has_capacity-clause-within
returns-then-has_capacity-clause-within g c = c.keeps_to_limit.ensures.within (c.has_capacity.ensures.0 c.if-has_capacity.true)

pub returns-then-has_capacity-2-clause-within : goal.returns-then-has_capacity-2-clause-within
returns-then-has_capacity-2-clause-within g c = λ changed altered.
    let bits = bits_of g.row.U g.row.L g.row.F in
    let swept = field_of bits c.erase_background.new.self in
    let same : swept ≡ field_of bits c.args.self.now = keeps_field bits c.args.self.now c.erase_background.new.self c.erase_background.ensures.keeps in
    let h = c.keeps_to_limit-2.ensures.within (c.has_capacity-2.ensures.0 c.if-has_capacity-2.true) changed
    (subst (λ (f : Field g.row.V.Denot). IsAlteredIn bits (key bits c.args.p) f changed) (sym same) altered) in
    subst (λ n. roots g.V.PartialEq.eq bits changed ≤ n) c.erase_background.ensures.keeps.head.limit h

pub returns-clause-full : goal.returns-clause-full
returns-clause-full g c =
    let bits = bits_of g.row.U g.row.L g.row.F in
    let swept = field_of bits c.erase_background.new.self in
    let same : swept ≡ field_of bits c.args.self.now = keeps_field bits c.args.self.now c.erase_background.new.self c.erase_background.ensures.keeps in (
      refl,
      λ changed altered differs.
          let h = c.keeps_to_limit-2.ensures.full (λ capacity. never c.if-has_capacity-2.false (c.has_capacity-2.ensures.1 capacity)) c.erase_background.ensures.swept changed
          (subst (λ (f : Field g.row.V.Denot). IsAlteredIn bits (key bits c.args.p) f changed) (sym same) altered)
          (λ cells. differs (subst (λ (f : Field g.row.V.Denot). AreSameCells f changed) same cells)) in
          subst (λ n. n < roots g.V.PartialEq.eq bits changed) c.erase_background.ensures.keeps.head.limit h,
    )
