use Rattle.vdb_tree.proofs.Common.{◌∙◌, ◌+◌, ℕ, arith, sym, subst, bits_of}
use Rattle.vdb_tree.proofs.EntryCounts.{next_fits}
use Rattle.vdb_tree.proofs.NextLeaf.{IsUpperPassed, upper_end, upper_found, upper_next}
use Rattle.vdb_tree.proofs.tree.TreeOf.next_leaf_of_upper.Goals as goal

pub returns-then-is_some : goal.returns-then-is_some
returns-then-is_some g c =
    upper_found (bits_of g.row.U g.row.L g.row.F) c.args.self.now c.args.p c.args.from c.loop-corner.next c.loop-corner.invariant.0 c.in-Some.corner c.in-Some.ensures
    c.next_leaf_of_lower-found.result (sym c.is_some.ensures ∙ c.if-is_some.true) c.next_leaf_of_lower-found.ensures

pub overflow_add-next : goal.overflow_add-next
overflow_add-next g c = let h = next_fits c.offset-next.result g.row.U c.self.invariant.0.bits.0.1 c.offset-next.ensures.within in omega (arith, h)

pub loop-corner-preserved : goal.loop-corner-preserved
loop-corner-preserved g c =
    let bits = bits_of g.row.U g.row.L g.row.F in
    let t = c.args.self.now in
    let h = c.offset-next.ensures.within in (
      subst (λ (n : ℕ). IsUpperPassed bits t c.args.p c.args.from (n + 1)) (sym c.offset-next.ensures.value)
          (upper_next bits t c.args.p c.args.from c.loop-corner.next c.loop-corner.invariant.0 c.in-Some.corner c.in-Some.ensures
          c.next_leaf_of_lower-found.result (sym c.is_some.ensures ∙ c.if-is_some.false) c.next_leaf_of_lower-found.ensures),
      omega (arith, h),
    )

pub returns : goal.returns
returns g c = upper_end (bits_of g.row.U g.row.L g.row.F) c.args.self.now c.args.p c.args.from c.loop-corner.next c.loop-corner.invariant.0 c.in_default.ensures
