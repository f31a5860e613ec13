use Rattle.vdb_c.proofs.Common.{◌≡◌, ◌<◌, ◌∙◌, ap, arith, false, length, not, refl, sym, true}
use Rattle.vdb_tree.proofs.Blocks.{never}
use Rattle.vdb_tree.proofs.Uniform.{exact_by}
use Rattle.vdb_c.proofs.EqualCells.{denied, elements_same, one_more, refuted, same_elements}
use Rattle.vdb_c.proofs.grids.equality.are_equal_values.Goals as goal

pub returns-then-ne : goal.returns-then-ne
returns-then-ne g c =
    refuted false refl (λ all.
    let a = c.args.a.now in
    let b = c.args.b.now in
    let same = same_elements a b c.values.i c.index-a-i.result c.index-b-i.result c.index-a-i.is c.index-b-i.is (omega (arith, c.requires.second, c.values-test.true)) (all c.values.i c.values-test.true) in
    let equal : g.V.PartialEq.eq c.index-a-i.result c.index-b-i.result ≡ true = ap (g.V.PartialEq.eq c.index-a-i.result) (sym same) ∙ g.met.V.Eq.laws.refl c.index-a-i.result in
    never (ap not equal) (sym c.ne.ensures ∙ c.if-ne.true))

pub values-preserved : goal.values-preserved
values-preserved g c =
    let a = c.args.a.now in
    let b = c.args.b.now in
    let x = c.index-a-i.result in
    let y = c.index-b-i.result in
    let exact = exact_by g.V.PartialEq.eq g.V.Ord.cmp g.met.V.Ord.matches_eq g.met.V.Voxel.exact in
    let same = exact x y (denied (g.V.PartialEq.eq x y) (sym c.ne.ensures ∙ c.if-ne.false)) in
    let in_a : c.values.i < length a = omega (arith, c.requires.first, c.values-test.true) in
    let in_b : c.values.i < length b = omega (arith, c.requires.second, c.values-test.true) in
    one_more a b c.values.i c.values.invariant (elements_same a b c.values.i x y c.index-a-i.is c.index-b-i.is in_b in_a same)

pub returns : goal.returns
returns g c = (λ _ j h. c.values.invariant j (omega (arith, h, c.values-test.false)), λ _. refl)
