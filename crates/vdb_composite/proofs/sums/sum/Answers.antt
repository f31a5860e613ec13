use Rattle.vdb_composite.proofs.Common.{◌≡◌, ◌∙◌, refl, sym, rules, None, vdb, Field, field_of, exact_by}
use Rattle.vdb_composite.proofs.MixSums.{backgrounds_lack}
use Rattle.vdb_composite.proofs.sums.sum.Goals as goal

pub returns-in-None-clause-outcome : goal.returns-in-None-clause-outcome
returns-in-None-clause-outcome g c =
    let exact = exact_by g.V.PartialEq.eq g.V.Ord.cmp g.met.V.Ord.matches_eq g.met.V.Voxel.exact in
    let itself = g.met.V.Eq.laws.refl in
    let f : Field g.row.V.Denot = field_of vdb c.args.tree.now in
    let h : Field g.row.V.Denot = field_of vdb c.args.other.now in
    let configured = rw c.bits.ensures.value at c.bits.ensures.configured in
    let none : g.V.Voxel.sum_of f.background h.background ≡ None = rw (← c.background.ensures, ← c.background-2.ensures) (sym c.plus.ensures ∙ c.in-None.is) in (
      backgrounds_lack g.V.PartialEq.eq exact itself vdb configured f h g.V.Voxel.sum_of c.limit.result c.limit-2.result c.limit.ensures.kept (search rules) c.limit-2.ensures.kept (search rules) none,
      refl,
    )
