use Rattle.vdb_c.proofs.Common.{rules, subst, w32, SFits, ℕ, Some, Option, to_z-of_z, Writes}
use Rattle.vdb_c.proofs.voxels.write.Goals as goal

pub returns : goal.returns
returns c =
    let fits : SFits w32 c.tree_code.result = search rules in
    let number : SFits w32 c.args.number = search rules in
    let accessor = (rw (to_z-of_z w32 c.args.number number) at c.in-Some-accessor.ensures) in
    rw (c.in-Some.is, to_z-of_z w32 c.tree_code.result fits)
    (subst (λ (o : Option (Option ℕ)). Writes o c.args.at (Some c.in-Some.change) c.args.grid.now c.write.new.self c.tree_code.result) accessor
    ((c.write.ensures.limit, (c.write.result, c.tree_code.ensures, (c.write.ensures.outcome, c.write.ensures.memory))), c.write.ensures.elsewhere))
