use Rattle.vdb_c.proofs.Common.{◌∙◌, ap, rules, subst, w32, w64, SFits, Some, ⊤, Option, option_map, to_z-of_z, coord, Write, AnyGrid, Scalar, OnHeld, Writes, grid_kind, write_of, accessor_of, is_on, value_of}
use Rattle.vdb_c.proofs.voxels.set_far.Goals as goal

pub returns : goal.returns
returns c =
    let fits : SFits w32 c.write.result = search rules in
    let number : SFits w32 c.args.number = search rules in
    let x : SFits w32 c.args.x = search rules in
    let y : SFits w32 c.args.y = search rules in
    let z : SFits w32 c.args.z = search rules in
    let given : SFits w64 c.args.given = search rules in
    let active : SFits w32 c.args.active = search rules in
    let same = ap Some (c.set_near.ensures.untouched c.if-set_near.false) ∙ c.in-Some.ensures.value in
    let on = (rw (to_z-of_z w32 c.args.active active) at c.is_on-2.ensures) in
    let change = (rw (to_z-of_z w64 c.args.given given, on, c.kind.ensures) at c.cell_write-change.ensures.write) in
    let far = subst (λ (w : Option (Write Scalar)). Writes (accessor_of c.args.number) (coord c.args.x c.args.y c.args.z) w c.set_near.new.grid c.write.new.grid c.write.result) change
    (rw (to_z-of_z w32 c.args.number number, to_z-of_z w32 c.args.x x, to_z-of_z w32 c.args.y y, to_z-of_z w32 c.args.z z) at c.write.ensures) in
    rw (to_z-of_z w32 c.write.result fits)
    (subst (λ (o : Option AnyGrid). OnHeld o (Some c.write.new.grid) c.write.result ⊤ (λ g h. Writes (accessor_of c.args.number) (coord c.args.x c.args.y c.args.z) (option_map (write_of (is_on c.args.active)) (value_of (grid_kind g) c.args.given)) g h c.write.result)) same far)
