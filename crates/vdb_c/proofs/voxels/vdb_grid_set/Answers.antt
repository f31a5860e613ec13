use Rattle.vdb_c.proofs.Common.{◌∙◌, ap, rules, subst, w32, w64, SFits, Some, ⊤, Option, option_map, to_z-of_z, coord, AnyGrid, OnHeld, Writes, grid_kind, write_of, accessor_of, is_on, value_of}
use Rattle.vdb_c.proofs.voxels.vdb_grid_set.Goals as goal

pub returns : goal.returns
returns c =
    let fits : SFits w32 c.set_far.result = search rules in
    let number : SFits w32 c.args.number = search rules in
    let x : SFits w32 c.args.x = search rules in
    let y : SFits w32 c.args.y = search rules in
    let z : SFits w32 c.args.z = search rules in
    let given : SFits w64 c.args.given = search rules in
    let active : SFits w32 c.args.active = search rules in
    let same = ap Some (c.set_near.ensures.untouched c.if-set_near.false) ∙ c.in-Some.ensures.value in
    let far = (rw (to_z-of_z w32 c.args.number number, to_z-of_z w32 c.args.x x, to_z-of_z w32 c.args.y y, to_z-of_z w32 c.args.z z, to_z-of_z w64 c.args.given given, to_z-of_z w32 c.args.active active) at c.set_far.ensures) in
    rw (to_z-of_z w32 c.set_far.result fits)
    (subst (λ (o : Option AnyGrid). OnHeld o c.set_far.new.handle.grid.held c.set_far.result ⊤ (λ g h. Writes (accessor_of c.args.number) (coord c.args.x c.args.y c.args.z) (option_map (write_of (is_on c.args.active)) (value_of (grid_kind g) c.args.given)) g h c.set_far.result)) same far)
