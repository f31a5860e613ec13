use Rattle.vdb_c.proofs.Common.{◌≡◌, ◌∙◌, ◌<◌, ap, rules, get_or, length, pos, set, SFits, w64, to_z-of_z, get_or_default, vdb, field_of, Cell, corner_coord, state_byte, Corner}
use Rattle.vdb_c.proofs.Filled.{beside_fits, byte_is, filled_all, filled_next}
use Rattle.vdb_c.proofs.voxels.many.read_voxels.Goals as goal

abbrev start : Corner
start = record { x = pos 0; y = pos 0; z = pos 0 }

pub loop-k-preserved : goal.loop-k-preserved
loop-k-preserved g c =
    let f = field_of vdb c.args.tree.now in
    let inv = c.loop-k.invariant in
    let at = c.args.at.now in
    let here = get_or at c.loop-k.k start in
    let below : c.loop-k.k < length at = c.loop-k-test.true in
    let cell : c.read_near-cell.result ≡ f.cell (corner_coord here) = c.read_near-cell.ensures.cell ∙ ap f.cell c.coord.ensures in
    let fits : SFits w64 c.number.result = search rules in
    record {
      lives = c.read_near-cell.ensures.lives;
      values =
          filled_next (λ q. g.V.Number.number_of (f.cell (corner_coord q)).value) at c.loop-k.values c.store.new.out c.loop-k.k here c.number.result below (get_or_default at c.loop-k.k start here below)
          (c.number.ensures ∙ ap (λ (q : Cell g.row.V.Denot). g.V.Number.number_of q.value) cell) (c.store.ensures ∙ ap (set c.loop-k.values c.loop-k.k) (to_z-of_z w64 c.number.result fits)) inv.values;
      states =
          filled_next (λ q. state_byte (f.cell (corner_coord q)).on) at c.loop-k.states c.store-in-loop-k.new.out c.loop-k.k here c.from.result below (get_or_default at c.loop-k.k start here below)
          (c.from.ensures ∙ byte_is c.read_near-cell.result.on ∙ ap (λ (q : Cell g.row.V.Denot). state_byte q.on) cell) c.store-in-loop-k.ensures inv.states;
    }

pub returns-clause-values : goal.returns-clause-values
returns-clause-values g c =
    filled_all (λ q. g.V.Number.number_of ((field_of vdb c.args.tree.now).cell (corner_coord q)).value) c.args.at.now c.args.values.now c.loop-k.values c.loop-k.k start c.loop-k.auto.values c.loop-k-test.false
    (beside_fits (length c.args.at.now) (length c.args.values.now) c.requires.values) c.loop-k.invariant.values

pub returns-clause-states : goal.returns-clause-states
returns-clause-states g c =
    filled_all (λ q. state_byte ((field_of vdb c.args.tree.now).cell (corner_coord q)).on) c.args.at.now c.args.states.now c.loop-k.states c.loop-k.k start c.loop-k.auto.states c.loop-k-test.false
    (beside_fits (length c.args.at.now) (length c.args.states.now) c.requires.states) c.loop-k.invariant.states
