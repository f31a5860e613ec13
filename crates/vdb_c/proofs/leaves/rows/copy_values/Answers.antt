use Rattle.vdb_c.proofs.Common.{◌≡◌, ◌+◌, ◌*◌, ◌≤◌, arith, length, rules, cell_in}
use Rattle.vdb_c.proofs.LeafRows.{run_put}
use Rattle.vdb_c.proofs.leaves.rows.copy_values.Goals as goal

pub returns : goal.returns
returns g c = λ d.
    let room : 512 * c.args.k + 512 ≤ length c.args.values.now = search rules in
    run_put (512 * c.args.k) 512 _ (λ i x. x ≡ g.V.Number.number_of (cell_in d c.args.leaf.now i).value) c.args.values.now c.copy_numbers.new.into (omega arith) room c.copy_numbers.ensures.length
    (λ i e l. c.copy_numbers.ensures.numbers d i e l)
