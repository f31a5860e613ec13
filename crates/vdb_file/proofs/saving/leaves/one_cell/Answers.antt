use Rattle.vdb_file.proofs.Common.{◌≡◌, ◌∙◌, rules, entries, vdb, Leaf, fits_everywhere, exact_by}
use Rattle.vdb_tree.proofs.Constants.{entries_some, last_ends, last_within}
use Rattle.vdb_file.proofs.LeafVoxels.{one_at, one_test}
use Rattle.vdb_file.proofs.Standard.{standard_bits, standard_leaf_small}
use Rattle.vdb_file.proofs.saving.leaves.one_cell.Goals as goal

pub overflow_sub-from : goal.overflow_sub-from
overflow_sub-from g c = rw (c.from.ensures, c.entries.ensures) (entries_some vdb Leaf c.args.p)

pub entry-requires : goal.entry-requires
entry-requires g c =
    let small = g.met.V.Stored-3.row_small in
    let count : c.from.result ≡ entries vdb Leaf = c.from.ensures ∙ c.entries.ensures in
    (standard_leaf_small _ _ _ small.1 small.1 small.0, last_within vdb Leaf c.args.p _ count)

pub returns-clause-test : goal.returns-clause-test
returns-clause-test g c =
    let exact = exact_by g.V.PartialEq.eq g.V.Ord.cmp g.met.V.Ord.matches_eq g.met.V.Voxel.exact in
    let count : c.from.result ≡ entries vdb Leaf = c.from.ensures ∙ c.entries.ensures in
    one_test g.V.PartialEq.eq exact g.met.V.Eq.laws.refl vdb standard_bits c.args.tree.now c.args.p
    (fits_everywhere c.args.p (search rules) (search rules) (search rules)) c.args.leaf.now c.requires c.constant.result c.constant.ensures _ (last_ends vdb Leaf c.args.p _ count) _ c.entry.ensures

pub returns-clause-cell : goal.returns-clause-cell
returns-clause-cell g c =
    let exact = exact_by g.V.PartialEq.eq g.V.Ord.cmp g.met.V.Ord.matches_eq g.met.V.Voxel.exact in
    one_at g.V.PartialEq.eq exact g.met.V.Eq.laws.refl vdb standard_bits c.args.tree.now c.args.p
    (fits_everywhere c.args.p (search rules) (search rules) (search rules)) c.args.leaf.now c.requires c.constant.result c.constant.ensures
