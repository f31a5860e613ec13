use Rattle.vdb_walk.proofs.Common.{◌≡◌, ◌∙◌, ap, refl, rules, entries, Leaf, bits_of, leaf_small, exact_by}
use Rattle.vdb_coord.proofs.Meeting.{fits_everywhere}
use Rattle.vdb_tree.proofs.Constants.{entries_some, last_ends, last_within}
use Rattle.vdb_walk.proofs.LeafTests.{leaf_test, same_cells}
use Rattle.vdb_walk.proofs.node_census.leaf_differs.Goals as goal

pub returns-in-None : goal.returns-in-None
returns-in-None g c =
    let exact = exact_by g.V.PartialEq.eq g.V.Ord.cmp g.met.V.Ord.matches_eq g.met.V.Voxel.exact in
    let bits = bits_of g.row.U g.row.L g.row.F in
    same_cells g.V.PartialEq.eq exact g.met.V.Eq.laws.refl bits (rw c.bits-bits.ensures.value at c.bits-bits.ensures.configured) c.args.tree.now c.args.p
    (fits_everywhere c.args.p (search rules) (search rules) (search rules)) (c.in-None.ensures.tile refl)

pub overflow_sub-from : goal.overflow_sub-from
overflow_sub-from g c = rw (c.from.ensures, c.entries.ensures) (entries_some c.bits-bits.result Leaf c.args.p)

pub entry-requires : goal.entry-requires
entry-requires g c =
    let small = g.met.V.Stored-3.row_small in
    let bits = bits_of g.row.U g.row.L g.row.F in
    let count : c.from.result ≡ entries bits Leaf = c.from.ensures ∙ c.entries.ensures ∙ ap (λ b. entries b Leaf) c.bits-bits.ensures.value in
    (leaf_small _ _ g.row.WF _ c.has_leaf_words.ensures.few small.1 small.1 small.0, last_within bits Leaf c.args.p _ count)

pub returns-in-Some : goal.returns-in-Some
returns-in-Some g c =
    let exact = exact_by g.V.PartialEq.eq g.V.Ord.cmp g.met.V.Ord.matches_eq g.met.V.Voxel.exact in
    let bits = bits_of g.row.U g.row.L g.row.F in
    let count : c.from.result ≡ entries bits Leaf = c.from.ensures ∙ c.entries.ensures ∙ ap (λ b. entries b Leaf) c.bits-bits.ensures.value in
    leaf_test g.V.PartialEq.eq exact g.met.V.Eq.laws.refl bits (rw c.bits-bits.ensures.value at c.bits-bits.ensures.configured) c.args.tree.now c.args.p
    (fits_everywhere c.args.p (search rules) (search rules) (search rules)) c.in-Some.leaf.now c.in-Some.ensures.leaf _ (last_ends bits Leaf c.args.p _ count) _ c.entry.ensures c.constant.result c.is_none.result c.is_none.ensures c.constant.ensures
