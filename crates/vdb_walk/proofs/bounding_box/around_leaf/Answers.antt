use Rattle.vdb_walk.proofs.Common.{rules, subst, sym, Bool, List, entries, Bits, Leaf, entries_is, IsOffFrom, Field, bits_of, field_of, IsInFirstBlock}
use Rattle.vdb_walk.proofs.Surrounds.{by_states, kept}
use Rattle.vdb_walk.proofs.VoxelCounts.{has_states, in_one_block}
use Rattle.vdb_walk.proofs.bounding_box.around_leaf.Goals as goal

pub returns-then-lies_within-clause-least : goal.returns-then-lies_within-clause-least
returns-then-lies_within-clause-least g c =
    kept (field_of (bits_of g.row.U g.row.L g.row.F) c.args.tree.now) c.args.found c.args.part (λ p inside _. c.lies_within.ensures c.if-lies_within.true p inside)

pub around_voxels-requires : goal.around_voxels-requires
around_voxels-requires g c =
    let bits = bits_of g.row.U g.row.L g.row.F in
    let past_end : IsOffFrom c.states.result.now (entries bits Leaf) = rw (sym (entries_is bits Leaf)) at c.states.ensures.past_end in (
      search rules,
      (
        c.bits.ensures.configured,
        (
          c.requires.few_words,
          (
            subst (λ (s : List Bool). IsOffFrom s (entries c.bits.result Leaf)) (sym c.copied.ensures.same) (subst (λ (b : Bits). IsOffFrom c.states.result.now (entries b Leaf)) (sym c.bits.ensures.value) past_end),
            (
              c.copied.ensures.past_end,
              subst (λ (b : Bits). IsInFirstBlock b c.args.part) (sym c.bits.ensures.value)
                  (in_one_block bits (field_of bits c.args.tree.now) c.args.part c.args.leaf.now c.requires.leaf (search rules)),
            ),
          ),
        ),
      ),
    )

pub returns-clause-least : goal.returns-clause-least
returns-clause-least g c =
    let bits = bits_of g.row.U g.row.L g.row.F in
    let f : Field g.row.V.Denot = field_of bits c.args.tree.now in
    by_states bits c.args.leaf.now.states c.args.found c.args.part f c.around_voxels.result (has_states bits f c.args.part c.args.leaf.now c.requires.leaf)
    (rw (c.bits.ensures.value, c.copied.ensures.same, c.states.ensures.same) at c.around_voxels.ensures.least)
