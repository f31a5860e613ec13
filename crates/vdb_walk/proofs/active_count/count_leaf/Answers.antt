use Rattle.vdb_walk.proofs.Common.{ap, rules, subst, sym, ◌∙◌, Bool, List, entries, Bits, Leaf, entries_is, on_count, IsOffFrom, bits_of, field_of, IsInFirstBlock}
use Rattle.vdb_walk.proofs.Cuts.{same_boxes}
use Rattle.vdb_walk.proofs.VoxelCounts.{cut_counted, in_one_block, whole_counted}
use Rattle.vdb_walk.proofs.active_count.count_leaf.Goals as goal

pub count_states-requires : goal.count_states-requires
count_states-requires g c =
    let bits = bits_of g.row.U g.row.L g.row.F in
    let past_end : IsOffFrom c.states.result.now (entries bits Leaf) = rw (sym (entries_is bits Leaf)) at c.states.ensures.past_end in (
      search rules,
      (
        c.bits-bits.ensures.configured,
        (
          c.requires.few_words,
          (
            subst (λ (s : List Bool). IsOffFrom s (entries c.bits-bits.result Leaf)) (sym c.copied.ensures.same) (subst (λ (b : Bits). IsOffFrom c.states.result.now (entries b Leaf)) (sym c.bits-bits.ensures.value) past_end),
            (
              c.copied.ensures.past_end,
              subst (λ (b : Bits). IsInFirstBlock b c.args.part) (sym c.bits-bits.ensures.value)
                  (in_one_block bits (field_of bits c.args.tree.now) c.args.part c.args.leaf.now c.requires.leaf (search rules)),
            ),
          ),
        ),
      ),
    )

pub returns-then-ne : goal.returns-then-ne
returns-then-ne g c =
    let bits = bits_of g.row.U g.row.L g.row.F in
    c.from.ensures ∙ (rw (c.bits-bits.ensures.value, c.copied.ensures.same, c.states.ensures.same) at c.count_states.ensures)
    ∙ cut_counted bits (field_of bits c.args.tree.now) c.args.part c.args.leaf.now c.requires.leaf

pub returns : goal.returns
returns g c =
    let bits = bits_of g.row.U g.row.L g.row.F in
    let block = same_boxes c.args.part c.block_in.result c.if-ne.ensures ∙ (rw (c.bits-bits.ensures.value, c.min.ensures.corner) at c.block_in.ensures) in
    c.from-2.ensures ∙ c.count_on.ensures ∙ ap (λ n. on_count c.args.leaf.now.states n) (sym (entries_is bits Leaf))
    ∙ whole_counted bits (field_of bits c.args.tree.now) c.args.part c.args.leaf.now c.requires.leaf c.min.ensures.bounds (rw c.bits-bits.ensures.value at c.bits-bits.ensures.configured) block
