use Rattle.vdb_c.proofs.Common.{◌≡◌, ◌≢◌, ◌<◌, ◌≤◌, ◌+◌, ◌*◌, ◌⊎◌, inl, inr, ◌∙◌, ℕ, ap, sym, subst, arith, length, set, Option, Some, None, get_or-set_other, cases_eq, vdb, Coord, field_of, IsNextLeaf, HasRun, IsValueOf, IsWordOf, last_before, voxel_at}
use Rattle.vdb_c.proofs.LeafRows.{last_next, last_other, row_room, rows_as, rows_next, rows_none, voxel_other, voxel_set}
use Rattle.vdb_c.proofs.leaves.rows.copy_leaves.Goals as goal

pub copy_leaf-requires-clause-leaf : goal.copy_leaf-requires-clause-leaf
copy_leaf-requires-clause-leaf g c = c.in-Some.ensures.0.leaf

pub copy_leaf-requires-clause-values : goal.copy_leaf-requires-clause-values
copy_leaf-requires-clause-values g c = λ some.
    let room = row_room 512 (length c.args.origins.now) (length c.args.values.now) c.loop-k.k c.requires.values c.loop-k-test.true (omega (arith, some, c.loop-k.auto.values)) in omega (arith, room, c.loop-k.auto.values)

pub copy_leaf-requires-clause-states : goal.copy_leaf-requires-clause-states
copy_leaf-requires-clause-states g c = λ some.
    let room = row_room 8 (length c.args.origins.now) (length c.args.states.now) c.loop-k.k c.requires.states c.loop-k-test.true (omega (arith, some, c.loop-k.auto.states)) in omega (arith, room, c.loop-k.auto.states)

pub loop-k-preserved : goal.loop-k-preserved
loop-k-preserved g c =
    let t = c.args.tree.now in
    let f = field_of vdb t in
    let after = c.args.after in
    let k = c.loop-k.k in
    let at = c.loop-k.origins in
    let corner = c.corner.result in
    let now = set at k corner in
    let inv = c.loop-k.invariant in
    let of = λ (q : Coord). g.V.Number.number_of (f.cell q).value in
    let on = λ (q : Coord). (f.cell q).on in
    let below : k < length at = omega (arith, c.loop-k-test.true, c.loop-k.auto.origins) in
    let here : voxel_at now k ≡ c.in-Some.p = voxel_set at k corner below ∙ c.corner.ensures in
    record {
      last = ap Some (sym here) ∙ sym (last_next after now k);
      each = λ j l. elim (cases_eq j k) [
        | inl e ↦ rw e
            (subst (λ (o : Option Coord). IsNextLeaf vdb t o (Some (voxel_at now k))) (inv.last ∙ sym (last_other after at k corner k (omega arith)))
            (subst (λ (v : Coord). IsNextLeaf vdb t c.loop-k.last (Some v)) (sym here) c.in-Some.ensures))
        | inr other ↦
            subst (λ (o : Option Coord). IsNextLeaf vdb t o (Some (voxel_at now j))) (sym (last_other after at k corner j (omega (arith, l))))
            (subst (λ (v : Coord). IsNextLeaf vdb t (last_before after at j) (Some v)) (sym (voxel_other at k corner j other)) (inv.each j (omega (arith, l, other))))
      ];
      others = λ i d l. get_or-set_other at k i corner d (λ e. absurd (omega (arith, e, l))) ∙ inv.others i d (omega (arith, l));
      values =
          rows_next 512 k (λ j. IsValueOf of (voxel_at now j)) c.args.values.now c.loop-k.values c.copy_leaf.new.values
          (rows_as 512 k (λ j. IsValueOf of (voxel_at at j)) (λ j. IsValueOf of (voxel_at now j)) c.args.values.now c.loop-k.values (λ j i x l is. subst (λ (v : Coord). IsValueOf of v i x) (sym (voxel_other at k corner j (λ e. absurd (omega (arith, e, l))))) is) inv.values)
          (subst (λ (v : Coord). HasRun (512 * k) 512 (IsValueOf of v) c.loop-k.values c.copy_leaf.new.values) (sym here) c.copy_leaf.ensures.values);
      states =
          rows_next 8 k (λ j. IsWordOf on (voxel_at now j)) c.args.states.now c.loop-k.states c.copy_leaf.new.states
          (rows_as 8 k (λ j. IsWordOf on (voxel_at at j)) (λ j. IsWordOf on (voxel_at now j)) c.args.states.now c.loop-k.states (λ j i x l is. subst (λ (v : Coord). IsWordOf on v i x) (sym (voxel_other at k corner j (λ e. absurd (omega (arith, e, l))))) is) inv.states)
          (subst (λ (v : Coord). HasRun (8 * k) 8 (IsWordOf on v) c.loop-k.states c.copy_leaf.new.states) (sym here) c.copy_leaf.ensures.states);
    }
