use Rattle.vdb_tree.proofs.Common.{◌∙◌, ◌+◌, ℕ, ap, sym, subst, Some, key, Bits, Coord, Lower, Upper, bits_of, IsFirstLeaf, IsFrom, IsKeyPast}
use Rattle.vdb_tree.proofs.NextLeaf.{past_in_later, past_in_lower, past_in_upper}
use Rattle.vdb_tree.proofs.tree.TreeOf.next_leaf_past.Goals as goal

pub returns-then-is_some : goal.returns-then-is_some
returns-then-is_some g c =
    let bits = bits_of g.row.U g.row.L g.row.F in
    let t = c.args.self.now in
    let last = c.args.last in
    let lower = c.next_leaf_of_lower-in_lower.result in
    let of_lower = subst (λ (n : ℕ). IsFirstLeaf bits t (IsFrom bits Lower last (n + 1)) lower) c.offset-next_entry.ensures.value c.next_leaf_of_lower-in_lower.ensures in
    past_in_lower bits t last lower (sym c.is_some.ensures ∙ c.if-is_some.true) of_lower

pub returns-then-is_some-2 : goal.returns-then-is_some-2
returns-then-is_some-2 g c =
    let bits = bits_of g.row.U g.row.L g.row.F in
    let t = c.args.self.now in
    let last = c.args.last in
    let lower = c.next_leaf_of_lower-in_lower.result in
    let upper = c.next_leaf_of_upper-in_upper.result in
    let of_lower = subst (λ (n : ℕ). IsFirstLeaf bits t (IsFrom bits Lower last (n + 1)) lower) c.offset-next_entry.ensures.value c.next_leaf_of_lower-in_lower.ensures in
    let of_upper = subst (λ (n : ℕ). IsFirstLeaf bits t (IsFrom bits Upper last (n + 1)) upper) c.offset-next_node.ensures.value c.next_leaf_of_upper-in_upper.ensures in
    past_in_upper bits t last lower (sym c.is_some.ensures ∙ c.if-is_some.false) of_lower upper (sym c.is_some-2.ensures ∙ c.if-is_some-2.true) of_upper

pub returns : goal.returns
returns g c =
    let bits = bits_of g.row.U g.row.L g.row.F in
    let t = c.args.self.now in
    let last = c.args.last in
    let lower = c.next_leaf_of_lower-in_lower.result in
    let upper = c.next_leaf_of_upper-in_upper.result in
    let later = c.next_leaf_of_keys.result in
    let of_lower = subst (λ (n : ℕ). IsFirstLeaf bits t (IsFrom bits Lower last (n + 1)) lower) c.offset-next_entry.ensures.value c.next_leaf_of_lower-in_lower.ensures in
    let of_upper = subst (λ (n : ℕ). IsFirstLeaf bits t (IsFrom bits Upper last (n + 1)) upper) c.offset-next_node.ensures.value c.next_leaf_of_upper-in_upper.ensures in
    let of_later = subst (λ (k : Coord). IsFirstLeaf bits t (IsKeyPast bits (Some k)) later) (c.key_in.ensures.key ∙ ap (λ (b : Bits). key b last) c.bits.ensures.value) c.next_leaf_of_keys.ensures in
    past_in_later bits t last lower (sym c.is_some.ensures ∙ c.if-is_some.false) of_lower upper (sym c.is_some-2.ensures ∙ c.if-is_some-2.false) of_upper later of_later
