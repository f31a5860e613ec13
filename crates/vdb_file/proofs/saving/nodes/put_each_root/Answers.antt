use Rattle.vdb_file.proofs.Common.{◌≡◌, ◌∙◌, ◌++◌, ℕ, List, ap, refl, subst, sym, not, rules, flat_map, block, vdb, Box, Coord, Upper, field_of, exact_by, source, key_bytes, root_body, Puts, sent}
use Rattle.vdb_tree.proofs.KeysPast.{fewer_past}
use Rattle.vdb_file.proofs.Outputs.{puts_none, puts_same}
use Rattle.vdb_file.proofs.PutRoots.{around_corner, put_end, put_first, root_left, root_put, shown}
use Rattle.vdb_file.proofs.Standard.{standard_bits}
use Rattle.vdb_file.proofs.saving.nodes.put_each_root.Goals as goal

pub loop-key-init : goal.loop-key-init
loop-key-init g c =
    let exact = exact_by g.V.PartialEq.eq g.V.Ord.cmp g.met.V.Ord.matches_eq g.met.V.Voxel.exact in
    let itself = g.met.V.Eq.laws.refl in
    let t = c.args.tree.now in
    let eq = g.V.PartialEq.eq in
    let configured = standard_bits in
    let entry : Coord → List ℕ = λ k. key_bytes k ++ root_body eq g.V.Voxel.bytes_of vdb (field_of vdb t) (block vdb Upper k) in
    record { puts = puts_same _ _ _ _ (ap (flat_map entry) (sym (put_first eq exact itself vdb configured t))) (puts_none _); failed = refl }

pub loop-key-smaller-then-is_block_of : goal.loop-key-smaller-then-is_block_of
loop-key-smaller-then-is_block_of g c = fewer_past c.args.tree.now.root c.loop-key.passed c.in-Some.key c.in-Some.ensures.least

pub loop-key-smaller : goal.loop-key-smaller
loop-key-smaller g c = fewer_past c.args.tree.now.root c.loop-key.passed c.in-Some.key c.in-Some.ensures.least

pub loop-key-preserved-then-is_block_of : goal.loop-key-preserved-then-is_block_of
loop-key-preserved-then-is_block_of g c =
    let exact = exact_by g.V.PartialEq.eq g.V.Ord.cmp g.met.V.Ord.matches_eq g.met.V.Voxel.exact in
    let itself = g.met.V.Eq.laws.refl in
    let t = c.args.tree.now in
    let eq = g.V.PartialEq.eq in
    let configured = standard_bits in
    let entry : Coord → List ℕ = λ k. key_bytes k ++ root_body eq g.V.Voxel.bytes_of vdb (field_of vdb t) (block vdb Upper k) in
    let inside = c.in-Some.ensures.inside c.in-Some.key c.in-Some.ensures.least.0 in
    let corner : c.min-corner.result ≡ (block vdb Upper c.in-Some.key).min = c.min-corner.ensures.corner ∙ ap (λ (b : Box). b.min) c.numbered_block_in.ensures in
    let test = shown eq exact itself vdb configured t c.in-Some.key c.min-corner.result corner c.is_block_of.result (rw c.background.ensures at c.is_block_of.ensures) in
    record {
      puts = root_left eq exact itself vdb configured t entry _ _ c.loop-key.passed c.in-Some.key c.in-Some.ensures.least inside (test ∙ ap not c.if-is_block_of.true) c.loop-key.invariant.puts;
      failed = c.loop-key.invariant.failed;
    }

pub loop-key-preserved : goal.loop-key-preserved
loop-key-preserved g c =
    let exact = exact_by g.V.PartialEq.eq g.V.Ord.cmp g.met.V.Ord.matches_eq g.met.V.Voxel.exact in
    let itself = g.met.V.Eq.laws.refl in
    let t = c.args.tree.now in
    let eq = g.V.PartialEq.eq in
    let configured = standard_bits in
    let entry : Coord → List ℕ = λ k. key_bytes k ++ root_body eq g.V.Voxel.bytes_of vdb (field_of vdb t) (block vdb Upper k) in
    let inside = c.in-Some.ensures.inside c.in-Some.key c.in-Some.ensures.least.0 in
    let corner : c.min-corner.result ≡ (block vdb Upper c.in-Some.key).min = c.min-corner.ensures.corner ∙ ap (λ (b : Box). b.min) c.numbered_block_in.ensures in
    let test = shown eq exact itself vdb configured t c.in-Some.key c.min-corner.result corner c.is_block_of.result (rw c.background.ensures at c.is_block_of.ensures) in
    let more = subst (λ (b : Box). Puts (sent g.row.C c.loop-key.out (g.W.Write.contents (source c.loop-key.writer))) (sent g.row.C c.put_keyed_root.new.out (g.W.Write.contents (source c.put_keyed_root.new.writer))) (key_bytes c.in-Some.key ++ root_body eq g.V.Voxel.bytes_of vdb (field_of vdb t) b))
    (around_corner eq exact itself vdb configured t c.in-Some.key c.min-corner.result corner) c.in_ok-put_keyed_root.ensures.puts in
    record {
      puts = root_put eq exact itself vdb configured t entry _ _ _ c.loop-key.passed c.in-Some.key c.in-Some.ensures.least inside (test ∙ ap not c.if-is_block_of.false) c.loop-key.invariant.puts more;
      failed = search rules;
    }

pub returns-clause-puts : goal.returns-clause-puts
returns-clause-puts g c =
    let exact = exact_by g.V.PartialEq.eq g.V.Ord.cmp g.met.V.Ord.matches_eq g.met.V.Voxel.exact in
    let itself = g.met.V.Eq.laws.refl in
    let t = c.args.tree.now in
    let eq = g.V.PartialEq.eq in
    let configured = standard_bits in
    let entry : Coord → List ℕ = λ k. key_bytes k ++ root_body eq g.V.Voxel.bytes_of vdb (field_of vdb t) (block vdb Upper k) in
    puts_same _ _ _ _ (ap (flat_map entry) (put_end eq exact itself vdb configured t c.loop-key.passed c.in_default.ensures.least)) c.loop-key.invariant.puts
