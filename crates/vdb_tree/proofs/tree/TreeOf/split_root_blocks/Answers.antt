use Rattle.vdb_tree.proofs.Common.{◌≡◌, ◌≢◌, IsTrue, Some, None, Option, subst, IfSome, key, is_inside, Coord, Upper, bits_of, root_at, IsSplitTo, IsNextMet, IsCut}
use Rattle.vdb_tree.proofs.KeysPast.{fewer_beyond}
use Rattle.vdb_tree.proofs.MadeNodes.{keys_twice, makes_twice}
use Rattle.vdb_tree.proofs.SplitTiles.{split_within, next_at_first, roots_end, roots_next, roots_none}
use Rattle.vdb_tree.proofs.Splits.{adds_twice}
use Rattle.vdb_tree.proofs.tree.TreeOf.split_root_blocks.Goals as goal

pub loop-key-init : goal.loop-key-init
loop-key-init g c = roots_none (bits_of g.row.U g.row.L g.row.F) c.args.bounds c.args.cell c.args.self.now

pub returns-in_err-key-clause-adds : goal.returns-in_err-key-clause-adds
returns-in_err-key-clause-adds g c =
    adds_twice (bits_of g.row.U g.row.L g.row.F) c.args.self.now c.loop-key.self c.split_next_root.new.self c.loop-key.invariant.adds c.in_err-key.ensures.adds

pub loop-key-smaller : goal.loop-key-smaller
loop-key-smaller g c =
    let bits = bits_of g.row.U g.row.L g.row.F in
    let next = subst (λ (o : Option Coord). IsNextMet bits c.args.bounds c.loop-key.self.root c.loop-key.passed o) c.in-Some.is c.in_ok-key.ensures.next in
    let first = next_at_first bits c.args.bounds c.args.cell c.args.self.now c.loop-key.self c.loop-key.self c.loop-key.passed c.loop-key.invariant (Some c.in-Some.key) next in
    fewer_beyond c.args.self.now.root c.loop-key.passed c.in-Some.key first.0 first.1

some_same : (j k : Coord) → ◌≡◌ {A = Option Coord} (Some k) (Some j) → j ≡ k
some_same j k e = cc

pub loop-key-preserved : goal.loop-key-preserved
loop-key-preserved g c =
    let bits = bits_of g.row.U g.row.L g.row.F in
    let k = c.in-Some.key in
    let t = c.loop-key.self in
    let n = c.split_next_root.new.self in
    let next = subst (λ (o : Option Coord). IsNextMet bits c.args.bounds t.root c.loop-key.passed o) c.in-Some.is c.in_ok-key.ensures.next in
    let table = subst (λ (o : Option Coord). (j : Coord) → o ≢ Some j → root_at n.root j ≡ root_at t.root j) c.in-Some.is c.in_ok-key.ensures.table in
    let edges = subst (λ (o : Option Coord). IfSome o (λ l. (q : Coord) → IsTrue (is_inside c.args.bounds q) → key bits q ≡ l → IsSplitTo bits c.args.bounds c.args.cell Upper n q)) c.in-Some.is c.in_ok-key.ensures.edges in
    roots_next bits c.args.bounds c.args.cell c.args.self.now t n c.loop-key.passed c.loop-key.invariant c.in_ok-key.ensures.keeps c.in_ok-key.ensures.adds k c.in_ok-key.ensures.made c.in_ok-key.ensures.keys next
    (λ j d. table j (λ e. d (some_same j k e))) edges

pub returns-in-None-clause-adds : goal.returns-in-None-clause-adds
returns-in-None-clause-adds g c =
    adds_twice (bits_of g.row.U g.row.L g.row.F) c.args.self.now c.loop-key.self c.split_next_root.new.self c.loop-key.invariant.adds c.in_ok-key.ensures.adds

none_some : (k : Coord) → ◌≡◌ {A = Option Coord} None (Some k) → ⊥
none_some k e = cc

pub returns-in-None-clause-edges : goal.returns-in-None-clause-edges
returns-in-None-clause-edges g c =
    let bits = bits_of g.row.U g.row.L g.row.F in
    let t = c.loop-key.self in
    let n = c.split_next_root.new.self in
    let next = subst (λ (o : Option Coord). IsNextMet bits c.args.bounds t.root c.loop-key.passed o) c.in-None.is c.in_ok-key.ensures.next in
    let table = subst (λ (o : Option Coord). (j : Coord) → o ≢ Some j → root_at n.root j ≡ root_at t.root j) c.in-None.is c.in_ok-key.ensures.table in
    roots_end bits c.args.bounds c.args.cell c.args.self.now t n c.loop-key.passed c.loop-key.invariant c.in_ok-key.ensures.keeps c.in_ok-key.ensures.adds next (λ k. table k (none_some k))

pub returns-in_err-key-clause-made : goal.returns-in_err-key-clause-made
returns-in_err-key-clause-made g c =
    let bits = bits_of g.row.U g.row.L g.row.F in
    makes_twice bits (IsCut bits c.args.bounds c.args.cell) c.args.self.now c.loop-key.self c.split_next_root.new.self c.loop-key.invariant.keeps c.loop-key.invariant.made c.in_err-key.ensures.made

pub returns-in_err-key-clause-keys : goal.returns-in_err-key-clause-keys
returns-in_err-key-clause-keys g c = keys_twice c.args.self.now c.loop-key.self c.split_next_root.new.self c.loop-key.invariant.keys c.in_err-key.ensures.keys

pub returns-in-None-clause-made : goal.returns-in-None-clause-made
returns-in-None-clause-made g c =
    let bits = bits_of g.row.U g.row.L g.row.F in
    makes_twice bits (IsCut bits c.args.bounds c.args.cell) c.args.self.now c.loop-key.self c.split_next_root.new.self c.loop-key.invariant.keeps c.loop-key.invariant.made c.in_ok-key.ensures.made

pub returns-in-None-clause-keys : goal.returns-in-None-clause-keys
returns-in-None-clause-keys g c = keys_twice c.args.self.now c.loop-key.self c.split_next_root.new.self c.loop-key.invariant.keys c.in_ok-key.ensures.keys

pub returns-then-covers_roots-clause-edges : goal.returns-then-covers_roots-clause-edges
returns-then-covers_roots-clause-edges g c = λ q inside _.
    split_within (bits_of g.row.U g.row.L g.row.F) c.args.bounds c.args.cell Upper c.args.self.now q (c.covers_roots.ensures c.if-covers_roots.true q inside)
