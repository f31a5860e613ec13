use Rattle.vdb_tree.proofs.Common.{◌∙◌, sym, Some, bits_of}
use Rattle.std.specs.Ordering.{int_cmp}
use Rattle.vdb_tree.proofs.KeysMet.{comes_past}
use Rattle.vdb_tree.proofs.KeysPast.{fewer_past}
use Rattle.vdb_tree.proofs.PartWalks.{found_keys, keys_end, keys_next, keys_start, keys_stop, none_under}
use Rattle.vdb_tree.proofs.tree.TreeOf.start_after_key.Goals as goal

pub loop-key-init : goal.loop-key-init
loop-key-init g c = rw c.key-passed.ensures.value (keys_start (bits_of g.row.U g.row.L g.row.F) c.args.self.now c.args.bounds c.args.p)

pub returns-then-is_some : goal.returns-then-is_some
returns-then-is_some g c =
    let bits = bits_of g.row.U g.row.L g.row.F in
    found_keys bits c.args.self.now c.args.bounds c.args.p c.loop-key.passed c.loop-key.invariant c.in-Some.key c.in-Some.ensures.least c.args.skip c.first_within_root-found.result (sym c.is_some.ensures ∙ c.if-is_some.true)
    c.first_within_root-found.ensures.inside c.first_within_root-found.ensures.number c.first_within_root-found.ensures.first

pub loop-key-preserved : goal.loop-key-preserved
loop-key-preserved g c =
    let bits = bits_of g.row.U g.row.L g.row.F in
    keys_next bits c.args.self.now c.args.bounds c.args.p c.loop-key.passed c.loop-key.invariant c.in-Some.key c.in-Some.ensures.least
    (none_under bits c.args.bounds c.in-Some.key c.first_within_root-found.result (sym c.is_some.ensures ∙ c.if-is_some.false) c.first_within_root-found.ensures.none)

pub loop-key-smaller : goal.loop-key-smaller
loop-key-smaller g c = fewer_past c.args.self.now.root (Some c.loop-key.passed) c.in-Some.key c.in-Some.ensures.least

pub returns : goal.returns
returns g c = keys_end (bits_of g.row.U g.row.L g.row.F) c.args.self.now c.args.bounds c.args.p c.loop-key.passed c.loop-key.invariant c.in_default.ensures.least c.args.skip

pub returns-then-lt : goal.returns-then-lt
returns-then-lt g c =
    let past = comes_past (int_cmp c.key-last.result.x c.in-Some.key.x) (int_cmp c.key-last.result.y c.in-Some.key.y) (int_cmp c.key-last.result.z c.in-Some.key.z) (sym c.lt.ensures ∙ c.if-lt.true) in
    let last = rw (c.key-last.ensures.value, c.max.ensures.corner) at past in
    keys_stop (bits_of g.row.U g.row.L g.row.F) c.args.self.now c.args.bounds c.args.p c.loop-key.passed c.loop-key.invariant c.in-Some.key c.in-Some.ensures.least last c.args.skip
