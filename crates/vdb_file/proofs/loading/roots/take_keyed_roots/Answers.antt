use Rattle.vdb_file.proofs.Common.{ℕ, ◌+◌, ◌∙◌, ◌≤◌, refl, rules, subst, sym, None, Some, err_from_is_err_and, vdb, everywhere, field_of, exact_by, ahead}
use Rattle.vdb_file.proofs.HeadCodes.{voxel_values}
use Rattle.vdb_file.proofs.RootReads.{more_roots, no_next_root, no_roots, roots_loadable}
use Rattle.vdb_file.proofs.RowInstances.{is_root_row}
use Rattle.vdb_file.proofs.RowLoops.{all_underway}
use Rattle.vdb_file.proofs.Standard.{standard_bits}
use Rattle.vdb_file.proofs.loading.roots.take_keyed_roots.Goals as goal

pub loop-init : goal.loop-init
loop-init g c =
    let exact = exact_by g.V.PartialEq.eq g.V.Ord.cmp g.met.V.Ord.matches_eq g.met.V.Voxel.exact in
    let values = voxel_values g.V.PartialEq.eq g.V.Voxel.bytes_of g.V.Voxel.is_value g.V.Voxel.KIND exact g.met.V.Eq.laws.refl g.met.V.Voxel.bytes_known g.met.V.Voxel.bytes_exact in
    let t = c.args.tree.now in
    let f = field_of vdb t in
    let old = ahead c.args.input.now (g.S.Source.state c.args.reader.now) in
    let configured = standard_bits in
    let under = no_roots values vdb configured t.background f old c.requires.fresh c.requires.value in
    record {
      underway = under;
      loadable = λ more. roots_loadable values vdb configured t.background f old 0 None f old under c.args.count more t.limit c.requires.few;
      ends = c.requires.ends;
      total = λ n h. h;
      given = λ n m h. h;
      limit = refl;
      failed = refl;
    }

pub returns-in_err-key-clause-reads : goal.returns-in_err-key-clause-reads
returns-in_err-key-clause-reads g c =
    let exact = exact_by g.V.PartialEq.eq g.V.Ord.cmp g.met.V.Ord.matches_eq g.met.V.Voxel.exact in
    let values = voxel_values g.V.PartialEq.eq g.V.Voxel.bytes_of g.V.Voxel.is_value g.V.Voxel.KIND exact g.met.V.Eq.laws.refl g.met.V.Voxel.bytes_known g.met.V.Voxel.bytes_exact in
    let t = c.args.tree.now in
    let f = field_of vdb t in
    let old = ahead c.args.input.now (g.S.Source.state c.args.reader.now) in
    let configured = standard_bits in
    let s = field_of vdb c.loop.tree in
    let now = ahead c.loop.input (g.S.Source.state c.loop.reader) in
    let e = err_from_is_err_and c.from_residual.result c.from_residual.ensures.1 in
    rw (e.1, e.2) (no_next_root values vdb configured t.background f old c.loop.counter c.loop.before s now c.loop.invariant.underway c.args.count c.loop-test.true c.in_err-key.field-0.0 c.in_err-key.ensures.reads)

pub loop-preserved : goal.loop-preserved
loop-preserved g c =
    let exact = exact_by g.V.PartialEq.eq g.V.Ord.cmp g.met.V.Ord.matches_eq g.met.V.Voxel.exact in
    let values = voxel_values g.V.PartialEq.eq g.V.Voxel.bytes_of g.V.Voxel.is_value g.V.Voxel.KIND exact g.met.V.Eq.laws.refl g.met.V.Voxel.bytes_known g.met.V.Voxel.bytes_exact in
    let t = c.args.tree.now in
    let f = field_of vdb t in
    let old = ahead c.args.input.now (g.S.Source.state c.args.reader.now) in
    let configured = standard_bits in
    let s = field_of vdb c.loop.tree in
    let now = ahead c.loop.input (g.S.Source.state c.loop.reader) in
    let read = c.in_ok-key.ensures.reads in
    let after = field_of vdb c.take_next_root.new.tree in
    let next = ahead c.take_next_root.new.input (g.S.Source.state c.take_next_root.new.reader) in
    let under = more_roots values vdb configured t.background f old c.loop.counter c.loop.before s now c.loop.invariant.underway c.args.count c.loop-test.true c.in_ok-key.key next after read.0 read.1 c.in_ok-key.ensures.kept in
    let limit = c.in_ok-key.ensures.limit ∙ c.loop.invariant.limit in
    let few = subst (λ (n : ℕ). c.args.count ≤ n) (sym limit) c.requires.few in
    record {
      underway = under;
      loadable = λ more. roots_loadable values vdb configured t.background f old (c.loop.counter + 1) (Some c.in_ok-key.key) after next under c.args.count more c.take_next_root.new.tree.limit few;
      ends = c.in_ok-key.ensures.moves.ends;
      total = λ n h. c.in_ok-key.ensures.moves.total n (c.loop.invariant.total n h);
      given = λ n m h. c.in_ok-key.ensures.moves.given n m (c.loop.invariant.given n m h);
      limit = limit;
      failed = search rules;
    }

pub returns-clause-reads : goal.returns-clause-reads
returns-clause-reads g c =
    let exact = exact_by g.V.PartialEq.eq g.V.Ord.cmp g.met.V.Ord.matches_eq g.met.V.Voxel.exact in
    let values = voxel_values g.V.PartialEq.eq g.V.Voxel.bytes_of g.V.Voxel.is_value g.V.Voxel.KIND exact g.met.V.Eq.laws.refl g.met.V.Voxel.bytes_known g.met.V.Voxel.bytes_exact in
    let t = c.args.tree.now in
    let f = field_of vdb t in
    let old = ahead c.args.input.now (g.S.Source.state c.args.reader.now) in
    let configured = standard_bits in
    let s = field_of vdb c.loop.tree in
    let now = ahead c.loop.input (g.S.Source.state c.loop.reader) in
    all_underway values (is_root_row values vdb configured) t.background everywhere f old c.loop.counter c.loop.before s now c.loop.invariant.underway c.args.count (search rules)
