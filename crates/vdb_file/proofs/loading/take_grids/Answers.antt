use Rattle.vdb_file.proofs.Common.{rules, ◌≡◌, ◌++◌, ◌∷◌, [], ◌∙◌, length-append, refl, sym, subst, arith, None, err_from_is_err_and, scene_of, IsItem, IsNamed, name_of, named_bytes, Fails, ahead}
use Rattle.vdb_file.specs.internal.Parts.{named_view}
use Rattle.vdb_file.proofs.Fronts.{took_nothing}
use Rattle.vdb_file.proofs.GridParts.{named_code}
use Rattle.vdb_file.proofs.Items.{are_items, chain_more, fails_within, last_more, more_read, put_last}
use Rattle.vdb_file.proofs.SceneParts.{any_named}
use Rattle.vdb_file.proofs.loading.take_grids.Goals as goal

pub returns-in_err-named-clause-reads : goal.returns-in_err-named-clause-reads
returns-in_err-named-clause-reads g c =
    let p = err_from_is_err_and c.from_residual.result c.from_residual.ensures.1 in
    let mid = ahead c.loop.input (g.S.Source.state c.loop.reader) in
    rw (p.1, p.2) (fails_within (IsNamed c.args.version) name_of (named_bytes c.args.version) (named_code c.args.version) any_named c.in_err-named.field-0.0 c.args.count (scene_of c.loop.scene)
    (ahead c.args.input.now (g.S.Source.state c.args.reader.now)) mid (omega (arith, c.loop.invariant.count, c.loop-test.true)) c.loop.invariant.chain c.loop.invariant.took
    (subst (λ before. Fails (IsItem (IsNamed c.args.version) name_of before) (named_bytes c.args.version) c.in_err-named.field-0.0 mid) c.loop.invariant.before c.in_err-named.ensures.reads))

pub loop-init : goal.loop-init
loop-init g c =
    let none : scene_of c.new-scene.result ≡ [] = c.new-scene.ensures.empty in
    rw none (record {
      took = took_nothing (ahead c.args.input.now (g.S.Source.state c.args.reader.now));
      ends = c.requires.ends;
      total = λ n h. h;
      given = λ n m h. h;
      count = refl;
      chain = tt;
      before = refl;
      unused = c.new-scene.ensures.unused;
      failed = refl;
    })

pub loop-preserved : goal.loop-preserved
loop-preserved g c =
    let done = scene_of c.loop.scene in
    let e = named_view c.in_ok-named.named in
    let item = subst (λ before. IsItem (IsNamed c.args.version) name_of before e) c.loop.invariant.before c.in_ok-named.ensures.reads.0 in
    let grown : scene_of c.add.new.scene ≡ done ++ e ∷ [] = c.in_ok-add.ensures.ok ∙ put_last (IsNamed c.args.version) done e c.loop.invariant.chain item in
    rw grown (record {
      took = more_read (IsNamed c.args.version) name_of (named_bytes c.args.version) (ahead c.args.input.now (g.S.Source.state c.args.reader.now)) (ahead c.loop.input (g.S.Source.state c.loop.reader)) _ done e c.loop.invariant.took c.in_ok-named.ensures.reads.1;
      ends = c.in_ok-named.ensures.moves.ends;
      total = λ n h. c.in_ok-named.ensures.moves.total n (c.loop.invariant.total n h);
      given = λ n m h. c.in_ok-named.ensures.moves.given n m (c.loop.invariant.given n m h);
      count = omega (arith, length-append done (e ∷ []), c.loop.invariant.count);
      chain = chain_more (IsNamed c.args.version) name_of None done e c.loop.invariant.chain item;
      before = sym (last_more (IsNamed c.args.version) name_of None done e);
      unused = c.in_ok-add.ensures.unused c.in_ok-named.ensures.unused c.loop.invariant.unused;
      failed = search rules;
    })

pub returns-in_err-add-clause-reads : goal.returns-in_err-add-clause-reads
returns-in_err-add-clause-reads g c =
    let p = err_from_is_err_and c.from_residual-in_err-add.result c.from_residual-in_err-add.ensures.1 in
    rw (p.1, p.2) (let m = c.in_err-add.ensures.err in rw m (record { none = λ claims. absurd claims }))

pub returns-clause-reads : goal.returns-clause-reads
returns-clause-reads g c =
    (are_items (IsNamed c.args.version) name_of c.args.count (scene_of c.loop.scene) (omega (arith, c.loop.invariant.count, c.loop-test.false)) c.loop.invariant.chain, c.loop.invariant.took)
