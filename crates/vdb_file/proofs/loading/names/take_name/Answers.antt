use Rattle.vdb_file.proofs.Common.{rules, ◌≡◌, true, false, sym, subst, ◌∙◌, nat_cmp, slice_cmp, Follows}
use Rattle.vdb_scene.specs.Names.{is_name}
use Rattle.vdb_file.specs.internal.Parts.{IsNext}
use Rattle.vdb_file.proofs.Texts.{no_text}
use Rattle.vdb_file.proofs.loading.names.take_name.Goals as goal

pub returns-then-not-follows-clause-reads : goal.returns-then-not-follows-clause-reads
returns-then-not-follows-clause-reads g c =
    no_text (IsNext c.args.before) c.args.fault _ _ c.in_ok-len.len c.in_ok-len.ensures.reads.1 _ c.take_field.new.field c.in_ok-take_field.ensures.reads.1 (search rules)
    (λ p. let never : false ≡ true = sym c.if-not-follows.true ∙ c.follows.ensures.1 (subst (Follows (slice_cmp nat_cmp) c.args.before) (sym (search rules)) p.rises) in cc)

pub returns-in-None-clause-reads : goal.returns-in-None-clause-reads
returns-in-None-clause-reads g c =
    no_text (IsNext c.args.before) c.args.fault _ _ c.in_ok-len.len c.in_ok-len.ensures.reads.1 _ c.take_field.new.field c.in_ok-take_field.ensures.reads.1 (search rules)
    (λ p. let none : is_name c.take_field.new.field ≡ false = search rules in let form = p.form in cc)
