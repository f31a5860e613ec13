use Rattle.vdb_file.proofs.Common.{rules, ◌≡◌, true, false, is_text}
use Rattle.vdb_file.proofs.Texts.{no_text}
use Rattle.vdb_file.proofs.loading.metas.take_text.Goals as goal

pub returns-in-None-clause-reads : goal.returns-in-None-clause-reads
returns-in-None-clause-reads g c =
    no_text (λ t. is_text t ≡ true) _ _ _ c.in_ok-len.len c.in_ok-len.ensures.reads.1 _ c.take_field.new.field c.in_ok-take_field.ensures.reads.1 (search rules)
    (λ p. let none : is_text c.take_field.new.field ≡ false = search rules in cc)
