use Rattle.vdb_c.proofs.Common.{◌≡◌, everywhere, field_of, vdb}
use Rattle.vdb_tree.specs.Parts.{IsWalk}
use Rattle.vdb_tree.specs.declared.queries.parts.Skip.TheVariants.{Background}
use Rattle.vdb_c.proofs.PartsPast.{AreCopied}
use Rattle.vdb_c.proofs.parts.copy_parts.Given as goal

abbrev pub invariant-loop-k : goal.invariant-loop-k
invariant-loop-k g l = record {
  walk : IsWalk vdb l.tree l.walk;
  bounds : l.walk.box ≡ everywhere;
  skip : l.walk.skip ≡ Background;
  copied : AreCopied g.V.Number.number_of (field_of vdb l.tree) l.fn.after l.k l.fn.parts l.parts l.walk.at;
}
