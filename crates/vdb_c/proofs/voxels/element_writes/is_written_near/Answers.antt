use Rattle.vdb_c.proofs.Common.{◌∙◌, sym, ap, Some, vdb, as_write_of, field_of, Write}
use Rattle.vdb_tree.specs.declared.Write.TheVariants as writes
use Rattle.vdb_c.proofs.ElementWrites.{written_as}
use Rattle.vdb_c.proofs.voxels.element_writes.is_written_near.Goals as goal

pub returns-in-On-clause-written : goal.returns-in-On-clause-written
returns-in-On-clause-written g c = λ t.
    let make = g.V.GridValue.as_scalar in
    written_as make g.V.PartialEq.eq g.met.V.GridValue.same_eq c.args.grid.now.tree.limit c.args.at (writes.On c.in-On.value) (field_of vdb c.args.grid.now.tree) (field_of vdb c.write_in_leaf.new.self.tree) _
    (ap (λ (w : Write g.row.V.Denot). Some (as_write_of make w)) (sym c.in-On.is) ∙ c.in-Some-element_write.ensures) (c.write_in_leaf.ensures.outcome t)

pub returns-in-Off-clause-written : goal.returns-in-Off-clause-written
returns-in-Off-clause-written g c = λ t.
    let make = g.V.GridValue.as_scalar in
    written_as make g.V.PartialEq.eq g.met.V.GridValue.same_eq c.args.grid.now.tree.limit c.args.at (writes.Off c.in-Off.value) (field_of vdb c.args.grid.now.tree) (field_of vdb c.write_in_leaf-in-Off.new.self.tree) _
    (ap (λ (w : Write g.row.V.Denot). Some (as_write_of make w)) (sym c.in-Off.is) ∙ c.in-Some-element_write.ensures) (c.write_in_leaf-in-Off.ensures.outcome t)

pub returns-in-State-clause-written : goal.returns-in-State-clause-written
returns-in-State-clause-written g c = λ t.
    let make = g.V.GridValue.as_scalar in
    written_as make g.V.PartialEq.eq g.met.V.GridValue.same_eq c.args.grid.now.tree.limit c.args.at (writes.State c.in-State.on) (field_of vdb c.args.grid.now.tree) (field_of vdb c.write_in_leaf-in-State.new.self.tree) _
    (ap (λ (w : Write g.row.V.Denot). Some (as_write_of make w)) (sym c.in-State.is) ∙ c.in-Some-element_write.ensures) (c.write_in_leaf-in-State.ensures.outcome t)

pub returns-in-Value-clause-written : goal.returns-in-Value-clause-written
returns-in-Value-clause-written g c = λ t.
    let make = g.V.GridValue.as_scalar in
    written_as make g.V.PartialEq.eq g.met.V.GridValue.same_eq c.args.grid.now.tree.limit c.args.at (writes.Value c.in-Value.value) (field_of vdb c.args.grid.now.tree) (field_of vdb c.write_in_leaf-in-Value.new.self.tree) _
    (ap (λ (w : Write g.row.V.Denot). Some (as_write_of make w)) (sym c.in-Value.is) ∙ c.in-Some-element_write.ensures) (c.write_in_leaf-in-Value.ensures.outcome t)
