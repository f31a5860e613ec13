use Rattle.vdb_node.proofs.values.Values.blend_first.Goals as goal

pub returns-clause-lacks : goal.returns-clause-lacks
returns-clause-lacks g c = λ no.
    let lacks = (rw (c.deref_mut.ensures.value, c.deref.ensures.value) at c.blend_slices.ensures.lacks) in
    let found = lacks no in
    (found.0, found.1, found.2 c.args.self.now.rest c.args.other.now.rest)
