use Rattle.vdb_mask.proofs.Mask.all_on.Goals as goal

pub returns : goal.returns
returns g c = rw (← c.self.view_is, ← c.self.told) c.are_all.ensures
