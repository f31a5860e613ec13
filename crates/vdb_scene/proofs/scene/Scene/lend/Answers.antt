use Rattle.vdb_scene.proofs.scene.Scene.lend.Goals as goal

pub returns-clause-rest : goal.returns-clause-rest
returns-clause-rest c = (c.replace.new.dest, (c.get_mut.follows.holds c.replace.new.dest).0)
