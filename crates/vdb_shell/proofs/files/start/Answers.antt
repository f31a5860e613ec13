use Rattle.vdb_scene.specs.Watched.{source}
use Rattle.vdb_shell.proofs.Parts.{begins, refuses}
use Rattle.vdb_shell.proofs.files.start.Goals as goal

pub returns-in-Some-clause-begins : goal.returns-in-Some-clause-begins
returns-in-Some-clause-begins g c =
    rw c.in-Some.is (λ file given. begins c.load.result (g.R.Read.remaining (source c.in-Some.reader)) file given c.load.ensures.scene c.load.ensures.loaded)

pub returns-in-Some-clause-refuses : goal.returns-in-Some-clause-refuses
returns-in-Some-clause-refuses g c =
    rw c.in-Some.is (λ file given. refuses c.load.result (g.R.Read.remaining (source c.in-Some.reader)) file given c.load.ensures.none)
