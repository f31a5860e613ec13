use Rattle.std.proofs.Common.{refl, arith}
use Rattle.std.proofs.lemmas.Bool.{le-leb, lt-leb}
use Rattle.vdb_pool.proofs.chunk.slots_of.Goals as goal

pub returns-in-0-to-96-clause-value : goal.returns-in-0-to-96-clause-value
returns-in-0-to-96-clause-value c =
    rw (le-leb c.args.bytes 96 (omega (arith, c.in-0-to-96))) refl

pub returns-in-97-to-289-clause-value : goal.returns-in-97-to-289-clause-value
returns-in-97-to-289-clause-value c =
    rw (
      lt-leb c.args.bytes 96 (omega (arith, c.in-97-to-289)),
      le-leb c.args.bytes 289 (omega (arith, c.in-97-to-289)),
    ) refl

pub returns-in-290-to-481-clause-value : goal.returns-in-290-to-481-clause-value
returns-in-290-to-481-clause-value c =
    rw (
      lt-leb c.args.bytes 96 (omega (arith, c.in-290-to-481)),
      lt-leb c.args.bytes 289 (omega (arith, c.in-290-to-481)),
      le-leb c.args.bytes 481 (omega (arith, c.in-290-to-481)),
    ) refl

pub returns-in-482-to-1445-clause-value : goal.returns-in-482-to-1445-clause-value
returns-in-482-to-1445-clause-value c =
    rw (
      lt-leb c.args.bytes 96 (omega (arith, c.in-482-to-1445)),
      lt-leb c.args.bytes 289 (omega (arith, c.in-482-to-1445)),
      lt-leb c.args.bytes 481 (omega (arith, c.in-482-to-1445)),
      le-leb c.args.bytes 1445 (omega (arith, c.in-482-to-1445)),
    ) refl

pub returns-in-1446-to-1638-clause-value : goal.returns-in-1446-to-1638-clause-value
returns-in-1446-to-1638-clause-value c =
    rw (
      lt-leb c.args.bytes 96 (omega (arith, c.in-1446-to-1638)),
      lt-leb c.args.bytes 289 (omega (arith, c.in-1446-to-1638)),
      lt-leb c.args.bytes 481 (omega (arith, c.in-1446-to-1638)),
      lt-leb c.args.bytes 1445 (omega (arith, c.in-1446-to-1638)),
      le-leb c.args.bytes 1638 (omega (arith, c.in-1446-to-1638)),
    ) refl

pub returns-in-1639-to-4915-clause-value : goal.returns-in-1639-to-4915-clause-value
returns-in-1639-to-4915-clause-value c =
    rw (
      lt-leb c.args.bytes 96 (omega (arith, c.in-1639-to-4915)),
      lt-leb c.args.bytes 289 (omega (arith, c.in-1639-to-4915)),
      lt-leb c.args.bytes 481 (omega (arith, c.in-1639-to-4915)),
      lt-leb c.args.bytes 1445 (omega (arith, c.in-1639-to-4915)),
      lt-leb c.args.bytes 1638 (omega (arith, c.in-1639-to-4915)),
      le-leb c.args.bytes 4915 (omega (arith, c.in-1639-to-4915)),
    ) refl

pub returns-in-4916-to-8192-clause-value : goal.returns-in-4916-to-8192-clause-value
returns-in-4916-to-8192-clause-value c =
    rw (
      lt-leb c.args.bytes 96 (omega (arith, c.in-4916-to-8192)),
      lt-leb c.args.bytes 289 (omega (arith, c.in-4916-to-8192)),
      lt-leb c.args.bytes 481 (omega (arith, c.in-4916-to-8192)),
      lt-leb c.args.bytes 1445 (omega (arith, c.in-4916-to-8192)),
      lt-leb c.args.bytes 1638 (omega (arith, c.in-4916-to-8192)),
      lt-leb c.args.bytes 4915 (omega (arith, c.in-4916-to-8192)),
      le-leb c.args.bytes 8192 (omega (arith, c.in-4916-to-8192)),
    ) refl

pub returns-in_default-clause-value : goal.returns-in_default-clause-value
returns-in_default-clause-value c =
    rw (
      lt-leb c.args.bytes 96 (omega (arith, c.in_default)),
      lt-leb c.args.bytes 289 (omega (arith, c.in_default)),
      lt-leb c.args.bytes 481 (omega (arith, c.in_default)),
      lt-leb c.args.bytes 1445 (omega (arith, c.in_default)),
      lt-leb c.args.bytes 1638 (omega (arith, c.in_default)),
      lt-leb c.args.bytes 4915 (omega (arith, c.in_default)),
      lt-leb c.args.bytes 8192 (omega (arith, c.in_default)),
    ) refl
