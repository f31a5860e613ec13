use Rattle.vdb_script.proofs.Reading.{KeepsText-long, KeepsText-more}
use Rattle.vdb_script.proofs.lines.keep.Goals as goal

pub returns-then-fits : goal.returns-then-fits
returns-then-fits c = λ line kept. rw c.extend.ensures.text (KeepsText-more c.extend.result c.args.text.now line c.args.bytes.now (rw c.if-fits.true at kept) c.extend.ensures.capacity)

pub returns-else-fits : goal.returns-else-fits
returns-else-fits c = λ line kept. rw c.if-fits.false (KeepsText-long c.args.text.now line c.args.bytes.now (rw c.if-fits.false at kept))
