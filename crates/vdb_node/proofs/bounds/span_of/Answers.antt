use Rattle.std.proofs.Common.{arith}
use Rattle.vdb_node.proofs.Spans.{span_of_bits}
use Rattle.vdb_node.proofs.bounds.span_of.Goals as goal

pub returns : goal.returns
returns c = span_of_bits c.args.word (omega (arith, c.if-word-eq0.false)) c.ranges.word.fits
