use Rattle.vdb_node.proofs.Spans.{bytes_projected}
use Rattle.vdb_node.proofs.bounds.union_of_bytes.Goals as goal

pub returns : goal.returns
returns c = bytes_projected c.args.word c.ranges.word.fits
