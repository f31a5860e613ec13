use Rattle.vdb_node.proofs.Common.{◌/◌, ◌%◌, arith, is_on}
use Rattle.vdb_node.proofs.Spans.{none_projected, projects_through, span_divided, span_projected}
use Rattle.vdb_node.proofs.bounds.active_box.Goals as goal

pub returns-in_err-yz : goal.returns-in_err-yz
returns-in_err-yz g c =
    rw c.from_residual-in_err-yz.ensures
    (none_projected (is_on c.args.states.now) 512 (λ i. i % 64) c.union_of_words-union.result c.union_of_words-union.ensures (λ i h. omega arith)
    c.in_err-yz.ensures)

pub returns-in_err-z : goal.returns-in_err-z
returns-in_err-z g c =
    rw c.from_residual-in_err-z.ensures
    (none_projected (is_on c.args.states.now) 512 (λ i. i % 8) c.union_of_bytes.result
    (projects_through (is_on c.args.states.now) 512 (λ i. i % 64) (λ j. j % 8) (λ i. i % 8) c.union_of_words-union.result c.union_of_bytes.result
    (λ i h. omega arith) (λ i. omega arith) c.union_of_words-union.ensures c.union_of_bytes.ensures)
    (λ i h. omega arith) c.in_err-z.ensures)

pub returns : goal.returns
returns g c =
    record {
      x = span_projected (is_on c.args.states.now) 512 (λ i. i / 64) c.words_on.result c.words_on.ensures (λ i h. omega (arith, h)) c.in_ok-x.x c.in_ok-x.ensures;
      y = span_divided (is_on c.args.states.now) 512 (λ i. i % 64) (λ i. i / 8 % 8) (λ i h. omega (arith, h)) c.in_ok-yz.yz
          (span_projected (is_on c.args.states.now) 512 (λ i. i % 64) c.union_of_words-union.result c.union_of_words-union.ensures (λ i h. omega arith)
          c.in_ok-yz.yz c.in_ok-yz.ensures);
      z = span_projected (is_on c.args.states.now) 512 (λ i. i % 8) c.union_of_bytes.result
          (projects_through (is_on c.args.states.now) 512 (λ i. i % 64) (λ j. j % 8) (λ i. i % 8) c.union_of_words-union.result c.union_of_bytes.result
          (λ i h. omega arith) (λ i. omega arith) c.union_of_words-union.ensures c.union_of_bytes.ensures)
          (λ i h. omega arith) c.in_ok-z.z c.in_ok-z.ensures;
    }
