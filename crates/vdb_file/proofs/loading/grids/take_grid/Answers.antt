use Rattle.vdb_file.proofs.Common.{arith, rules, FitsSigned, ⊤, w32, w64, int_eq, beq, err_from_is_err_and, number_bytes, truth_bytes, I32, I64}
use Rattle.vdb_value.specs.declared.Kind.TheVariants as kinds
use Rattle.vdb_scene.specs.declared.scalar.Scalar.TheVariants.{Bool as truth}
use Rattle.vdb_file.proofs.GridParts.{no_kind}
use Rattle.vdb_file.proofs.KindsOfValues.{are_i32s, are_i64s, are_truths, number_of, truth_of}
use Rattle.vdb_file.proofs.TypedGrids.{no_typed, tree_typed}
use Rattle.vdb_file.proofs.Moves.{moves_ok, moves_then}
use Rattle.vdb_file.proofs.loading.grids.take_grid.Goals as goal

pub returns-in_err-kind-clause-reads : goal.returns-in_err-kind-clause-reads
returns-in_err-kind-clause-reads g c =
    let p = err_from_is_err_and c.from_residual.result c.from_residual.ensures.1 in
    rw (p.1, p.2) (no_kind c.args.version c.in_err-kind.field-0.0 _ c.in_err-kind.ensures.reads)

pub returns-in_err-truths-in-0-clause-reads : goal.returns-in_err-truths-in-0-clause-reads
returns-in_err-truths-in-0-clause-reads g c =
    let p = err_from_is_err_and c.from_residual-in_err-truths-in-0.result c.from_residual-in_err-truths-in-0.ensures.1 in
    rw (p.1, p.2) (no_typed (λ b. ⊤) beq truth_bytes kinds.Bool truth truth_of are_truths c.args.version c.in_err-truths-in-0.field-0.0 _ _ (rw c.in-0.is at c.in_ok-kind.ensures.reads.1) c.in_err-truths-in-0.ensures.reads)

pub returns-in_ok-truths-in-0-clause-reads : goal.returns-in_ok-truths-in-0-clause-reads
returns-in_ok-truths-in-0-clause-reads g c =
    tree_typed (λ b. ⊤) beq truth_bytes kinds.Bool truth truth_of are_truths c.args.version _ _ _ c.in_ok-truths-in-0.truths.0 _ c.in_ok-truths-in-0.truths.1 (search rules) (rw c.in-0.is at c.in_ok-kind.ensures.reads.1)
    c.in_ok-truths-in-0.ensures.reads.0 c.in_ok-truths-in-0.ensures.reads.1

pub returns-in_err-numbers-in-1-clause-reads : goal.returns-in_err-numbers-in-1-clause-reads
returns-in_err-numbers-in-1-clause-reads g c =
    let p = err_from_is_err_and c.from_residual-in_err-numbers-in-1.result c.from_residual-in_err-numbers-in-1.ensures.1 in
    rw (p.1, p.2) (no_typed (FitsSigned w32) int_eq (number_bytes w32) kinds.I32 I32 number_of are_i32s c.args.version c.in_err-numbers-in-1.field-0.0 _ _ (rw c.in-1.is at c.in_ok-kind.ensures.reads.1) c.in_err-numbers-in-1.ensures.reads)

pub returns-in_ok-numbers-in-1-clause-reads : goal.returns-in_ok-numbers-in-1-clause-reads
returns-in_ok-numbers-in-1-clause-reads g c =
    tree_typed (FitsSigned w32) int_eq (number_bytes w32) kinds.I32 I32 number_of are_i32s c.args.version _ _ _ c.in_ok-numbers-in-1.numbers.0 _ c.in_ok-numbers-in-1.numbers.1 (search rules) (rw c.in-1.is at c.in_ok-kind.ensures.reads.1)
    c.in_ok-numbers-in-1.ensures.reads.0 c.in_ok-numbers-in-1.ensures.reads.1

pub returns-in_err-longs-in-2-clause-reads : goal.returns-in_err-longs-in-2-clause-reads
returns-in_err-longs-in-2-clause-reads g c =
    let p = err_from_is_err_and c.from_residual-in_err-longs-in-2.result c.from_residual-in_err-longs-in-2.ensures.1 in
    rw (p.1, p.2) (no_typed (FitsSigned w64) int_eq (number_bytes w64) kinds.I64 I64 number_of are_i64s c.args.version c.in_err-longs-in-2.field-0.0 _ _ (rw c.in-2.is at c.in_ok-kind.ensures.reads.1) c.in_err-longs-in-2.ensures.reads)

pub returns-in_ok-longs-in-2-clause-reads : goal.returns-in_ok-longs-in-2-clause-reads
returns-in_ok-longs-in-2-clause-reads g c =
    tree_typed (FitsSigned w64) int_eq (number_bytes w64) kinds.I64 I64 number_of are_i64s c.args.version _ _ _ c.in_ok-longs-in-2.longs.0 _ c.in_ok-longs-in-2.longs.1 (search rules) (rw c.in-2.is at c.in_ok-kind.ensures.reads.1)
    c.in_ok-longs-in-2.ensures.reads.0 c.in_ok-longs-in-2.ensures.reads.1

pub returns-in_ok-truths-in-0-clause-unused : goal.returns-in_ok-truths-in-0-clause-unused
returns-in_ok-truths-in-0-clause-unused g c = λ k. (c.from_tree.ensures.last k, c.from_tree.ensures.empty k)

pub returns-in_ok-numbers-in-1-clause-unused : goal.returns-in_ok-numbers-in-1-clause-unused
returns-in_ok-numbers-in-1-clause-unused g c = λ k. (c.from_tree-in-1.ensures.last k, c.from_tree-in-1.ensures.empty k)

pub returns-in_ok-longs-in-2-clause-unused : goal.returns-in_ok-longs-in-2-clause-unused
returns-in_ok-longs-in-2-clause-unused g c = λ k. (c.from_tree-in-2.ensures.last k, c.from_tree-in-2.ensures.empty k)

pub returns-in_ok-truths-in-0-clause-moves : goal.returns-in_ok-truths-in-0-clause-moves
returns-in_ok-truths-in-0-clause-moves g c = moves_ok (moves_then c.in_ok-kind.ensures.moves c.in_ok-truths-in-0.ensures.moves)

pub returns-in_ok-numbers-in-1-clause-moves : goal.returns-in_ok-numbers-in-1-clause-moves
returns-in_ok-numbers-in-1-clause-moves g c = moves_ok (moves_then c.in_ok-kind.ensures.moves c.in_ok-numbers-in-1.ensures.moves)

pub returns-in_ok-longs-in-2-clause-moves : goal.returns-in_ok-longs-in-2-clause-moves
returns-in_ok-longs-in-2-clause-moves g c = moves_ok (moves_then c.in_ok-kind.ensures.moves c.in_ok-longs-in-2.ensures.moves)

pub from_tree-requires : goal.from_tree-requires
from_tree-requires g c = let head = c.in_ok-truths-in-0.ensures.reads.0.head in (omega arith, (head.positive, head.limited))

pub from_tree-requires-in-1 : goal.from_tree-requires-in-1
from_tree-requires-in-1 g c = let head = c.in_ok-numbers-in-1.ensures.reads.0.head in (omega arith, (head.positive, head.limited))

pub from_tree-requires-in-2 : goal.from_tree-requires-in-2
from_tree-requires-in-2 g c = let head = c.in_ok-longs-in-2.ensures.reads.0.head in (omega arith, (head.positive, head.limited))
