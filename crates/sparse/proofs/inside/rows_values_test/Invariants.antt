-- `rows_values_test` meets its contract. The loop's invariant: the rows before i pass.
-- Assumes nothing.
use Rattle.sparse.specs.Matrix.{row}
use Rattle.sparse.specs.Tests.{values_test}
use Rattle.sparse.proofs.Firsts.{Past}
use Rattle.sparse.proofs.inside.rows_values_test.Given as goal

abbrev pub invariant-loop-i : goal.invariant-loop-i
invariant-loop-i l = Past l.nrows (λ j. values_test l.clause l.p (row l.row_ptrs l.values j)) l.i
