-- `rows_test` meets its contract. The loop's invariant: the rows before i pass.
-- Assumes nothing.
use Prim.Native.Nat.{◌+◌}
use lib.ListN.{get_or}
use Rattle.sparse.specs.Tests.{row_test}
use Rattle.sparse.proofs.Firsts.{Past}
use Rattle.sparse.proofs.inside.rows_test.Given as goal

abbrev pub invariant-loop-i : goal.invariant-loop-i
invariant-loop-i l = Past l.nrows (λ j. row_test l.ncols l.col_idcs (get_or l.row_ptrs j 0) (get_or l.row_ptrs (j + 1) 0)) l.i
