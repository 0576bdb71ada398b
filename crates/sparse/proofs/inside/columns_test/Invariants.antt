-- `columns_test` meets its contract. The loop's invariant: the entries before k pass.
-- Assumes nothing.
use lib.ListN.{length}
use Rattle.sparse.specs.Tests.{column_test}
use Rattle.sparse.proofs.Firsts.{Past}
use Rattle.sparse.proofs.inside.columns_test.Given as goal

abbrev pub invariant-loop-k : goal.invariant-loop-k
invariant-loop-k l = Past (length l.cols) (column_test l.ncols l.cols) l.k
