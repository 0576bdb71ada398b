-- `positions_test` meets its contract. The loop's invariant: the positions before k pass.
-- Assumes nothing.
use lib.ListN.{length}
use Rattle.sparse.proofs.Firsts.{Past}
use Rattle.columns.specs.Positions.{position_test}
use Rattle.columns.proofs.positions.positions_test.Given as goal

abbrev pub invariant-loop-k : goal.invariant-loop-k
invariant-loop-k l = Past (length l.positions) (position_test l.ncols l.positions) l.k
