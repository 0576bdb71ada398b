-- `order_test` meets its contract. The loop's invariant: no triplet before k is refused.
-- Assumes nothing.
use lib.ListN.{length}
use Rattle.triplets.specs.Triplets.{triplets, step_test}
use Rattle.sparse.proofs.Firsts.{Past}
use Rattle.triplets.proofs.inside.order_test.Given as goal

abbrev pub invariant-loop-k : goal.invariant-loop-k
invariant-loop-k l = Past (length l.vals) (step_test (triplets l.rows l.cols l.vals)) l.k
