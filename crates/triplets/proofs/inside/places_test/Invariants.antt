-- `places_test` meets its contract. The loop's invariant: no triplet before k is refused.
-- Assumes nothing.
use lib.ListN.{length}
use Rattle.triplets.specs.Triplets.{triplets, at, place_test}
use Rattle.sparse.proofs.Firsts.{Past}
use Rattle.triplets.proofs.inside.places_test.Given as goal

abbrev pub invariant-loop-k : goal.invariant-loop-k
invariant-loop-k l = Past (length l.vals) (λ i. place_test l.nrows l.ncols (at (triplets l.rows l.cols l.vals) i)) l.k
