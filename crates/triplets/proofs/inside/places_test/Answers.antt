-- `places_test` meets its contract. The loop's invariant: no triplet before k is refused.
-- Assumes nothing.
use Rattle.triplets.specs.Triplets.{places_test}
use Rattle.sparse.proofs.Firsts.{past_none, past_next, past_stop, past_all, handed}
use Rattle.triplets.proofs.TripletLists.{length-triplets, at_triplets}
use Rattle.triplets.proofs.inside.places_test.Goals as goal

pub loop-k-init : goal.loop-k-init
loop-k-init c = past_none _ _

pub returns-in_err-place_test : goal.returns-in_err-place_test
unfolding places_test
returns-in_err-place_test c = rw (handed c.from_residual.ensures.1) (let h = c.loop-k-test.true in rw length-triplets (past_stop c.loop-k.invariant h (rw at_triplets c.place_test.ensures) c.in_err-place_test.was))

pub loop-k-preserved : goal.loop-k-preserved
loop-k-preserved c = let h = c.loop-k-test.true in past_next c.loop-k.invariant h (rw at_triplets c.place_test.ensures) c.in_ok-place_test.was

pub returns : goal.returns
unfolding places_test
returns c = rw length-triplets (past_all c.loop-k.invariant c.loop-k-test.false)
