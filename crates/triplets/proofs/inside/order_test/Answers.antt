-- `order_test` meets its contract. The loop's invariant: no triplet before k is refused.
-- Assumes nothing.
use Rattle.triplets.specs.Triplets.{order_test}
use Rattle.sparse.proofs.Firsts.{past_none, past_next, past_stop, past_all, handed}
use Rattle.triplets.proofs.TripletLists.{length-triplets}
use Rattle.triplets.proofs.inside.order_test.Goals as goal

pub loop-k-init : goal.loop-k-init
loop-k-init c = past_none _ _

pub returns-in_err-step_test : goal.returns-in_err-step_test
unfolding order_test
returns-in_err-step_test c = rw (handed c.from_residual.ensures.1) (rw length-triplets (past_stop c.loop-k.invariant c.loop-k-test.true c.step_test.ensures c.in_err-step_test.was))

pub loop-k-preserved : goal.loop-k-preserved
loop-k-preserved c = past_next c.loop-k.invariant c.loop-k-test.true c.step_test.ensures c.in_ok-step_test.was

pub returns : goal.returns
unfolding order_test
returns c = rw length-triplets (past_all c.loop-k.invariant c.loop-k-test.false)
