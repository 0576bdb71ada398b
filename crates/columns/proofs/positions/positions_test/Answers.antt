-- `positions_test` meets its contract. The loop's invariant: the positions before k pass.
-- Assumes nothing.
use Rattle.sparse.proofs.Firsts.{past_none, past_next, past_stop, past_all, handed}
use Rattle.columns.specs.Positions.{positions_test}
use Rattle.columns.proofs.positions.positions_test.Goals as goal

pub loop-k-init : goal.loop-k-init
loop-k-init c = past_none _ _

pub returns-in_err-position_test : goal.returns-in_err-position_test
unfolding positions_test
returns-in_err-position_test c = rw (handed c.from_residual.ensures.1) (past_stop c.loop-k.invariant c.loop-k-test.true c.position_test.ensures c.in_err-position_test.was)

pub loop-k-preserved : goal.loop-k-preserved
loop-k-preserved c = past_next c.loop-k.invariant c.loop-k-test.true c.position_test.ensures c.in_ok-position_test.was

pub returns : goal.returns
unfolding positions_test
returns c = past_all c.loop-k.invariant c.loop-k-test.false
