-- `values_test` meets its contract. The loop's invariant: the values before this one pass.
-- Assumes nothing.
use Rattle.sparse.specs.Tests.{values_test}
use Rattle.sparse.proofs.Firsts.{past_none, past_next, past_stop, past_all, handed}
use Rattle.sparse.proofs.inside.values_test.Goals as goal

pub loop-value-init : goal.loop-value-init
loop-value-init c = past_none _ _

pub returns-in_err-value_test : goal.returns-in_err-value_test
unfolding values_test
returns-in_err-value_test c = rw (handed c.from_residual.ensures.1) (past_stop c.loop-value.invariant c.loop-value-test.true c.value_test.ensures c.in_err-value_test.was)

pub loop-value-preserved : goal.loop-value-preserved
loop-value-preserved c = past_next c.loop-value.invariant c.loop-value-test.true c.value_test.ensures c.in_ok-value_test.was

pub returns : goal.returns
unfolding values_test
returns c = past_all c.loop-value.invariant c.loop-value-test.false
