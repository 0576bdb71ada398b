-- `columns_test` meets its contract. The loop's invariant: the entries before k pass.
-- Assumes nothing.
use Rattle.sparse.specs.Tests.{columns_test}
use Rattle.sparse.proofs.Firsts.{past_none, past_next, past_stop, past_all, handed}
use Rattle.sparse.proofs.inside.columns_test.Goals as goal

pub loop-k-init : goal.loop-k-init
loop-k-init c = past_none _ _

pub returns-in_err-column_test : goal.returns-in_err-column_test
unfolding columns_test
returns-in_err-column_test c = rw (handed c.from_residual.ensures.1) (past_stop c.loop-k.invariant c.loop-k-test.true c.column_test.ensures c.in_err-column_test.was)

pub loop-k-preserved : goal.loop-k-preserved
loop-k-preserved c = past_next c.loop-k.invariant c.loop-k-test.true c.column_test.ensures c.in_ok-column_test.was

pub returns : goal.returns
unfolding columns_test
returns c = past_all c.loop-k.invariant c.loop-k-test.false
