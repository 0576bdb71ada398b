-- `rows_test` meets its contract. The loop's invariant: the rows before i pass.
-- Assumes nothing.
use Rattle.sparse.specs.Tests.{rows_test}
use Rattle.sparse.proofs.Firsts.{past_none, past_next, past_stop, past_all, handed}
use Rattle.sparse.proofs.inside.rows_test.Goals as goal

pub loop-i-init : goal.loop-i-init
loop-i-init c = past_none _ _

pub returns-in_err-row_test : goal.returns-in_err-row_test
unfolding rows_test
returns-in_err-row_test c = rw (handed c.from_residual.ensures.1) (past_stop c.loop-i.invariant c.loop-i-test.true c.row_test.ensures c.in_err-row_test.was)

pub loop-i-preserved : goal.loop-i-preserved
loop-i-preserved c = past_next c.loop-i.invariant c.loop-i-test.true c.row_test.ensures c.in_ok-row_test.was

pub returns : goal.returns
unfolding rows_test
returns c = past_all c.loop-i.invariant c.loop-i-test.false
