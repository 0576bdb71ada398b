-- `rows_values_test` meets its contract. The loop's invariant: the rows before i pass.
-- Assumes nothing.
use native.Mathlib.Omega.{arith}
use Rattle.sparse.specs.Matrix.{row, part}
use Rattle.sparse.specs.Tests.{rows_values_test}
use Rattle.sparse.proofs.Cuts.{row_in}
use Rattle.sparse.proofs.Firsts.{past_none, past_next, past_stop, past_all, handed}
use Rattle.sparse.proofs.inside.rows_values_test.Goals as goal

pub loop-i-init : goal.loop-i-init
loop-i-init c = past_none _ _

pub offset_bounds-values-start : goal.offset_bounds-values-start
offset_bounds-values-start c = omega (arith, row_in c.requires c.loop-i-test.true)

pub slice_bounds-values_test-count : goal.slice_bounds-values_test-count
slice_bounds-values_test-count c = omega (arith, row_in c.requires c.loop-i-test.true)

pub returns-in_err-values_test : goal.returns-in_err-values_test
unfolding rows_values_test row part
returns-in_err-values_test c = rw (handed c.from_residual.ensures.1) (past_stop c.loop-i.invariant c.loop-i-test.true c.values_test.ensures c.in_err-values_test.was)

pub loop-i-preserved : goal.loop-i-preserved
unfolding row part
loop-i-preserved c = past_next c.loop-i.invariant c.loop-i-test.true c.values_test.ensures c.in_ok-values_test.was

pub returns : goal.returns
unfolding rows_values_test
returns c = past_all c.loop-i.invariant c.loop-i-test.false
