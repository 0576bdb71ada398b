-- `account_test` meets its contract: the first test that refuses decides.
-- Assumes nothing.
use Rattle.sparse.proofs.Firsts.{handed}
use Rattle.checking.proofs.Slices.{account_rows, account_short, account_slices}
use Rattle.checking.proofs.tests.account_test.Goals as goal

pub returns-in_err-rows_test : goal.returns-in_err-rows_test
returns-in_err-rows_test c = rw (handed c.from_residual.ensures.1) (account_rows _ _ c.rows_test.ensures c.in_err-rows_test.was)

pub returns-in_err-short_test : goal.returns-in_err-short_test
returns-in_err-short_test c = rw (handed c.from_residual-in_err-short_test.ensures.1) (account_short _ _ c.rows_test.ensures c.in_ok-rows_test.was c.short_test.ensures c.in_err-short_test.was)

pub returns : goal.returns
returns c = account_slices _ _ c.rows_test.ensures c.in_ok-rows_test.was c.short_test.ensures c.in_ok-short_test.was c.slices_test.ensures
