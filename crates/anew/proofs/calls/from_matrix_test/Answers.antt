-- `from_matrix_test` meets its contract: the first test that refuses decides.
-- Assumes nothing.
use Rattle.sparse.proofs.Firsts.{lowest_stop, lowest_next, lowest_last, handed}
use Rattle.anew.specs.Calls.{from_matrix_test}
use Rattle.anew.proofs.calls.from_matrix_test.Goals as goal

pub returns-in_err-try_from_csr_clean : goal.returns-in_err-try_from_csr_clean
unfolding from_matrix_test
returns-in_err-try_from_csr_clean c = rw (handed c.from_residual.ensures.1) (lowest_stop _ c.try_from_csr_clean.ensures c.in_err-try_from_csr_clean.was)

pub returns-in_err-short_test : goal.returns-in_err-short_test
unfolding from_matrix_test
returns-in_err-short_test c = rw (handed c.from_residual-in_err-short_test.ensures.1) (lowest_next _ c.try_from_csr_clean.ensures c.in_ok-try_from_csr_clean.was (lowest_stop _ c.short_test.ensures c.in_err-short_test.was))

pub returns : goal.returns
unfolding from_matrix_test
returns c = lowest_next _ c.try_from_csr_clean.ensures c.in_ok-try_from_csr_clean.was (lowest_next _ c.short_test.ensures c.in_ok-short_test.was (lowest_last c.start_test.ensures))
