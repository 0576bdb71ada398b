-- `rows_test` meets its contract: the first test that refuses decides.
-- Assumes nothing.
use Rattle.sparse.proofs.Firsts.{lowest_stop, lowest_next, handed}
use Rattle.matrices.specs.Tests.{rows_tests}
use Rattle.matrices.proofs.Nights.{columns_differ, columns_agree}
use Rattle.matrices.proofs.tests.rows_test.Goals as goal

pub returns-in_err-modulus_test : goal.returns-in_err-modulus_test
unfolding rows_tests
returns-in_err-modulus_test c = rw (handed c.from_residual.ensures.1) (lowest_stop _ c.modulus_test.ensures c.in_err-modulus_test.was)

pub returns-in_err-size_test : goal.returns-in_err-size_test
unfolding rows_tests
returns-in_err-size_test c = rw (handed c.from_residual-in_err-size_test.ensures.1) (lowest_next _ c.modulus_test.ensures c.in_ok-modulus_test.was (lowest_stop _ c.size_test.ensures c.in_err-size_test.was))

pub returns-in_err-try_from_csr_clean : goal.returns-in_err-try_from_csr_clean
unfolding rows_tests
returns-in_err-try_from_csr_clean c = rw (handed c.from_residual-in_err-try_from_csr_clean.ensures.1) (lowest_next _ c.modulus_test.ensures c.in_ok-modulus_test.was (lowest_next _ c.size_test.ensures c.in_ok-size_test.was (lowest_stop _ c.try_from_csr_clean.ensures c.in_err-try_from_csr_clean.was)))

pub returns-then-columns-ncols : goal.returns-then-columns-ncols
unfolding rows_tests
returns-then-columns-ncols c = lowest_next _ c.modulus_test.ensures c.in_ok-modulus_test.was (lowest_next _ c.size_test.ensures c.in_ok-size_test.was (lowest_next _ c.try_from_csr_clean.ensures c.in_ok-try_from_csr_clean.was (columns_differ _ _ c.if-columns-ncols.true)))

pub returns : goal.returns
unfolding rows_tests
returns c = lowest_next _ c.modulus_test.ensures c.in_ok-modulus_test.was (lowest_next _ c.size_test.ensures c.in_ok-size_test.was (lowest_next _ c.try_from_csr_clean.ensures c.in_ok-try_from_csr_clean.was (columns_agree _ _ c.if-columns-ncols.false)))
