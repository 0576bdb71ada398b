-- `rows_test` meets its contract: the first test that refuses decides.
-- Assumes nothing.
use Rattle.sparse.proofs.Firsts.{lowest_stop, lowest_next, lowest_last, handed}
use Rattle.checking.specs.Rows.{rows_tests}
use Rattle.checking.proofs.tests.rows_test.Goals as goal

pub returns-in_err-modulus_test : goal.returns-in_err-modulus_test
unfolding rows_tests
returns-in_err-modulus_test c = rw (handed c.from_residual.ensures.1) (lowest_stop _ c.modulus_test.ensures c.in_err-modulus_test.was)

pub returns-in_err-size_test : goal.returns-in_err-size_test
unfolding rows_tests
returns-in_err-size_test c = rw (handed c.from_residual-in_err-size_test.ensures.1) (lowest_next _ c.modulus_test.ensures c.in_ok-modulus_test.was (lowest_stop _ c.size_test.ensures c.in_err-size_test.was))

pub returns-in_err-answers_test : goal.returns-in_err-answers_test
unfolding rows_tests
returns-in_err-answers_test c = rw (handed c.from_residual-in_err-answers_test.ensures.1) (lowest_next _ c.modulus_test.ensures c.in_ok-modulus_test.was (lowest_next _ c.size_test.ensures c.in_ok-size_test.was (lowest_stop _ c.answers_test.ensures c.in_err-answers_test.was)))

pub returns : goal.returns
unfolding rows_tests
returns c = lowest_next _ c.modulus_test.ensures c.in_ok-modulus_test.was (lowest_next _ c.size_test.ensures c.in_ok-size_test.was (lowest_next _ c.answers_test.ensures c.in_ok-answers_test.was (lowest_last c.try_from_csr_clean.ensures)))
