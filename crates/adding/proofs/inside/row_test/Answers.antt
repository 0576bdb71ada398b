-- `row_test` meets its contract: each `return` gives the lowest of the tests before it.
-- Assumes nothing.
use mathlib.Core.Path.{refl}
use borrow.Author.Tests.{eq-eqb, ne_eqb}
use Rattle.sparse.specs.Refusals.{refuse}
use Rattle.sparse.proofs.Firsts.{lowest_stop, lowest_next, lowest_last, handed}
use Rattle.adding.specs.RowTests.{row_tests}
use Rattle.adding.proofs.inside.row_test.Goals as goal

pub returns-in_err-modulus_test : goal.returns-in_err-modulus_test
unfolding row_tests
returns-in_err-modulus_test c = rw (handed c.from_residual.ensures.1) (lowest_stop _ c.modulus_test.ensures c.in_err-modulus_test.was)

pub returns-in_err-size_test : goal.returns-in_err-size_test
unfolding row_tests
returns-in_err-size_test c = rw (handed c.from_residual-in_err-size_test.ensures.1) (lowest_next _ c.modulus_test.ensures c.in_ok-modulus_test.was (lowest_stop _ c.size_test.ensures c.in_err-size_test.was))

pub returns-then-cols-vals : goal.returns-then-cols-vals
unfolding row_tests refuse
returns-then-cols-vals c = lowest_next _ c.modulus_test.ensures c.in_ok-modulus_test.was (lowest_next _ c.size_test.ensures c.in_ok-size_test.was (lowest_stop _ (rw (ne_eqb _ _ c.if-cols-vals.true)) refl))

pub returns-in_err-columns_test : goal.returns-in_err-columns_test
unfolding row_tests refuse
returns-in_err-columns_test c = rw (handed c.from_residual-in_err-columns_test.ensures.1) (lowest_next _ c.modulus_test.ensures c.in_ok-modulus_test.was (lowest_next _ c.size_test.ensures c.in_ok-size_test.was (lowest_next _ (rw (eq-eqb _ _ c.if-cols-vals.false)) refl (lowest_stop _ c.columns_test.ensures c.in_err-columns_test.was))))

pub returns-in_err-values_test : goal.returns-in_err-values_test
unfolding row_tests refuse
returns-in_err-values_test c = rw (handed c.from_residual-in_err-values_test.ensures.1) (lowest_next _ c.modulus_test.ensures c.in_ok-modulus_test.was (lowest_next _ c.size_test.ensures c.in_ok-size_test.was (lowest_next _ (rw (eq-eqb _ _ c.if-cols-vals.false)) refl (lowest_next _ c.columns_test.ensures c.in_ok-columns_test.was (lowest_stop _ c.values_test.ensures c.in_err-values_test.was)))))

pub returns : goal.returns
unfolding row_tests refuse
returns c = lowest_next _ c.modulus_test.ensures c.in_ok-modulus_test.was (lowest_next _ c.size_test.ensures c.in_ok-size_test.was (lowest_next _ (rw (eq-eqb _ _ c.if-cols-vals.false)) refl (lowest_next _ c.columns_test.ensures c.in_ok-columns_test.was (lowest_next _ c.values_test.ensures c.in_ok-values_test.was (lowest_last c.values_test-2.ensures)))))
