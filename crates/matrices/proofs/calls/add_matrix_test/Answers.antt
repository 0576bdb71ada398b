-- `add_matrix_test` meets its contract: the first test that refuses decides.
-- Assumes nothing.
use mathlib.Core.Path.{sym, ◌∙◌}
use Rattle.sparse.proofs.Firsts.{lowest_stop, lowest_next, lowest_last, handed}
use Rattle.matrices.specs.Tests.{add_matrix_test}
use Rattle.matrices.proofs.Nights.{rows_opened}
use Rattle.matrices.proofs.calls.add_matrix_test.Goals as goal

pub returns-in_err-rows_test : goal.returns-in_err-rows_test
unfolding add_matrix_test
returns-in_err-rows_test c = rw (handed c.from_residual.ensures.1) (lowest_stop _ c.rows_test.ensures c.in_err-rows_test.was)

pub returns-in_err-short_test : goal.returns-in_err-short_test
unfolding add_matrix_test
returns-in_err-short_test c = rw (handed c.from_residual-in_err-short_test.ensures.1) (lowest_next _ c.rows_test.ensures c.in_ok-rows_test.was (lowest_stop _ c.short_test.ensures c.in_err-short_test.was))

pub state_test-requires : goal.state_test-requires
state_test-requires c = rows_opened _ _ _ _ _ _ (sym c.rows_test.ensures ∙ c.in_ok-rows_test.was) (sym c.short_test.ensures ∙ c.in_ok-short_test.was)

pub returns : goal.returns
unfolding add_matrix_test
returns c = lowest_next _ c.rows_test.ensures c.in_ok-rows_test.was (lowest_next _ c.short_test.ensures c.in_ok-short_test.was (lowest_last c.state_test.ensures))
