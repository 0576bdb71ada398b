-- `add_row_test` meets its contract: each `?` hands on the lowest of the tests so far.
-- Assumes nothing.
use mathlib.Core.Path.{sym, ◌∙◌}
use Rattle.sparse.proofs.Firsts.{lowest_stop, lowest_next, lowest_last, handed}
use Rattle.adding.specs.RowTests.{add_row_test}
use Rattle.adding.proofs.RowsTested.{tested_opened}
use Rattle.adding.proofs.inside.add_row_test.Goals as goal

pub returns-in_err-row_test : goal.returns-in_err-row_test
unfolding add_row_test
returns-in_err-row_test c = rw (handed c.from_residual.ensures.1) (lowest_stop _ c.row_test.ensures c.in_err-row_test.was)

pub returns-in_err-short_test : goal.returns-in_err-short_test
unfolding add_row_test
returns-in_err-short_test c = rw (handed c.from_residual-in_err-short_test.ensures.1) (lowest_next _ c.row_test.ensures c.in_ok-row_test.was (lowest_stop _ c.short_test.ensures c.in_err-short_test.was))

pub state_test-requires : goal.state_test-requires
state_test-requires c = tested_opened _ _ _ _ _ _ (sym c.row_test.ensures ∙ c.in_ok-row_test.was) (sym c.short_test.ensures ∙ c.in_ok-short_test.was)

pub returns : goal.returns
unfolding add_row_test
returns c = lowest_next _ c.row_test.ensures c.in_ok-row_test.was (lowest_next _ c.short_test.ensures c.in_ok-short_test.was (lowest_last c.state_test.ensures))
