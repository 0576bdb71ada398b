-- `add_cols_test` meets its contract: each `?` hands on the lowest of the tests so far.
-- Assumes nothing.
use mathlib.Core.Path.{sym, ◌∙◌}
use Rattle.sparse.proofs.Firsts.{lowest_stop, lowest_next, lowest_last, handed}
use Rattle.widening.specs.AddCols.{add_cols_test}
use Rattle.widening.proofs.Passed.{width_opened}
use Rattle.widening.proofs.places.add_cols_test.Goals as goal

pub returns-in_err-modulus_test : goal.returns-in_err-modulus_test
unfolding add_cols_test
returns-in_err-modulus_test c = rw (handed c.from_residual.ensures.1) (lowest_stop _ c.modulus_test.ensures c.in_err-modulus_test.was)

pub returns-in_err-width_test : goal.returns-in_err-width_test
unfolding add_cols_test
returns-in_err-width_test c = rw (handed c.from_residual-in_err-width_test.ensures.1) (lowest_next _ c.modulus_test.ensures c.in_ok-modulus_test.was
    (lowest_stop _ c.width_test.ensures c.in_err-width_test.was))

pub returns-in_err-positions_test : goal.returns-in_err-positions_test
unfolding add_cols_test
returns-in_err-positions_test c = rw (handed c.from_residual-in_err-positions_test.ensures.1) (lowest_next _ c.modulus_test.ensures c.in_ok-modulus_test.was
    (lowest_next _ c.width_test.ensures c.in_ok-width_test.was
    (lowest_stop _ c.positions_test.ensures c.in_err-positions_test.was)))

pub state_test-requires : goal.state_test-requires
state_test-requires c = width_opened _ _ _ _ (sym c.modulus_test.ensures ∙ c.in_ok-modulus_test.was) (sym c.width_test.ensures ∙ c.in_ok-width_test.was)

pub returns : goal.returns
unfolding add_cols_test
returns c = lowest_next _ c.modulus_test.ensures c.in_ok-modulus_test.was
    (lowest_next _ c.width_test.ensures c.in_ok-width_test.was
    (lowest_next _ c.positions_test.ensures c.in_ok-positions_test.was
    (lowest_last c.state_test.ensures)))
