-- `matrix_test` meets its contract: each `?` hands on the lowest of the tests so far.
-- Assumes nothing.
use mathlib.Core.Path.{sym, ◌∙◌}
use Rattle.sparse.specs.Tests.{matrix_test}
use Rattle.sparse.proofs.Cuts.{pointers, cut}
use Rattle.sparse.proofs.Firsts.{lowest_stop, lowest_next, lowest_last, handed}
use Rattle.sparse.proofs.inside.matrix_test.Goals as goal

pub returns-in_err-shape_test : goal.returns-in_err-shape_test
unfolding matrix_test
returns-in_err-shape_test c = rw (handed c.from_residual.ensures.1) (lowest_stop _ c.shape_test.ensures c.in_err-shape_test.was)

pub rows_test-requires : goal.rows_test-requires
rows_test-requires c = pointers _ (sym c.shape_test.ensures ∙ c.in_ok-shape_test.was)

pub returns-in_err-rows_test : goal.returns-in_err-rows_test
unfolding matrix_test
returns-in_err-rows_test c = rw (handed c.from_residual-in_err-rows_test.ensures.1) (lowest_next _ c.shape_test.ensures c.in_ok-shape_test.was
    (lowest_stop _ c.rows_test.ensures c.in_err-rows_test.was))

pub rows_values_test-requires : goal.rows_values_test-requires
rows_values_test-requires c = cut _ (sym c.shape_test.ensures ∙ c.in_ok-shape_test.was) (sym c.rows_test.ensures ∙ c.in_ok-rows_test.was)

pub returns : goal.returns
unfolding matrix_test
returns c = lowest_next _ c.shape_test.ensures c.in_ok-shape_test.was
    (lowest_next _ c.rows_test.ensures c.in_ok-rows_test.was (lowest_last c.rows_values_test.ensures))
