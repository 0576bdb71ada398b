-- `add_cols_test` meets its contract: each `?` hands on the lowest of the tests so far.
-- Assumes nothing.
use mathlib.Core.Path.{sym, ◌∙◌}
use Rattle.sparse.proofs.Cuts.{few_rows}
use Rattle.sparse.proofs.Firsts.{lowest_stop, lowest_next, lowest_last, handed}
use Rattle.columns.specs.Positions.{add_cols_test}
use Rattle.columns.proofs.Passed.{few_cols}
use Rattle.columns.proofs.positions.add_cols_test.Goals as goal

pub returns-in_err-modulus_test : goal.returns-in_err-modulus_test
unfolding add_cols_test
returns-in_err-modulus_test c = rw (handed c.from_residual.ensures.1) (lowest_stop _ c.modulus_test.ensures c.in_err-modulus_test.was)

pub returns-in_err-size_test : goal.returns-in_err-size_test
unfolding add_cols_test
returns-in_err-size_test c = rw (handed c.from_residual-in_err-size_test.ensures.1) (lowest_next _ c.modulus_test.ensures c.in_ok-modulus_test.was
    (lowest_stop _ c.size_test.ensures c.in_err-size_test.was))

pub wider_test-requires : goal.wider_test-requires
wider_test-requires c = few_cols _ _ _ _ (sym c.size_test.ensures ∙ c.in_ok-size_test.was)

pub returns-in_err-wider_test : goal.returns-in_err-wider_test
unfolding add_cols_test
returns-in_err-wider_test c = rw (handed c.from_residual-in_err-wider_test.ensures.1) (lowest_next _ c.modulus_test.ensures c.in_ok-modulus_test.was
    (lowest_next _ c.size_test.ensures c.in_ok-size_test.was
    (lowest_stop _ c.wider_test.ensures c.in_err-wider_test.was)))

pub matrix_test-requires : goal.matrix_test-requires
matrix_test-requires c = few_rows _ _ _ _ (sym c.size_test.ensures ∙ c.in_ok-size_test.was)

pub returns-in_err-matrix_test : goal.returns-in_err-matrix_test
unfolding add_cols_test
returns-in_err-matrix_test c = rw (handed c.from_residual-in_err-matrix_test.ensures.1) (lowest_next _ c.modulus_test.ensures c.in_ok-modulus_test.was
    (lowest_next _ c.size_test.ensures c.in_ok-size_test.was
    (lowest_next _ c.wider_test.ensures c.in_ok-wider_test.was
    (lowest_stop _ c.matrix_test.ensures c.in_err-matrix_test.was))))

pub returns : goal.returns
unfolding add_cols_test
returns c = lowest_next _ c.modulus_test.ensures c.in_ok-modulus_test.was
    (lowest_next _ c.size_test.ensures c.in_ok-size_test.was
    (lowest_next _ c.wider_test.ensures c.in_ok-wider_test.was
    (lowest_next _ c.matrix_test.ensures c.in_ok-matrix_test.was
    (lowest_last c.positions_test.ensures))))
