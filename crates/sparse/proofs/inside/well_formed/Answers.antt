-- `well_formed` meets its contract: each `?` hands on the lowest of the tests so far.
-- Assumes nothing.
use mathlib.Core.Path.{sym, ◌∙◌}
use Rattle.sparse.specs.Tests.{well_formed}
use Rattle.sparse.proofs.Cuts.{few_rows}
use Rattle.sparse.proofs.Firsts.{lowest_stop, lowest_next, lowest_last, handed}
use Rattle.sparse.proofs.inside.well_formed.Goals as goal

pub returns-in_err-modulus_test : goal.returns-in_err-modulus_test
unfolding well_formed
returns-in_err-modulus_test c = rw (handed c.from_residual.ensures.1) (lowest_stop _ c.modulus_test.ensures c.in_err-modulus_test.was)

pub returns-in_err-size_test : goal.returns-in_err-size_test
unfolding well_formed
returns-in_err-size_test c = rw (handed c.from_residual-in_err-size_test.ensures.1) (lowest_next _ c.modulus_test.ensures c.in_ok-modulus_test.was
    (lowest_stop _ c.size_test.ensures c.in_err-size_test.was))

pub matrix_test-requires : goal.matrix_test-requires
matrix_test-requires c = few_rows _ _ _ _ (sym c.size_test.ensures ∙ c.in_ok-size_test.was)

pub returns : goal.returns
unfolding well_formed
returns c = lowest_next _ c.modulus_test.ensures c.in_ok-modulus_test.was
    (lowest_next _ c.size_test.ensures c.in_ok-size_test.was (lowest_last c.matrix_test.ensures))
