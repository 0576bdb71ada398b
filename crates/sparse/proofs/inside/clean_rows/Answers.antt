-- `clean_rows` meets its contract: each `?` hands on the lowest of the tests so far.
-- Assumes nothing.
use mathlib.Core.Path.{sym, ◌∙◌}
use Rattle.sparse.specs.Tests.{clean}
use Rattle.sparse.proofs.Cuts.{formed_cut}
use Rattle.sparse.proofs.Firsts.{lowest_stop, lowest_next, lowest_last, handed}
use Rattle.sparse.proofs.inside.clean_rows.Goals as goal

pub returns-in_err-well_formed : goal.returns-in_err-well_formed
unfolding clean
returns-in_err-well_formed c = rw (handed c.from_residual.ensures.1) (lowest_stop _ c.well_formed-2.ensures c.in_err-well_formed.was)

pub rows_values_test-requires : goal.rows_values_test-requires
rows_values_test-requires c = formed_cut _ _ _ (sym c.well_formed-2.ensures ∙ c.in_ok-well_formed.was)

pub returns : goal.returns
unfolding clean
returns c = lowest_next _ c.well_formed-2.ensures c.in_ok-well_formed.was (lowest_last c.rows_values_test.ensures)
