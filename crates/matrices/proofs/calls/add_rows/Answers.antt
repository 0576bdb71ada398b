-- `add_rows` meets its contract: refused by its tests, or all rows are taken.
-- Assumes nothing.
use mathlib.Core.Path.{sym, ◌∙◌}
use Rattle.matrices.proofs.Nights.{add_begins, add_refused, add_taken}
use Rattle.matrices.proofs.calls.add_rows.Goals as goal

pub returns-in-Err : goal.returns-in-Err
returns-in-Err c = add_refused _ _ _ _ c.add_matrix_test-tested.ensures c.in-Err.is

pub take_all-requires : goal.take_all-requires
take_all-requires c = add_begins _ _ _ (sym c.add_matrix_test-tested.ensures ∙ c.in_default.is)

pub returns : goal.returns
returns c = add_taken _ _ _ _ c.add_matrix_test-tested.ensures c.in_default.is c.take_all.ensures
