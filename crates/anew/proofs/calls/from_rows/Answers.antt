-- `from_rows` meets its contract: refused by its tests, or a fresh start and all rows.
-- Assumes nothing.
use mathlib.Core.Path.{sym, ◌∙◌}
use Rattle.anew.proofs.Anews.{from_anew, from_refused, from_taken}
use Rattle.anew.proofs.calls.from_rows.Goals as goal

pub returns-in-Err : goal.returns-in-Err
returns-in-Err c = from_refused _ _ _ _ _ _ c.from_matrix_test-tested.ensures c.in-Err.is

pub take_anew-requires : goal.take_anew-requires
take_anew-requires c = from_anew _ _ _ _ (sym c.from_matrix_test-tested.ensures ∙ c.in_default.is)

pub returns : goal.returns
returns c = from_taken _ _ _ _ _ _ c.from_matrix_test-tested.ensures c.in_default.is c.take_anew.ensures
