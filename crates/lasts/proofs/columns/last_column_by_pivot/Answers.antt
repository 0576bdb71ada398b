-- `last_column_by_pivot` meets its contract: past the tests each index has the mark or a row.
-- Assumes nothing.
use Rattle.sparse.proofs.Firsts.{handed}
use Rattle.std.specs.Prelude.{Ok}
use mathlib.Core.Path.{◌≡◌, sym, ◌∙◌}
use Rattle.sparse.specs.Matrix.{seen}
use Rattle.pivots.specs.Tables.{table_test}
use Rattle.lasts.specs.Lasts.{last_column_by_pivot}
use Rattle.lasts.proofs.Vectors.{vector_refused, vector_same}
use Rattle.lasts.proofs.Ways.{by_pivot_lem, pivots_sourced}
use Rattle.lasts.proofs.columns.last_column_by_pivot.Goals as goal
use Rattle.lasts.proofs.columns.last_column_by_pivot.Goals.{In_ok-table_test}

-- past the tests: they found nothing
tested : (c : In_ok-table_test) → let a = c.args in table_test a.p (seen a.matrix) a.pivots.now ≡ Ok tt
tested c = sym c.table_test.ensures ∙ c.in_ok-table_test.was

pub returns-in_err-table_test : goal.returns-in_err-table_test
unfolding last_column_by_pivot
returns-in_err-table_test c = rw (handed c.from_residual.ensures.1) (vector_refused _ _ c.table_test.ensures c.in_err-table_test.was)

pub gather-requires : goal.gather-requires
gather-requires c = pivots_sourced _ _ _ (tested (goal.at.gather-requires c).In_ok-table_test)

pub returns : goal.returns
unfolding last_column_by_pivot
returns c = vector_same _ _ (sym (tested (goal.at.returns c).In_ok-table_test)) (by_pivot_lem _ _) c.gather.ensures
