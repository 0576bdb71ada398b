-- `last_column` meets its contract: it is gathered in the rows' order.
-- Assumes nothing.
use mathlib.Core.Path.{refl}
use native.Mathlib.Omega.{arith}
use Rattle.sparse.specs.Pivots.{mark}
use Rattle.lasts.specs.Lasts.{last_column}
use Rattle.lasts.proofs.Vectors.{vector_same}
use Rattle.lasts.proofs.Ways.{by_row_lem, rows_in_order}
use Rattle.lasts.proofs.columns.last_column.Goals as goal

pub by_rows-requires : goal.by_rows-requires
by_rows-requires c = rows_in_order

pub returns : goal.returns
unfolding last_column mark
returns c = vector_same _ _ refl (by_row_lem _ _ (omega (arith, c.ranges.matrix.0))) c.by_rows.ensures
