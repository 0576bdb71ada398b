-- `last_column_rev` meets its contract: it is gathered from the last row up.
-- Assumes nothing.
use mathlib.Core.Path.{refl}
use native.Mathlib.Omega.{arith}
use Rattle.sparse.specs.Pivots.{mark}
use Rattle.lasts.specs.Lasts.{last_column_rev}
use Rattle.lasts.proofs.Vectors.{vector_same}
use Rattle.lasts.proofs.Ways.{by_row_rev_lem, rows_reversed}
use Rattle.lasts.proofs.columns.last_column_rev.Goals as goal

pub by_rows-requires : goal.by_rows-requires
by_rows-requires c = rows_reversed

pub returns : goal.returns
unfolding last_column_rev mark
returns c = vector_same _ _ refl (by_row_rev_lem _ _ (omega (arith, c.ranges.matrix.0))) c.by_rows.ensures
