-- The last column of a matrix as a vector, indexed in three ways.
use Rattle.std.specs.Prelude.{ℕ, ◌+◌, ◌-◌, cond, eqb, length, get_or}
use mathlib.Core.List.{List, [], map, flatten}
use Rattle.lists.specs.Find.{keep}
use Rattle.lists.specs.Table.{table}
use Rattle.pivots.specs.Tables.{table_test}
use Rattle.sparse.specs.Lent.{LentVector, Outcome}
use Rattle.sparse.specs.Matrix.{Matrix}
use Rattle.sparse.specs.Pivots.{mark}
use Rattle.sparse.specs.Put.{putting_vector, Built}
use Rattle.sparse.specs.Rows.{Entry, entry, row_at}
use Rattle.sparse.specs.Tests.{well_formed}

-- the entry of a row in the last of n columns, if it has one, at index k; a stored zero is an entry
unfoldable pub in_last : ℕ → List Entry → ℕ → List Entry
in_last n es k = map (λ e. entry k e.value) (keep (λ e. eqb (e.col + 1) n) es)

-- the entry of row i in the last column, if it has one, at index k
unfoldable pub last_of : Matrix → ℕ → ℕ → List Entry
last_of m i k = in_last m.ncols (row_at m i) k

-- by row
unfoldable pub by_row : Matrix → List Entry
by_row m = flatten (table m.nrows (λ k. last_of m k k))

-- by rows-1-row
unfoldable pub by_row_rev : Matrix → List Entry
by_row_rev m = flatten (table m.nrows (λ k. last_of m (m.nrows - 1 - k) k))

-- by pivot column: at k the row whose pivot stands there, nothing where the mark stands
unfoldable pub by_pivot : Matrix → List ℕ → List Entry
by_pivot m pivots = flatten (table (length pivots) (λ k. cond (eqb (get_or pivots k 0) mark) [] (last_of m (get_or pivots k 0) k)))

-- `last_column`, a vector of length nrows
unfoldable pub last_column : ℕ → Matrix → LentVector → Outcome Built LentVector
last_column p m l = putting_vector (well_formed 65536 p m) (by_row m) l

-- `last_column_rev`, the same from the last row up
unfoldable pub last_column_rev : ℕ → Matrix → LentVector → Outcome Built LentVector
last_column_rev p m l = putting_vector (well_formed 65536 p m) (by_row_rev m) l

-- `last_column_by_pivot`, a vector of the table's length
unfoldable pub last_column_by_pivot : ℕ → Matrix → List ℕ → LentVector → Outcome Built LentVector
last_column_by_pivot p m pivots l = putting_vector (table_test p m pivots) (by_pivot m pivots) l
