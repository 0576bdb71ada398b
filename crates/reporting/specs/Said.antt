-- What a text says, by its size line, and the matrix of it in lent memory.
use Rattle.std.specs.Prelude.{◌≡◌, List, [], map, ℕ, ◌+◌, ◌≤◌, length, drop, Ok}
use Rattle.lists.specs.Onto.{◌onto◌}
use Rattle.lists.specs.Table.{table}
use Rattle.sparse.specs.Lent.{Lent}
use Rattle.sparse.specs.Matrix.{Matrix, matrix}
use Rattle.triplets.specs.Triplets.{Triplet, start_of, written}
use Rattle.market.specs.Asks.{from_zero, rows_in, cols_in, values_in}
use Rattle.market.specs.Parse.{got, lines, Market, market_of}
use Rattle.market.specs.Places.{listed}
use Rattle.market.specs.Tests.{entries_test}
use Rattle.market.specs.declared.lines.Numbers.{Numbers}

-- the matrix that a text says
unfoldable pub matrix_said : Market → Matrix
matrix_said m = matrix m.nrows m.ncols (table (m.nrows + 1) (start_of (rows_in m.entries))) (cols_in m.entries) (values_in m.entries)

-- the entries that follow a size line
unfoldable pub entries_of : List ℕ → Numbers → List Triplet
entries_of text size = listed (lines size.value (drop size.next text))

-- what the text says, by its size line
unfoldable pub said_by : List ℕ → Numbers → Market
said_by text size = market_of size.row size.col (entries_of text size)

-- entries that passed the tests follow the size line
pub record Passed (text : List ℕ) (size : Numbers) : Type 0 where
  pub good : entries_test size.row size.col (entries_of text size) ≡ Ok tt
  pub read : lines size.value (drop size.next text) ≡ got (entries_of text size) []

-- and there is room for them, and for their matrix
pub record Loadable (text : List ℕ) (size : Numbers) (rows vals cols : List ℕ) (l : Lent) : Type 0 where
  pub passed : Passed text size
  pub row_room : 1024 ≤ length rows
  pub value_room : 1024 ≤ length vals
  pub col_room : 1024 ≤ length cols
  pub pointers : 65 ≤ length l.row_ptrs
  pub columns : 1024 ≤ length l.col_idcs
  pub numbers : 1024 ≤ length l.values

-- the entries at the front of three lists, and the matrix in its memory
pub record Loaded (m : Market) (rows vals cols : List ℕ) (l : Lent) (rows' vals' cols' : List ℕ) (l' : Lent) : Type 0 where
  pub row : rows' ≡ rows_in m.entries onto rows
  pub value : vals' ≡ values_in m.entries onto vals
  pub col : cols' ≡ cols_in m.entries onto cols
  pub matrix : l' ≡ written m.nrows (map from_zero m.entries) l
