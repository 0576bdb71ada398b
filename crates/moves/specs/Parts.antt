-- The rows of the results over compressed entries, as code writes them.
use Rattle.std.specs.Prelude.{List, map, ℕ, ◌-◌}
use Rattle.lists.specs.Table.{table}
use Rattle.sparse.specs.Matrix.{row}
use Rattle.sparse.specs.Pivots.{named}
use Rattle.sparse.specs.Rows.{Entry, entries}
use Rattle.moves.specs.Moves.{right_of}

-- the rows that a table names, in its order
unfoldable pub rows_named : List ℕ → List ℕ → List ℕ → List ℕ → List (List Entry)
rows_named ptrs cols vals pivots = map (row ptrs (entries cols vals)) (named pivots)

-- the columns from h on of n rows, the last row first
unfoldable pub right_rows : ℕ → ℕ → List ℕ → List ℕ → List ℕ → List (List Entry)
right_rows n h ptrs cols vals = table n (λ i. right_of h (row ptrs (entries cols vals) (n - 1 - i)))
