-- What is moved in a matrix: its rows into the order of a pivot table; its right half, the rows reversed.
use Rattle.std.specs.Prelude.{ℕ, ◌-◌, ◌/◌, ◌%◌, Bool, not, List, [], ◌∷◌, map, leb, eqb}
use Rattle.lists.specs.Find.{keep}
use Rattle.lists.specs.Table.{table}
use Rattle.pivots.specs.Tables.{table_test}
use Rattle.sparse.specs.Lent.{Lent, Outcome}
use Rattle.sparse.specs.Matrix.{Matrix}
use Rattle.sparse.specs.Pivots.{named}
use Rattle.sparse.specs.Put.{putting, Built}
use Rattle.sparse.specs.Refusals.{refuse, lowest, Tested}
use Rattle.sparse.specs.Rows.{Entry, entry, row_at}
use Rattle.sparse.specs.Tests.{well_formed}
use Rattle.sparse.specs.declared.Refusal.TheVariants.{Mismatch}

-- `sort_rows_by_pivot`: the rows in the order of the table
unfoldable pub sort_rows_by_pivot : ℕ → Matrix → List ℕ → Lent → Outcome Built Lent
sort_rows_by_pivot p m pivots = putting (table_test p m pivots) (map (row_at m) (named pivots))

-- `take_rev_right_half`: half a column count, and whether it has no half
unfoldable pub half : ℕ → ℕ
half n = n / 2

unfoldable pub odd : ℕ → Bool
odd n = not (eqb (n % 2) 0)

-- a row's columns from h on, renumbered from 0
unfoldable pub right_of : ℕ → List Entry → List Entry
right_of h es = map (λ e. entry (e.col - h) e.value) (keep (λ e. leb h e.col) es)

-- the rows reversed
unfoldable pub reversed_right : Matrix → List (List Entry)
reversed_right m = table m.nrows (λ i. right_of (half m.ncols) (row_at m (m.nrows - 1 - i)))

-- 11 for an odd column count
unfoldable pub take_rev_test : ℕ → Matrix → Tested
take_rev_test p m = lowest (well_formed 65536 p m ∷ refuse (odd m.ncols) Mismatch ∷ [])

unfoldable pub take_rev_right_half : ℕ → Matrix → Lent → Outcome Built Lent
take_rev_right_half p m = putting (take_rev_test p m) (reversed_right m)
