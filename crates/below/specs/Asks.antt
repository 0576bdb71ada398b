-- What the functions that write ask of their arguments: what the tests before them have shown.
use Rattle.std.specs.Prelude.{◌≡◌, List, ◌++◌, ℕ, ◌-◌, ◌≤◌, ◌<◌, length}
use Rattle.sparse.specs.Asks.{Cut}
use Rattle.sparse.specs.Lent.{Lent}
use Rattle.writing.specs.Asks.{RowPut, Roomy}
use Rattle.writing.specs.Puts.{Put}
use Rattle.below.specs.Parts.{rows_in}

-- row i of two matrices, of which the first has n rows
pub record EitherRow (n : ℕ) (ptrs cols vals more_ptrs more_cols more_vals : List ℕ) (i : ℕ) (s : Put) : Type 0 where
  pub first : i < n → RowPut ptrs cols vals i 0 s
  pub second : n ≤ i → RowPut more_ptrs more_cols more_vals (i - n) 0 s

-- what `append` and `add_row` write
pub record RowsFit (n : ℕ) (ptrs cols vals : List ℕ) (k : ℕ) (more_ptrs more_cols more_vals : List ℕ) (l : Lent) : Type 0 where
  pub same : length cols ≡ length vals
  pub cut : Cut n (length vals) ptrs
  pub more_same : length more_cols ≡ length more_vals
  pub more_cut : Cut k (length more_vals) more_ptrs
  pub rows : Roomy (rows_in n ptrs cols vals ++ rows_in k more_ptrs more_cols more_vals) l
