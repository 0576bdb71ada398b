-- What the functions that write ask of their arguments: what the tests before them have shown.
use Rattle.std.specs.Prelude.{◌≡◌, List, ℕ, ◌+◌, ◌≤◌, ◌<◌, length, get_or}
use Rattle.sparse.specs.Asks.{Cut}
use Rattle.sparse.specs.Lent.{Lent}
use Rattle.sparse.specs.Matrix.{row}
use Rattle.sparse.specs.Pivots.{named}
use Rattle.sparse.specs.Rows.{entries}
use Rattle.writing.specs.Asks.{Roomy}
use Rattle.writing.specs.Puts.{Put, Fits}
use Rattle.moves.specs.Moves.{right_of}
use Rattle.moves.specs.Parts.{rows_named, right_rows}

-- by 3, 4, 12 and 14: what the table names are rows, and there is room for them
pub record NamedFit (ptrs cols vals pivots : List ℕ) (l : Lent) : Type 0 where
  pub rows : ℕ
  pub same : length cols ≡ length vals
  pub cut : Cut rows (length vals) ptrs
  pub below : (k : ℕ) → k < length (named pivots) → get_or (named pivots) k 0 < rows
  pub room : Roomy (rows_named ptrs cols vals pivots) l

-- a row, and room for its columns from h on
pub record RightFits (h : ℕ) (cols vals : List ℕ) (s : Put) : Type 0 where
  pub same : length cols ≡ length vals
  pub fits : Fits (length (right_of h (entries cols vals))) s

-- by 3 and 4: row i lies within the entries; and there is room for its columns from h on
pub record RightRow (h : ℕ) (ptrs cols vals : List ℕ) (i : ℕ) (s : Put) : Type 0 where
  pub same : length cols ≡ length vals
  pub pointer : i + 1 < length ptrs
  pub rises : get_or ptrs i 0 ≤ get_or ptrs (i + 1) 0
  pub within : get_or ptrs (i + 1) 0 ≤ length vals
  pub fits : Fits (length (right_of h (row ptrs (entries cols vals) i))) s

-- by 3, 4 and 14: each row lies within the entries; and there is room for their columns from h on
pub record RightsFit (n h : ℕ) (ptrs cols vals : List ℕ) (l : Lent) : Type 0 where
  pub same : length cols ≡ length vals
  pub cut : Cut n (length vals) ptrs
  pub room : Roomy (right_rows n h ptrs cols vals) l
