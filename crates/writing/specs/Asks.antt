-- What the functions that write ask of their arguments: what the tests before them have shown.
use Rattle.std.specs.Prelude.{◌≡◌, ℕ, ◌+◌, ◌≤◌, ◌<◌, length, get_or, Ok}
use mathlib.Core.List.{List, flatten}
use Rattle.sparse.specs.Asks.{Cut}
use Rattle.sparse.specs.Lent.{Lent, room_test}
use Rattle.sparse.specs.Matrix.{Matrix, row}
use Rattle.sparse.specs.Rows.{Entry, entries}
use Rattle.writing.specs.Puts.{Put, Fits}

-- by 3 and 4: row i lies within the entries; and there is room for it, with so many entries more
pub record RowPut (ptrs cols vals : List ℕ) (i extra : ℕ) (s : Put) : Type 0 where
  pub same : length cols ≡ length vals
  pub pointer : i + 1 < length ptrs
  pub rises : get_or ptrs i 0 ≤ get_or ptrs (i + 1) 0
  pub within : get_or ptrs (i + 1) 0 ≤ length vals
  pub fits : Fits (length (row ptrs (entries cols vals) i) + extra) s

-- by 3 and 4: each row lies within the entries
pub record Readable (m : Matrix) : Type 0 where
  pub same : length m.col_idcs ≡ length m.values
  pub cut : Cut m.nrows (length m.values) m.row_ptrs

-- by 14: these rows fit
pub record Roomy (rs : List (List Entry)) (l : Lent) : Type 0 where
  pub room : room_test (length rs) (length (flatten rs)) l ≡ Ok tt
