-- What the functions ask of their arguments: what the tests before them have shown.
use Rattle.std.specs.Prelude.{◌≡◌, ℕ, ◌+◌, ◌≤◌, ◌<◌, List, length, get_or}
use Rattle.sparse.specs.Lent.{Lent}
use Rattle.triplets.specs.Triplets.{start_of}

-- by 3: three parts of equal length
pub record Parts (rows cols vals : List ℕ) : Type 0 where
  pub row_each : length rows ≡ length vals
  pub col_each : length cols ≡ length vals

-- and a place among them
pub record PartsAt (rows cols vals : List ℕ) (k : ℕ) : Type 0 where
  pub parts : Parts rows cols vals
  pub within : k < length vals

-- by 9: rows that don't fall
pub record Rising (rows : List ℕ) : Type 0 where
  pub rises : (i k : ℕ) → i ≤ k → k < length rows → get_or rows i 0 ≤ get_or rows k 0

-- and a row's start among them
pub record RowStart (rows : List ℕ) (row start : ℕ) : Type 0 where
  pub rising : Rising rows
  pub starts : start ≡ start_of rows row

-- and room for a pointer for each row, and one more
pub record Pointable (many : ℕ) (rows ptrs : List ℕ) : Type 0 where
  pub rising : Rising rows
  pub fits : many + 1 ≤ length ptrs

-- by 3, 9 and 14: ordered triplets, and room for them
pub record Writable (many : ℕ) (rows cols vals : List ℕ) (l : Lent) : Type 0 where
  pub parts : Parts rows cols vals
  pub rising : Rising rows
  pub pointers : many + 1 ≤ length l.row_ptrs
  pub columns : length vals ≤ length l.col_idcs
  pub numbers : length vals ≤ length l.values
