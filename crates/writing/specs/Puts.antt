-- A matrix being written row by row: where the next entry goes, and the lent columns and values so far.
use Rattle.std.specs.Prelude.{◌≡◌, List, ◌++◌, ℕ, ◌+◌, ◌≤◌, length, take, drop}
use Rattle.sparse.specs.Put.{cols_of, values_of}
use Rattle.sparse.specs.Rows.{Entry}

pub record Put : Type 0 where
  pub at : ℕ
  pub cols : List ℕ
  pub vals : List ℕ

abbrev pub put : ℕ → List ℕ → List ℕ → Put
put at cols vals = record { at = at; cols = cols; vals = vals }

-- xs written from place `at` on
unfoldable pub put_at : ℕ → List ℕ → List ℕ → List ℕ
put_at at xs old = take at old ++ (xs ++ drop (at + length xs) old)

-- more entries written
unfoldable pub more : List Entry → Put → Put
more es s = put (s.at + length es) (put_at s.at (cols_of es) s.cols) (put_at s.at (values_of es) s.vals)

-- there is room for so many more entries
pub record Fits (n : ℕ) (s : Put) : Type 0 where
  pub columns : s.at + n ≤ length s.cols
  pub numbers : s.at + n ≤ length s.vals

-- a row of n entries, and room for it
pub record RowFits (cols vals : List ℕ) (s : Put) : Type 0 where
  pub same : length cols ≡ length vals
  pub fits : Fits (length cols) s
