-- What the functions of this crate ask of their arguments: what the tests before them have shown.
use Rattle.std.specs.Prelude.{◌≡◌, ℕ, ◌≤◌, ◌<◌, List, length, Ok}
use Rattle.sparse.specs.Matrix.{Matrix}
use Rattle.sparse.specs.Tests.{shape_test, columns_test, rows_test}

-- by 2 to 5: a matrix that can be read
pub record Readable (m : Matrix) : Type 0 where
  pub few : m.nrows ≤ 1024
  pub shape : shape_test m ≡ Ok tt
  pub rows : rows_test m.nrows m.ncols m.row_ptrs m.col_idcs ≡ Ok tt

-- by 3 to 5: a row whose columns climb, with a value for each
pub record Climbing (n : ℕ) (cols vals : List ℕ) : Type 0 where
  pub same : length cols ≡ length vals
  pub good : columns_test n cols ≡ Ok tt

-- a row of a square matrix
pub record SquareRow (n : ℕ) (cols vals : List ℕ) (i : ℕ) : Type 0 where
  pub climbs : Climbing n cols vals
  pub within : i < n

pub record Square (m : Matrix) : Type 0 where
  pub whole : Readable m
  pub same : m.nrows ≡ m.ncols
