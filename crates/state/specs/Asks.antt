-- What the functions of this crate ask of their arguments: what the tests before them have shown.
use Rattle.std.specs.Prelude.{◌≡◌, ℕ, ◌≤◌, ◌<◌, List, length, get_or, Ok}
use Rattle.sparse.specs.Asks.{Cut}
use Rattle.sparse.specs.Matrix.{Matrix}
use Rattle.sparse.specs.Tests.{modulus_test}
use Rattle.state.specs.Fresh.{Opening, start_test}
use Rattle.state.specs.declared.Mode.{Mode}

-- rows whose columns have a place in the pivot table
pub record Seated (u : Matrix) (pivots : List ℕ) : Type 0 where
  pub same : length u.col_idcs ≡ length u.values
  pub cut : Cut u.nrows (length u.values) u.row_ptrs
  pub below : (k : ℕ) → k < length u.col_idcs → get_or u.col_idcs k 0 < length pivots

-- and one of them
pub record SeatedRow (u : Matrix) (pivots : List ℕ) (r : ℕ) : Type 0 where
  pub all : Seated u pivots
  pub within : r < u.nrows

-- rows that all have a head
pub record Headed (u : Matrix) (pivots : List ℕ) : Type 0 where
  pub seated : Seated u pivots
  pub wide : u.ncols ≤ length pivots
  pub head : (r : ℕ) → r < u.nrows → get_or u.row_ptrs r 0 < length u.col_idcs

-- and a column
pub record HeadedColumn (u : Matrix) (pivots : List ℕ) (j : ℕ) : Type 0 where
  pub all : Headed u pivots
  pub within : j < u.ncols

-- by 1, 2 and 11: a modulus, sizes within the limits, and a place in the pivot table for each column
pub record Sized (p : ℕ) (u : Matrix) (pivots : List ℕ) : Type 0 where
  pub modulus : modulus_test p ≡ Ok tt
  pub high : u.nrows ≤ 1024
  pub wide : u.ncols ≤ 1024
  pub few : length u.values ≤ 1048576
  pub table : u.ncols ≤ length pivots

-- the same of the record of counts
pub record Opened (p n : ℕ) (pivots : List ℕ) : Type 0 where
  pub modulus : modulus_test p ≡ Ok tt
  pub wide : n ≤ 1024
  pub table : n ≤ length pivots

-- by 11 and 14: a place for each mark and for each first pointer
pub record Startable (n : ℕ) (mode : Mode) (o : Opening) : Type 0 where
  pub table : n ≤ length o.pivots
  pub room : start_test mode o.u_ptrs o.l_ptrs ≡ Ok tt
