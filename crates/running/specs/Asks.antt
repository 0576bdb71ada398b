-- What taking rows asks for: what the tests have shown.
use Rattle.std.specs.Prelude.{◌≡◌, List, ℕ, ◌<◌, Ok}
use Rattle.lists.specs.Table.{table}
use Rattle.sparse.specs.Matrix.{Matrix}
use Rattle.sparse.specs.Tests.{clean}
use Rattle.state.specs.declared.Counts.{Counts}
use Rattle.stepping.specs.Asks.{Stands, Offered}
use Rattle.stepping.specs.Take.{Lists, lists}
use Rattle.running.specs.Rows.{Night}
use Rattle.telling.specs.declared.Run.{Run}

-- a state, a clean row, and dense memory that is zero, a place for each column
pub record Offers (c : Counts) (cols vals : List ℕ) (o : Lists) : Type 0 where
  pub stands : Stands c o
  pub row : Offered c cols vals
  pub zero : o.dense ≡ table c.ncols (λ j. 0)

-- clean rows of as many columns
pub record Fits (c : Counts) (a : Matrix) : Type 0 where
  pub rows : clean 65536 c.modulus a ≡ Ok tt
  pub columns : a.ncols ≡ c.ncols

-- a state, such rows, and dense memory that is zero, a place for each column
pub record Goes (c : Counts) (a : Matrix) (w : Night) : Type 0 where
  pub stands : Stands c (lists w.memory w.dense)
  pub fits : Fits c a
  pub zero : w.dense ≡ table c.ncols (λ j. 0)

-- and a row that isn't taken yet
pub record GoesOn (r : Run) (a : Matrix) (w : Night) : Type 0 where
  pub goes : Goes r.counts a w
  pub within : r.taken < a.nrows
