-- What the functions of this crate ask of their arguments: what the tests before them have shown.
use Rattle.std.specs.Prelude.{◌≡◌, List, ℕ, ◌≤◌, ◌<◌, length, Ok}
use Rattle.sparse.specs.Lent.{LentVector}
use Rattle.sparse.specs.Matrix.{Matrix}
use Rattle.sparse.specs.Pivots.{pivots_test}
use Rattle.readers.specs.Asks.{Readable}
use Rattle.lasts.specs.Gathers.{size_of, gathered}
use Rattle.lasts.specs.declared.gather.Order.{Order}
use Rattle.lasts.specs.declared.gather.Order.TheVariants.{ByPivot}

-- by 2 to 5 a matrix that can be read; by 2 few indices; by 12 a good table, where one is read
pub record Sourced (o : Order) (m : Matrix) (pivots : List ℕ) : Type 0 where
  pub whole : Readable m
  pub few : size_of o m.nrows pivots ≤ 1024
  pub table : o ≡ ByPivot → pivots_test m.nrows pivots ≡ Ok tt

-- one index of them
pub record At (o : Order) (m : Matrix) (pivots : List ℕ) (k : ℕ) : Type 0 where
  pub from : Sourced o m pivots
  pub within : k < size_of o m.nrows pivots

-- and by 14 room for what is gathered
pub record Room (o : Order) (m : Matrix) (pivots : List ℕ) (l : LentVector) : Type 0 where
  pub from : Sourced o m pivots
  pub indices : length (gathered o m pivots) ≤ length l.idcs
  pub numbers : length (gathered o m pivots) ≤ length l.values

-- an order of all rows
pub record AllRows (o : Order) : Type 0 where
  pub no_table : o ≡ ByPivot → ⊥
