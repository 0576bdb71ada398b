-- What taking rows asks for: what the tests have shown.
use Rattle.std.specs.Prelude.{◌≡◌, ℕ, ◌≤◌, length, Ok}
use Rattle.sparse.specs.Matrix.{Matrix}
use Rattle.sparse.specs.Tests.{clean}
use Rattle.state.specs.Fresh.{start_test}
use Rattle.state.specs.declared.Counts.{Counts}
use Rattle.state.specs.declared.Mode.{Mode}
use Rattle.stepping.specs.Asks.{Stands}
use Rattle.stepping.specs.Take.{lists}
use Rattle.running.specs.Asks.{Fits}
use Rattle.running.specs.Rows.{Night}

-- a state, clean rows of as many columns, and dense memory with a place for each column
pub record Begins (c : Counts) (a : Matrix) (w : Night) : Type 0 where
  pub stands : Stands c (lists w.memory w.dense)
  pub fits : Fits c a
  pub long : c.ncols ≤ length w.dense

-- clean rows, dense memory and a pivot table with a place for each column, and places for the first pointers
pub record Anew (p : ℕ) (mode : Mode) (a : Matrix) (w : Night) : Type 0 where
  pub rows : clean 65536 p a ≡ Ok tt
  pub long : a.ncols ≤ length w.dense
  pub table : a.ncols ≤ length w.memory.pivots
  pub room : start_test mode w.memory.u_ptrs w.memory.l_ptrs ≡ Ok tt
