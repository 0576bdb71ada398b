-- Inserting columns: two outcomes that meet the promise are equal.
-- Assumes nothing.
use mathlib.Core.Path.{◌≡◌}
use mathlib.Core.List.{List}
use Prim.Native.Nat.{ℕ}
use Rattle.lists.proofs.Only.{only}
use Rattle.sparse.specs.Lent.{Outcome}
use Rattle.sparse.specs.Matrix.{Matrix}
use Rattle.columns.specs.Positions.{add_cols, Widened}

pub add_cols_only : (p : ℕ) (m : Matrix) (positions : List ℕ) {o u : Outcome Widened (List ℕ)} → o ≡ add_cols p m positions → u ≡ add_cols p m positions → o ≡ u
add_cols_only p m positions = only
