-- Two outcomes that meet the promise are equal.
-- Assumes nothing.
use mathlib.Core.Path.{◌≡◌}
use Prim.Native.Nat.{ℕ}
use Rattle.lists.proofs.Only.{only}
use Rattle.sparse.specs.Lent.{Outcome}
use Rattle.sparse.specs.Matrix.{Matrix}
use Rattle.running.specs.Rows.{Night}
use Rattle.solving.specs.Solve.{solve}
use Rattle.solving.specs.declared.Solved.{Solved}

pub solve_only : (p : ℕ) (a : Matrix) (w : Night) {s t : Outcome Solved Night} → s ≡ solve p a w → t ≡ solve p a w → s ≡ t
solve_only p a w = only
