-- For the public call: two outcomes that meet its promise are equal.
-- Assumes nothing.
use mathlib.Core.Path.{◌≡◌}
use mathlib.Core.List.{List}
use Prim.Native.Nat.{ℕ}
use Rattle.lists.proofs.Only.{only}
use Rattle.sparse.specs.Lent.{Outcome}
use Rattle.state.specs.Memory.{Memory}
use Rattle.state.specs.declared.Counts.{Counts}
use Rattle.widening.specs.AddCols.{add_cols, Widened}

pub add_cols_only : (c : Counts) (positions : List ℕ) (m : Memory) {s t : Outcome Widened Memory} → s ≡ add_cols c positions m → t ≡ add_cols c positions m → s ≡ t
add_cols_only c positions m = only
