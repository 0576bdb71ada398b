-- For each public call: two outcomes that meet its promise are equal.
-- Assumes nothing.
use mathlib.Core.Path.{◌≡◌}
use mathlib.Core.List.{List}
use Prim.Native.Nat.{ℕ}
use Rattle.sparse.specs.Put.{Built}
use Rattle.lists.proofs.Only.{only}
use Rattle.sparse.specs.Lent.{Lent, Outcome}
use Rattle.sparse.specs.Matrix.{Matrix}
use Rattle.below.specs.Below.{append, add_row}

pub append-only : (p : ℕ) (a b : Matrix) (l : Lent) {o u : Outcome Built Lent} → o ≡ append p a b l → u ≡ append p a b l → o ≡ u
append-only p a b l = only

pub add_row_only : (p : ℕ) (m : Matrix) (cols vals : List ℕ) (l : Lent) {o u : Outcome Built Lent} → o ≡ add_row p m cols vals l → u ≡ add_row p m cols vals l → o ≡ u
add_row_only p m cols vals l = only
