-- For each public call: two outcomes that meet its promise are equal.
-- Assumes nothing.
use mathlib.Core.Path.{◌≡◌}
use mathlib.Core.List.{List}
use Prim.Native.Nat.{ℕ}
use Rattle.sparse.specs.Put.{Built}
use Rattle.lists.proofs.Only.{only}
use Rattle.sparse.specs.Lent.{LentVector, Outcome}
use Rattle.sparse.specs.Matrix.{Matrix}
use Rattle.lasts.specs.Lasts.{last_column, last_column_rev, last_column_by_pivot}

pub last_column_only : (p : ℕ) (m : Matrix) (l : LentVector) {o u : Outcome Built LentVector} → o ≡ last_column p m l → u ≡ last_column p m l → o ≡ u
last_column_only p m l = only

pub last_column_rev_only : (p : ℕ) (m : Matrix) (l : LentVector) {o u : Outcome Built LentVector} → o ≡ last_column_rev p m l → u ≡ last_column_rev p m l → o ≡ u
last_column_rev_only p m l = only

pub last_column_by_pivot_only : (p : ℕ) (m : Matrix) (pivots : List ℕ) (l : LentVector) {o u : Outcome Built LentVector} → o ≡ last_column_by_pivot p m pivots l → u ≡ last_column_by_pivot p m pivots l → o ≡ u
last_column_by_pivot_only p m pivots l = only
