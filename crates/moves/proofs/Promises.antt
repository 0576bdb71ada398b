-- For each public call: two outcomes that meet its promise are equal.
-- Assumes nothing.
use mathlib.Core.Path.{◌≡◌}
use mathlib.Core.List.{List}
use Prim.Native.Nat.{ℕ}
use Rattle.sparse.specs.Put.{Built}
use Rattle.lists.proofs.Only.{only}
use Rattle.sparse.specs.Lent.{Lent, Outcome}
use Rattle.sparse.specs.Matrix.{Matrix}
use Rattle.moves.specs.Moves.{sort_rows_by_pivot, take_rev_right_half}

pub sort_rows_by_pivot_only : (p : ℕ) (m : Matrix) (pivots : List ℕ) (l : Lent) {o u : Outcome Built Lent} → o ≡ sort_rows_by_pivot p m pivots l → u ≡ sort_rows_by_pivot p m pivots l → o ≡ u
sort_rows_by_pivot_only p m pivots l = only

pub take_rev_right_half_only : (p : ℕ) (m : Matrix) (l : Lent) {o u : Outcome Built Lent} → o ≡ take_rev_right_half p m l → u ≡ take_rev_right_half p m l → o ≡ u
take_rev_right_half_only p m l = only
