-- For each public call: two outcomes that meet its promise are equal.
-- Assumes nothing.
use mathlib.Core.Path.{◌≡◌}
use Prim.Native.Nat.{ℕ}
use Rattle.lists.proofs.Only.{only}
use Rattle.sparse.specs.Lent.{LentVector, Outcome}
use Rattle.sparse.specs.Matrix.{Matrix}
use Rattle.readers.specs.Readers.{Found, last_row, is_one, Verdict}

pub last_row_only : (p : ℕ) (m : Matrix) (l : LentVector) {o u : Outcome Found LentVector} → o ≡ last_row p m l → u ≡ last_row p m l → o ≡ u
last_row_only p m l = only

pub is_one_only : (p : ℕ) (m : Matrix) {r s : Verdict} → r ≡ is_one p m → s ≡ is_one p m → r ≡ s
is_one_only p m = only
