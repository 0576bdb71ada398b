-- For each public call: two outcomes that meet its promise are equal.
-- Assumes nothing.
use mathlib.Core.Path.{◌≡◌}
use mathlib.Core.List.{List}
use Prim.Native.Nat.{ℕ}
use Rattle.sparse.specs.Put.{Built}
use Rattle.lists.proofs.Only.{only}
use Rattle.sparse.specs.Lent.{Lent, Outcome}
use Rattle.sparse.specs.Matrix.{Matrix}
use Rattle.beside.specs.Beside.{append_col, append_identity}

pub append_identity_only : (p : ℕ) (m : Matrix) (l : Lent) {o u : Outcome Built Lent} → o ≡ append_identity p m l → u ≡ append_identity p m l → o ≡ u
append_identity_only p m l = only

pub append_col_only : (p : ℕ) (m : Matrix) (len : ℕ) (idcs vals : List ℕ) (l : Lent) {o u : Outcome Built Lent} → o ≡ append_col p m len idcs vals l → u ≡ append_col p m len idcs vals l → o ≡ u
append_col_only p m len idcs vals l = only
