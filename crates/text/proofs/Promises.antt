-- For each public call: two outcomes that meet its promise are equal.
-- Assumes nothing.
use mathlib.Core.Path.{◌≡◌}
use mathlib.Core.List.{List}
use Prim.Native.Nat.{ℕ}
use Rattle.lists.proofs.Only.{only}
use Rattle.sparse.specs.Lent.{Outcome}
use Rattle.sparse.specs.Matrix.{Matrix}
use Rattle.text.specs.Mma.{fmt_mma, fmt_mma_vector, Printed}

pub fmt_mma_only : (p : ℕ) (m : Matrix) (text : List ℕ) {o u : Outcome Printed (List ℕ)} → o ≡ fmt_mma p m text → u ≡ fmt_mma p m text → o ≡ u
fmt_mma_only p m text = only

pub fmt_mma_vector_only : (p len : ℕ) (idcs vals text : List ℕ) {o u : Outcome Printed (List ℕ)} → o ≡ fmt_mma_vector p len idcs vals text → u ≡ fmt_mma_vector p len idcs vals text → o ≡ u
fmt_mma_vector_only p len idcs vals text = only
