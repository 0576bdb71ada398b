-- Tests that ask for lengths alone come out the same for lists of the same lengths: what was good for one call is good for the next.
-- Assumes nothing.
use mathlib.Core.Path.{◌≡◌}
use Prim.Native.Nat.{ℕ}
use Rattle.sparse.specs.Matrix.{Matrix}
use Rattle.state.specs.Fresh.{start_test}
use Rattle.state.specs.declared.Mode.{Mode}
use Rattle.running.specs.Rows.{Night}
use Rattle.batches.specs.Tests.{short_test}
use Rattle.anew.specs.Calls.{from_matrix_test}
use Rattle.determinant.specs.Det.{det_test}
use Rattle.plenty.specs.Plenty.{SameLengths}

module _ (p : ℕ) (a : Matrix) {v w : Night} (s : SameLengths v w) where
  pub from_again : (mode : Mode)
      → from_matrix_test p mode a v.dense v.answers v.memory.u_ptrs v.memory.l_ptrs v.memory.pivots ≡ from_matrix_test p mode a w.dense w.answers w.memory.u_ptrs w.memory.l_ptrs w.memory.pivots
  unfolding from_matrix_test short_test start_test
  from_again mode = rw (s.dense, s.answers, s.memory.u_ptrs, s.memory.l_ptrs, s.memory.pivots)

  pub det_again : det_test p a v.dense v.memory.u_ptrs v.memory.l_ptrs v.memory.pivots ≡ det_test p a w.dense w.memory.u_ptrs w.memory.l_ptrs w.memory.pivots
  unfolding det_test start_test
  det_again = rw (s.dense, s.memory.u_ptrs, s.memory.l_ptrs, s.memory.pivots)
