-- For each public call: two outcomes that meet its promise are equal.
-- Assumes nothing.
use mathlib.Core.Path.{◌≡◌}
use mathlib.Core.Bool.{true, false}
use Rattle.lists.proofs.Only.{only}
use Rattle.sparse.specs.Lent.{Outcome}
use Rattle.sparse.specs.Matrix.{Matrix}
use Rattle.state.specs.declared.Counts.{Counts}
use Rattle.running.specs.Rows.{Night}
use Rattle.telling.specs.declared.Reduced.{Reduced}
use Rattle.matrices.specs.Calls.{add_matrix}

pub add_matrix_only : (c : Counts) (a : Matrix) (w : Night) {s t : Outcome Reduced Night} → s ≡ add_matrix false c a w → t ≡ add_matrix false c a w → s ≡ t
add_matrix_only c a w = only

pub add_matrix_with_back_subs_only : (c : Counts) (a : Matrix) (w : Night) {s t : Outcome Reduced Night} → s ≡ add_matrix true c a w → t ≡ add_matrix true c a w → s ≡ t
add_matrix_with_back_subs_only c a w = only
