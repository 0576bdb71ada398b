-- For each public call: two outcomes that meet its promise are equal.
-- Assumes nothing.
use mathlib.Core.Path.{◌≡◌}
use mathlib.Core.Bool.{true, false}
use Prim.Native.Nat.{ℕ}
use Rattle.lists.proofs.Only.{only}
use Rattle.sparse.specs.Lent.{Outcome}
use Rattle.sparse.specs.Matrix.{Matrix}
use Rattle.state.specs.declared.Mode.{Mode}
use Rattle.running.specs.Rows.{Night}
use Rattle.telling.specs.declared.Reduced.{Reduced}
use Rattle.anew.specs.Calls.{from_matrix}

pub from_matrix_only : (p : ℕ) (mode : Mode) (a : Matrix) (w : Night) {s t : Outcome Reduced Night} → s ≡ from_matrix false false p mode a w → t ≡ from_matrix false false p mode a w → s ≡ t
from_matrix_only p mode a w = only

pub from_matrix_with_back_subs_only : (p : ℕ) (mode : Mode) (a : Matrix) (w : Night) {s t : Outcome Reduced Night} → s ≡ from_matrix true false p mode a w → t ≡ from_matrix true false p mode a w → s ≡ t
from_matrix_with_back_subs_only p mode a w = only

pub from_matrix_check_dependent_only : (p : ℕ) (mode : Mode) (a : Matrix) (w : Night) {s t : Outcome Reduced Night} → s ≡ from_matrix false true p mode a w → t ≡ from_matrix false true p mode a w → s ≡ t
from_matrix_check_dependent_only p mode a w = only

pub from_matrix_check_dependent_with_back_subs_only : (p : ℕ) (mode : Mode) (a : Matrix) (w : Night) {s t : Outcome Reduced Night} → s ≡ from_matrix true true p mode a w → t ≡ from_matrix true true p mode a w → s ≡ t
from_matrix_check_dependent_with_back_subs_only p mode a w = only
