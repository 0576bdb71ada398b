-- For the public call: two outcomes that meet its promise are equal.
-- Assumes nothing.
use mathlib.Core.Path.{◌≡◌}
use Prim.Native.Nat.{ℕ}
use Rattle.lists.proofs.Only.{only}
use Rattle.sparse.specs.Lent.{Outcome}
use Rattle.sparse.specs.Matrix.{Matrix}
use Rattle.stepping.specs.Take.{Lists}
use Rattle.determinant.specs.Det.{det}
use Rattle.determinant.specs.declared.Determined.{Determined}

pub det_only : (p : ℕ) (a : Matrix) (o : Lists) {s t : Outcome Determined Lists} → s ≡ det p a o → t ≡ det p a o → s ≡ t
det_only p a o = only
