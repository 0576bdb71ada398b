-- For the public call: two outcomes that meet its promise are equal.
-- Assumes nothing.
use mathlib.Core.Path.{◌≡◌}
use Prim.Native.Nat.{ℕ}
use Rattle.lists.proofs.Only.{only}
use Rattle.sparse.specs.Lent.{Outcome}
use Rattle.state.specs.Fresh.{Opening, new, Fresh}
use Rattle.state.specs.declared.Mode.{Mode}

pub new_only : (p n : ℕ) (mode : Mode) (o : Opening) {s t : Outcome Fresh Opening} → s ≡ new p n mode o → t ≡ new p n mode o → s ≡ t
new_only p n mode o = only
