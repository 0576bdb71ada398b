-- For the public call: two outcomes that meet its promise are equal.
-- Assumes nothing.
use mathlib.Core.Path.{◌≡◌}
use mathlib.Core.List.{List}
use Prim.Native.Nat.{ℕ}
use Rattle.lists.proofs.Only.{only}
use Rattle.sparse.specs.Lent.{Lent, Outcome}
use Rattle.state.specs.Memory.{Memory}
use Rattle.state.specs.declared.Counts.{Counts}
use Rattle.backing.specs.Back.{Backing, back_substitute, Backed}

pub back_substitute_only : (c : Counts) (m : Memory) (l : Lent) (dense : List ℕ) {s t : Outcome Backed Backing} → s ≡ back_substitute c m l dense → t ≡ back_substitute c m l dense → s ≡ t
back_substitute_only c m l dense = only
