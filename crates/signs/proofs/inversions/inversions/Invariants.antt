-- `inversions` meets its contract. The loop's invariant: those of the places before are summed.
-- Assumes nothing.
use mathlib.Core.Path.{◌≡◌}
use Prim.Native.Nat.{◌*◌, ◌≤◌}
use Rattle.lists.specs.Sum.{Σ}
use Rattle.signs.specs.Value.{inverted}
use Rattle.signs.proofs.inversions.inversions.Given as goal

abbrev pub invariant-loop-place : goal.invariant-loop-place
invariant-loop-place l = (l.sum ≤ l.place * 1024) × (l.sum ≡ Σ l.place (inverted l.table))
