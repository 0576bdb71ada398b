-- `product` meets its contract. The loop's invariant: the rows before are multiplied.
-- Assumes nothing.
use mathlib.Core.Path.{◌≡◌}
use Prim.Native.Nat.{◌<◌}
use Rattle.signs.specs.Value.{product}
use Rattle.signs.proofs.lasts.product.Given as goal

abbrev pub invariant-loop-row : goal.invariant-loop-row
invariant-loop-row l = (l.value < l.p) × (l.value ≡ product l.p l.ptrs l.vals l.row)
