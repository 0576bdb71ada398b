-- `spread_pivots` meets its contract. The loop's invariant: from the place after the columns left on, the table is spread.
-- Assumes nothing.
use Prim.Native.Nat.{◌+◌}
use Rattle.widening.proofs.Spreading.{Spreading}
use Rattle.widening.proofs.places.spread_pivots.Given as goal

abbrev pub invariant-loop-left : goal.invariant-loop-left
invariant-loop-left l = Spreading l.ncols l.positions l.initial.pivots l.pivots l.from l.left

abbrev pub decreases-loop-left : goal.decreases-loop-left
decreases-loop-left l = l.from + l.left
