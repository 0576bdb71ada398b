-- `walk` meets its contract. The loop's invariant: below `col` all is done, and something stands there.
-- Assumes nothing.
use Rattle.std.specs.Prelude.{None}
use mathlib.Core.List.{[]}
use Prim.Native.Nat.{◌-◌}
use lib.ListN.{length, get_or}
use Rattle.walk.specs.Step.{upper, way}
use Rattle.walk.proofs.Walking.{Up, Front}
use Rattle.walk.proofs.climb.walk.Given as goal

abbrev pub invariant-loop-col : goal.invariant-loop-col
invariant-loop-col l = Up l.on l.p (length l.initial.dense) (upper l.u_cols l.u_vals l.u_ptrs l.pivots) (way (λ j. get_or l.initial.dense j 0) [] None) l.dense l.head l.col × Front l.from l.dense l.col

abbrev pub decreases-loop-col : goal.decreases-loop-col
decreases-loop-col l = length l.initial.dense - l.col
