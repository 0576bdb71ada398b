-- `next` meets its contract. The loop's invariant: zeros up to `at`.
-- Assumes nothing.
use Rattle.walk.proofs.DenseLaws.{Searched}
use Rattle.walk.proofs.kernels.next.Given as goal

abbrev pub invariant-loop-at : goal.invariant-loop-at
invariant-loop-at l = Searched l.dense l.col l.at
