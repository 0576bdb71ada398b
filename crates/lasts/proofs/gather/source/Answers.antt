-- `source` meets its contract, by the arms of its match.
-- Assumes nothing.
use native.Mathlib.Omega.{arith}
use Rattle.lasts.specs.Gathers.{size_of, source_of}
use Rattle.lasts.proofs.gather.source.Goals as goal

pub overflow_sub-result : goal.overflow_sub-result
unfolding size_of
overflow_sub-result c = omega (arith, rw c.in-Reversed.is at c.requires)

pub overflow_sub-result-in-Reversed : goal.overflow_sub-result-in-Reversed
unfolding size_of
overflow_sub-result-in-Reversed c = omega (arith, rw c.in-Reversed.is at c.requires)

pub bounds-pivots-k : goal.bounds-pivots-k
unfolding size_of
bounds-pivots-k c = rw c.in-ByPivot.is at c.requires

pub returns-in-ByRow : goal.returns-in-ByRow
unfolding source_of
returns-in-ByRow c = rw c.in-ByRow.is (omega arith)

pub returns-in-Reversed : goal.returns-in-Reversed
unfolding source_of
returns-in-Reversed c = rw c.in-Reversed.is (omega arith)

pub returns-in-ByPivot : goal.returns-in-ByPivot
unfolding source_of
returns-in-ByPivot c = rw c.in-ByPivot.is (omega arith)
