-- `indices` meets its contract, by the arms of its match.
-- Assumes nothing.
use native.Mathlib.Omega.{arith}
use Rattle.lasts.specs.Gathers.{size_of}
use Rattle.lasts.proofs.gather.indices.Goals as goal

pub overflow_cast-result : goal.overflow_cast-result
unfolding size_of
overflow_cast-result c = omega (arith, rw c.in-ByPivot.is at c.requires)

pub returns-in-ByRow : goal.returns-in-ByRow
unfolding size_of
returns-in-ByRow c = rw c.in-ByRow.is (omega arith)

pub returns-in-Reversed : goal.returns-in-Reversed
unfolding size_of
returns-in-Reversed c = rw c.in-Reversed.is (omega arith)

pub returns-in-ByPivot : goal.returns-in-ByPivot
unfolding size_of
returns-in-ByPivot c = rw c.in-ByPivot.is (omega arith)
