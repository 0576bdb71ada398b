-- `telling` meets its contract, variant by variant.
-- Assumes nothing.
use native.Mathlib.Omega.{arith}
use Rattle.storing.specs.Gathers.{told}
use Rattle.walk.specs.Step.{pivot_at}
use Rattle.storing.proofs.gathers.telling.Goals as goal

pub overflow_cast-result : goal.overflow_cast-result
overflow_cast-result c = omega (arith, c.requires.narrow)

pub returns-in-Row : goal.returns-in-Row
unfolding told pivot_at
returns-in-Row c = rw c.in-Row.is

pub returns-in-Multiple : goal.returns-in-Multiple
unfolding told pivot_at
returns-in-Multiple c = rw c.in-Multiple.is

pub returns-in-Column : goal.returns-in-Column
unfolding told pivot_at
returns-in-Column c = rw c.in-Column.is
