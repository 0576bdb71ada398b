-- `lower_of` meets its contract, by which of the two refuse.
-- Assumes nothing.
use Rattle.below.specs.Below.{lower}
use Rattle.below.proofs.Passed.{lower_first, lower_second}
use Rattle.below.proofs.matrices.lower_of.Goals as goal

pub returns-in_default : goal.returns-in_default
unfolding lower
returns-in_default c = rw c.in_default.is

pub returns-in_default-second : goal.returns-in_default-second
unfolding lower
returns-in_default-second c = rw (c.in-Err.is, c.in_default-second.is)

pub returns-then-from : goal.returns-then-from
returns-then-from c = lower_first c.in-Err.is c.in-Err-second.is c.from.ensures c.from-2.ensures c.if-from.true

pub returns : goal.returns
returns c = lower_second c.in-Err.is c.in-Err-second.is c.from.ensures c.from-2.ensures c.if-from.false
