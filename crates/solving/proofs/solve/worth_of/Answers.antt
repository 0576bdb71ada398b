-- `worth_of` meets its contract.
-- Assumes nothing.
use Rattle.solving.specs.Solve.{worth_of}
use Rattle.solving.proofs.solve.worth_of.Goals as goal

pub returns-in-Value : goal.returns-in-Value
unfolding worth_of
returns-in-Value c = rw c.in-Value.is

pub returns-in-Stopped : goal.returns-in-Stopped
unfolding worth_of
returns-in-Stopped c = rw c.in-Stopped.is

pub returns-in-Refused : goal.returns-in-Refused
unfolding worth_of
returns-in-Refused c = rw c.in-Refused.is
