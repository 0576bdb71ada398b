-- `counts_after` meets its contract.
-- Assumes nothing.
use Rattle.solving.specs.Solve.{counts_after}
use Rattle.solving.proofs.solve.counts_after.Goals as goal

pub returns-in-Taken : goal.returns-in-Taken
unfolding counts_after
returns-in-Taken c = rw c.in-Taken.is

pub returns-in-Dependent : goal.returns-in-Dependent
unfolding counts_after
returns-in-Dependent c = rw c.in-Dependent.is

pub returns-in-Stopped : goal.returns-in-Stopped
unfolding counts_after
returns-in-Stopped c = rw c.in-Stopped.is

pub returns-in-Refused : goal.returns-in-Refused
unfolding counts_after
returns-in-Refused c = rw c.in-Refused.is
