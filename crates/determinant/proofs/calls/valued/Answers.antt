-- `valued` meets its contract: a value by what the reduction came to.
-- Assumes nothing.
use Rattle.determinant.specs.Det.{valued}
use Rattle.determinant.proofs.calls.valued.Goals as goal

pub value_of-requires : goal.value_of-requires
value_of-requires c = c.requires.taken _ c.in-Taken.is

pub returns-in-Taken : goal.returns-in-Taken
unfolding valued
returns-in-Taken c = rw (c.in-Taken.is, c.value_of.ensures)

pub returns-in-Dependent : goal.returns-in-Dependent
unfolding valued
returns-in-Dependent c = rw c.in-Dependent.is

pub returns-in-Stopped : goal.returns-in-Stopped
unfolding valued
returns-in-Stopped c = rw c.in-Stopped.is

pub returns-in-Refused : goal.returns-in-Refused
unfolding valued
returns-in-Refused c = rw c.in-Refused.is
