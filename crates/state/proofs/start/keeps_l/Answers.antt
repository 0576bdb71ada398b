-- `keeps_l` meets its contract, variant by variant.
-- Assumes nothing.
use Rattle.state.specs.Fresh.{keeps}
use Rattle.state.proofs.start.keeps_l.Goals as goal

pub returns-in-Full : goal.returns-in-Full
unfolding keeps
returns-in-Full c = rw c.in-Full.is

pub returns-in-Pattern : goal.returns-in-Pattern
unfolding keeps
returns-in-Pattern c = rw c.in-Pattern.is

pub returns-in-None : goal.returns-in-None
unfolding keeps
returns-in-None c = rw c.in-None.is
