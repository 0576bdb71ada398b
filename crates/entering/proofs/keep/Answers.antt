-- `keep` meets its contract: the counts of the step, or those that came.
-- Assumes nothing.
use Rattle.sparse.proofs.Firsts.{handed}
use Rattle.entering.specs.Enter.{entered_of}
use Rattle.entering.proofs.keep.Goals as goal

pub returns-in_err-stepped : goal.returns-in_err-stepped
unfolding entered_of
returns-in_err-stepped c = rw (handed c.from_residual.ensures.1, c.in_err-stepped.was)

pub returns : goal.returns
unfolding entered_of
returns c = rw c.in_ok-stepped.was
