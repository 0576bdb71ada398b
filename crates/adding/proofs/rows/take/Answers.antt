-- `take` meets its contract: the front of dense memory is cleared and lent to the step.
-- Assumes nothing.
use mathlib.Core.Path.{sym}
use lib.Seq.{length-take-le}
use Rattle.adding.proofs.Takes.{take-ready, take-returns}
use Rattle.adding.proofs.rows.take.Goals as goal

pub slice_bounds-front-end-2 : goal.slice_bounds-front-end-2
slice_bounds-front-end-2 c = sym (length-take-le _ _ c.requires.long)

pub step_row-requires : goal.step_row-requires
step_row-requires c = take-ready _ _ _ _ c.requires c.wipe.ensures

pub returns : goal.returns
returns c = take-returns _ _ _ _ c.requires c.wipe.ensures _ c.step_row.ensures
