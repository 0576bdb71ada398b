-- `take_all` meets its contract: the front of dense memory is cleared and lent.
-- Assumes nothing.
use mathlib.Core.Path.{sym}
use lib.Seq.{length-take-le}
use Rattle.batches.proofs.Batches.{begins_long, begins_goes, begins_returns}
use Rattle.batches.proofs.rows.take_all.Goals as goal

pub slice_bounds-front-end-2 : goal.slice_bounds-front-end-2
slice_bounds-front-end-2 c = sym (length-take-le _ _ (begins_long c.requires))

pub take_rows-requires : goal.take_rows-requires
take_rows-requires c = begins_goes c.requires c.wipe.ensures

pub returns : goal.returns
returns c = begins_returns c.requires c.wipe.ensures _ _ c.take_rows.ensures
