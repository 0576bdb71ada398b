-- `count_from`'s loop: the columns so far are counted.
-- Assumes nothing.
use lib.Dec.{leb}
use Rattle.lists.proofs.Scans.{Counted}
use Rattle.moves.proofs.halves.count_from.Given as goal

abbrev pub invariant-loop-col : goal.invariant-loop-col
invariant-loop-col l = Counted (leb l.h) l.cols l.found l.col-index
