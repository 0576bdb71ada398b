-- `times_named`'s loop: the rows so far are counted.
-- Assumes nothing.
use lib.Dec.{eqb}
use Rattle.lists.proofs.Scans.{Counted}
use Rattle.pivots.proofs.inside.times_named.Given as goal

abbrev pub invariant-loop-named : goal.invariant-loop-named
invariant-loop-named l = Counted (eqb l.row) l.pivots l.times l.named-index
