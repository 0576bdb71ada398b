-- `inverted`'s loop: the greater numbers so far are counted.
-- Assumes nothing.
use lib.Dec.{ltb}
use lib.ListN.{take}
use Rattle.lists.proofs.Scans.{Counted}
use Rattle.signs.proofs.inversions.inverted.Given as goal

abbrev pub invariant-loop-before : goal.invariant-loop-before
invariant-loop-before l = Counted (ltb l.here) (take l.place l.table) l.many l.before-index
