-- `misses_row` meets its contract. The loop's invariant: each row before `row` is named exactly once.
-- Assumes nothing.
use mathlib.Core.Bool.{not}
use lib.Dec.{eqb}
use Rattle.lists.specs.Find.{count}
use Rattle.sparse.specs.Pivots.{named}
use Rattle.lists.proofs.Scans.{Clear}
use Rattle.pivots.proofs.inside.misses_row.Given as goal

abbrev pub invariant-loop-row : goal.invariant-loop-row
invariant-loop-row l = Clear l.nrows (λ i. not (eqb (count (eqb i) (named l.pivots)) 1)) l.row
