-- `pivots_test` meets its contract: each `return` goes by the parts of the clause before it.
-- Assumes nothing.
use Rattle.sparse.specs.Pivots.{pivots_test}
use Rattle.sparse.specs.Refusals.{refuse}
use Rattle.pivots.proofs.inside.pivots_test.Goals as goal

pub returns-then-names_other : goal.returns-then-names_other
unfolding pivots_test refuse
returns-then-names_other c = rw (← c.names_other.ensures, c.if-names_other.true)

pub returns-then-misses_row : goal.returns-then-misses_row
unfolding pivots_test refuse
returns-then-misses_row c = rw (← c.names_other.ensures, c.if-names_other.false, ← c.misses_row.ensures, c.if-misses_row.true)

pub returns : goal.returns
unfolding pivots_test refuse
returns c = rw (← c.names_other.ensures, c.if-names_other.false, ← c.misses_row.ensures, c.if-misses_row.false)
