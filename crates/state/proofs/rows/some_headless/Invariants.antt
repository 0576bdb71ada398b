-- `some_headless` meets its contract. The loop's invariant: no row before `row` lacks its head.
-- Assumes nothing.
use Rattle.lists.proofs.Scans.{Clear}
use Rattle.sparse.specs.Matrix.{matrix}
use Rattle.state.specs.State.{headless}
use Rattle.state.proofs.rows.some_headless.Given as goal

abbrev pub invariant-loop-row : goal.invariant-loop-row
invariant-loop-row l = Clear l.nrows (headless (matrix l.nrows l.ncols l.ptrs l.cols l.vals) l.pivots) l.row
