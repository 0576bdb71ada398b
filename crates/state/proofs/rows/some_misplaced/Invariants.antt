-- `some_misplaced` meets its contract. The loop's invariant: no column before `col` is misplaced.
-- Assumes nothing.
use Rattle.lists.proofs.Scans.{Clear}
use Rattle.sparse.specs.Matrix.{matrix}
use Rattle.state.specs.State.{misplaced}
use Rattle.state.proofs.rows.some_misplaced.Given as goal

abbrev pub invariant-loop-col : goal.invariant-loop-col
invariant-loop-col l = Clear l.ncols (misplaced (matrix l.nrows l.ncols l.ptrs l.cols l.vals) l.pivots) l.col
