-- `move_columns` meets its contract. The loop's invariant: the columns before are moved, the rest are as they came.
-- Assumes nothing.
use Rattle.columns.proofs.Moving.{Moving}
use Rattle.columns.proofs.positions.move_columns.Given as goal

abbrev pub invariant-loop-col : goal.invariant-loop-col
invariant-loop-col l = Moving l.positions l.initial.cols l.cols l.col-index
