-- `order_down` meets its contract. The loop's invariant: which columns are still to be read, and what is written.
-- Assumes nothing.
use Rattle.backing.proofs.Orderings.{Ordering}
use Rattle.backing.proofs.rows.order_down.Given as goal

abbrev pub invariant-loop-col : goal.invariant-loop-col
invariant-loop-col l = Ordering l.ncols l.initial.pivots l.initial.back_ptrs l.found l.col l.back_ptrs l.pivots
