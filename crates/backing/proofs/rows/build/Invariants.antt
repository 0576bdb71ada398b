-- `build` meets its contract. The loop's invariant: so many rows of the second U are there.
-- Assumes nothing.
use Rattle.backing.proofs.Filled.{Along}
use Rattle.backing.proofs.rows.build.Given as goal

abbrev pub invariant-loop-done : goal.invariant-loop-done
invariant-loop-done l = Along l.counts l.u_cols l.u_vals l.u_ptrs l.initial.back_ptrs l.initial.back_cols l.initial.back_vals l.initial.pivots l.initial.dense l.done l.fill l.back_ptrs l.back_cols l.back_vals l.pivots l.dense
