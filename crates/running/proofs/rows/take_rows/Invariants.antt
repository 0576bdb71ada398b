-- `take_rows` meets its contract. The loop's invariant: as many rows are taken as turns were made, and what is left of the fold, from a state.
-- Assumes nothing.
use mathlib.Core.Path.{◌≡◌}
use Rattle.sparse.specs.Matrix.{seen}
use Rattle.state.specs.Memory.{memory}
use Rattle.running.specs.Rows.{night}
use Rattle.running.proofs.Folds.{Going}
use Rattle.running.proofs.rows.take_rows.Given as goal

abbrev pub invariant-loop : goal.invariant-loop
invariant-loop l = (l.run.taken ≡ l.counter) × Going l.on l.check (seen l.matrix) l.initial.run.counts (night (memory l.initial.u_cols l.initial.u_vals l.initial.u_ptrs l.initial.l_cols l.initial.l_vals l.initial.l_ptrs l.initial.pivots) l.initial.answers l.initial.dense) l.run (night (memory l.u_cols l.u_vals l.u_ptrs l.l_cols l.l_vals l.l_ptrs l.pivots) l.answers l.dense)
