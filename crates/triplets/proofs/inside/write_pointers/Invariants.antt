-- `write_pointers` meets its contract. The loop's invariant: the pointers up to `row` are written, and `start` is the last of them.
-- Assumes nothing.
use mathlib.Core.Path.{◌≡◌}
use Prim.Native.Nat.{◌+◌}
use Rattle.lists.specs.Onto.{◌onto◌}
use Rattle.lists.specs.Table.{table}
use Rattle.triplets.specs.Triplets.{start_of}
use Rattle.triplets.proofs.inside.write_pointers.Given as goal

abbrev pub invariant-loop-row : goal.invariant-loop-row
invariant-loop-row l = (l.start ≡ start_of l.rows l.row) × (l.row_ptrs ≡ table (l.row + 1) (start_of l.rows) onto l.initial.row_ptrs)
