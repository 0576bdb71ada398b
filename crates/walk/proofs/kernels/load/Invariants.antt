-- `load` meets its contract. The loop's invariant: the entries before are in.
-- Assumes nothing.
use mathlib.Core.Path.{◌≡◌}
use lib.ListN.{length}
use Rattle.lists.specs.Table.{table}
use Rattle.walk.proofs.DenseLaws.{partly}
use Rattle.walk.proofs.kernels.load.Given as goal

abbrev pub invariant-loop-col : goal.invariant-loop-col
invariant-loop-col l = l.dense ≡ table (length l.initial.dense) (partly (length l.yielded) l.cols l.vals)
