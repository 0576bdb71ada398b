-- `add_multiple` meets its contract. The loop's invariant: the entries before are added.
-- Assumes nothing.
use mathlib.Core.Path.{◌≡◌}
use Prim.Native.Nat.{◌+◌, ◌*◌, ◌%◌}
use lib.ListN.{length, get_or}
use Rattle.lists.specs.Table.{table}
use Rattle.walk.proofs.DenseLaws.{partly}
use Rattle.walk.proofs.kernels.add_multiple.Given as goal

abbrev pub invariant-loop-col : goal.invariant-loop-col
invariant-loop-col l = l.dense ≡ table (length l.initial.dense) (λ j. (get_or l.initial.dense j 0 + l.f * partly (length l.yielded) l.cols l.vals j) % l.p)
