-- `read_full` is safe and ends: what was read lies within the memory, whose length stays.
-- Assumes nothing.
use Prim.Native.Nat.{◌-◌, ◌≤◌}
use lib.ListN.{length}
use mathlib.Core.Path.{◌≡◌}
use Rattle.rank.proofs.read_full.Given as goal

abbrev pub invariant-loop-done : goal.invariant-loop-done
invariant-loop-done g l = (l.done ≤ 32769) × (length l.text ≡ 32769)

abbrev pub decreases-loop-done : goal.decreases-loop-done
decreases-loop-done g l = 32769 - l.done
