-- `row_end` meets its contract. The loop's invariant: each row before `stop` is at most `row`.
-- Assumes nothing.
use Prim.Native.Nat.{ℕ, ◌+◌, ◌<◌}
use lib.ListN.{get_or}
use Rattle.triplets.proofs.inside.row_end.Given as goal

abbrev pub invariant-loop-stop : goal.invariant-loop-stop
invariant-loop-stop l = (k : ℕ) → k < l.stop → get_or l.rows k 0 < l.row + 1
