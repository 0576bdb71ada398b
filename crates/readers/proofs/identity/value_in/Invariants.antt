-- `value_in`'s loop: none of the columns so far is the one asked for.
use mathlib.Core.Path.{◌≡◌}
use Prim.Native.Nat.{ℕ, ◌<◌}
use lib.ListN.{length, get_or}
use Rattle.readers.proofs.identity.value_in.Given as goal

abbrev pub invariant-loop-here : goal.invariant-loop-here
invariant-loop-here l = (j : ℕ) → j < length l.yielded → get_or l.cols j 0 ≡ l.col → ⊥
