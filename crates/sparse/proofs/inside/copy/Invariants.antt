-- `copy`'s loop: the first i elements are copied.
-- Assumes nothing.
use mathlib.Core.Path.{◌≡◌}
use lib.ListN.{take}
use Rattle.lists.specs.Onto.{◌onto◌}
use Rattle.sparse.proofs.inside.copy.Given as goal

abbrev pub invariant-loop-i : goal.invariant-loop-i
invariant-loop-i l = l.dst ≡ take l.i l.src onto l.initial.dst
