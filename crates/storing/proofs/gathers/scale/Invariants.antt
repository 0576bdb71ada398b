-- `scale` meets its contract. The loop's invariant: the first k entries are written.
-- Assumes nothing.
use mathlib.Core.Path.{◌≡◌}
use lib.ListN.{take}
use Rattle.lists.specs.Onto.{◌onto◌}
use Rattle.storing.specs.Gathers.{scaled}
use Rattle.storing.proofs.gathers.scale.Given as goal

abbrev pub invariant-loop-k : goal.invariant-loop-k
invariant-loop-k l = l.out ≡ take l.k (scaled l.p l.f l.dense l.cols) onto l.initial.out
