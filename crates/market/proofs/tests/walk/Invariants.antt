-- `tests::walk` meets its contract. The loop's invariant: a pass over the lines that are left, from the faults so far, comes to the whole pass.
use mathlib.Core.Path.{◌≡◌}
use Prim.Native.Nat.{◌-◌}
use lib.ListN.{drop}
use Rattle.market.specs.Faults.{none, walk_on}
use Rattle.market.proofs.tests.walk.Given as goal

abbrev pub invariant-loop : goal.invariant-loop
invariant-loop l = walk_on l.size.row l.size.col l.faults (l.size.value - l.counter) (drop l.at l.text) ≡ walk_on l.size.row l.size.col none l.size.value (drop l.size.next l.text)
