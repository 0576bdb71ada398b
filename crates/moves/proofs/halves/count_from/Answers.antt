-- `count_from` meets its contract: each turn counts one column or passes over it.
-- Assumes nothing.
use native.Mathlib.Omega.{arith}
use borrow.Author.Tests.{le-leb, lt-leb}
use Rattle.lists.proofs.Scans.{counted_none, counted_hit, counted_miss, counted_few, counted_all}
use Rattle.moves.proofs.halves.count_from.Goals as goal
use Rattle.moves.proofs.halves.count_from.Goals.{then-h-col, else-h-col}

pub loop-col-init : goal.loop-col-init
loop-col-init c = counted_none _ _

pub overflow_add-found : goal.overflow_add-found
overflow_add-found c = omega (arith, counted_few _ _ _ _ c.loop-col.invariant)

pub loop-col-preserved : goal.loop-col-preserved
loop-col-preserved c =
    elim c.if-h-col.branch [
      | then-h-col w ↦ rw w.found-is (counted_hit _ _ _ _ 0 c.loop-col.invariant c.loop-col-test.true (le-leb _ _ w.if-h-col.true))
      | else-h-col w ↦ rw w.found-is (counted_miss _ _ _ _ 0 c.loop-col.invariant c.loop-col-test.true (lt-leb _ _ w.if-h-col.false))
    ]

pub returns : goal.returns
returns c = counted_all _ _ _ _ c.loop-col.invariant c.loop-col-test.false
