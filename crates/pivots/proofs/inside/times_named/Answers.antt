-- `times_named` meets its contract: each turn counts one row or passes over it.
-- Assumes nothing.
use native.Mathlib.Omega.{arith}
use borrow.Author.Tests.{eq-eqb, ne_eqb}
use Rattle.lists.proofs.Scans.{counted_none, counted_hit, counted_miss, counted_few, counted_all}
use Rattle.pivots.proofs.inside.times_named.Goals as goal
use Rattle.pivots.proofs.inside.times_named.Goals.{then-row-named, else-row-named}

pub loop-named-init : goal.loop-named-init
loop-named-init c = counted_none _ _

pub overflow_add-times : goal.overflow_add-times
overflow_add-times c = omega (arith, counted_few _ _ _ _ c.loop-named.invariant)

pub loop-named-preserved : goal.loop-named-preserved
loop-named-preserved c =
    elim c.if-row-named.branch [
      | then-row-named w ↦ rw w.times-is (counted_hit _ _ _ _ 0 c.loop-named.invariant c.loop-named-test.true (eq-eqb _ _ w.if-row-named.true))
      | else-row-named w ↦ rw w.times-is (counted_miss _ _ _ _ 0 c.loop-named.invariant c.loop-named-test.true (ne_eqb _ _ w.if-row-named.false))
    ]

pub returns : goal.returns
returns c = counted_all _ _ _ _ c.loop-named.invariant c.loop-named-test.false
