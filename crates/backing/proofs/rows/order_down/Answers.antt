-- `order_down` meets its contract. The loop's invariant: which columns are still to be read, and what is written.
-- Assumes nothing.
use native.Mathlib.Omega.{arith}
use Rattle.sparse.specs.Pivots.{mark}
use Rattle.backing.proofs.Orderings.{ordering_none, ordering_free, ordering_few, ordering_place, ordering_pivot, ordering_all}
use Rattle.backing.proofs.rows.order_down.Goals as goal

pub loop-col-init : goal.loop-col-init
loop-col-init c = ordering_none c.requires

pub overflow_add-found : goal.overflow_add-found
unfolding mark
overflow_add-found c = omega (arith, ordering_few c.requires c.loop-col.invariant c.loop-col-test.true c.if-row.true)

pub offset_bounds-back_ptrs-found : goal.offset_bounds-back_ptrs-found
unfolding mark
offset_bounds-back_ptrs-found c = omega (arith, ordering_few c.requires c.loop-col.invariant c.loop-col-test.true c.if-row.true)

pub bounds-back_ptrs-found : goal.bounds-back_ptrs-found
unfolding mark
bounds-back_ptrs-found c = ordering_place c.requires c.loop-col.invariant c.loop-col-test.true c.if-row.true

pub loop-col-preserved-then-row : goal.loop-col-preserved-then-row
unfolding mark
loop-col-preserved-then-row c = ordering_pivot c.requires c.loop-col.invariant c.loop-col-test.true c.if-row.true

pub loop-col-preserved : goal.loop-col-preserved
unfolding mark
loop-col-preserved c = ordering_free c.requires c.loop-col.invariant c.loop-col-test.true c.if-row.false

pub returns : goal.returns
returns c = ordering_all c.requires c.loop-col.invariant (omega (arith, c.loop-col-test.false))
