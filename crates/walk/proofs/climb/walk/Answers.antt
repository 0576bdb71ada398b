-- `walk` meets its contract. The loop's invariant: below `col` all is done, and something stands there.
-- Assumes nothing.
use Prim.Native.Nat.{◌+◌, ◌≤◌}
use native.Mathlib.Omega.{arith}
use Rattle.sparse.specs.Pivots.{mark}
use Rattle.walk.specs.Step.{upper, pivot_at}
use Rattle.walk.proofs.Walking.{up_bound, front_start, front_next, front_pivot, up_start, up_stop, up_free, up_clears, up_pivot, up_end, next_above, minus_long}
use Rattle.walk.proofs.climb.walk.Goals as goal

pub next-col-requires : goal.next-col-requires
next-col-requires c = c.requires.within

pub loop-col-init : goal.loop-col-init
loop-col-init c = (up_start _ _ _ _ _ _ _ _ c.requires c.next-col.ensures, front_start c.requires c.next-col.ensures)

pub offset_bounds-pivots-col : goal.offset_bounds-pivots-col
offset_bounds-pivots-col c = omega (arith, c.requires.pivots.table, c.loop-col.invariant.0.left.long)

pub bounds-pivots-col : goal.bounds-pivots-col
bounds-pivots-col c = omega (arith, c.requires.pivots.table, c.loop-col.invariant.0.left.long)

pub shape_of-dense-then-not-on : goal.shape_of-dense-then-not-on
shape_of-dense-then-not-on c = c.loop-col.invariant.0.left.long

pub returns-then-not-on : goal.returns-then-not-on
unfolding pivot_at upper mark
returns-then-not-on c = record { left = up_stop _ _ _ _ _ c.loop-col.invariant.0 (omega (arith, c.loop-col-test.true, c.loop-col.invariant.0.left.long)) c.if-not-on.true c.if-row.true; bound = omega (arith, c.loop-col-test.true, c.loop-col.invariant.0.left.long); before = c.loop-col.invariant.1.zeros }

pub overflow_add-col : goal.overflow_add-col
overflow_add-col c = omega (arith, c.loop-col-test.true)

pub next-col-requires-then-row : goal.next-col-requires-then-row
next-col-requires-then-row c = omega (arith, c.loop-col-test.true)

pub loop-col-smaller-then-row : goal.loop-col-smaller-then-row
loop-col-smaller-then-row c = let above : c.loop-col.col + 1 ≤ c.next-col-then-row.result = next_above _ c.next-col-then-row.ensures in omega (arith, c.loop-col-test.true, c.loop-col.invariant.0.left.long)

pub loop-col-preserved-then-row : goal.loop-col-preserved-then-row
unfolding pivot_at upper mark
loop-col-preserved-then-row c = (up_free _ _ _ _ _ c.loop-col.invariant.0 (omega (arith, c.loop-col-test.true, c.loop-col.invariant.0.left.long)) c.if-not-on.false c.if-row.true c.min-head.ensures c.next-col-then-row.ensures, front_next c.loop-col.invariant.1 c.next-col-then-row.ensures)

pub overflow_cast-row : goal.overflow_cast-row
overflow_cast-row c = omega (arith, c.type_inv.pivots c.loop-col.col)

pub subtract_row-requires : goal.subtract_row-requires
unfolding mark
subtract_row-requires c = up_clears _ _ _ _ _ _ _ _ c.requires c.loop-col.invariant.0 (omega (arith, c.loop-col-test.true, c.loop-col.invariant.0.left.long)) c.if-row.false

pub overflow_add-col-in-loop-col : goal.overflow_add-col-in-loop-col
overflow_add-col-in-loop-col c = omega (arith, c.loop-col-test.true)

pub next-col-requires-in-loop-col : goal.next-col-requires-in-loop-col
next-col-requires-in-loop-col c = omega (arith, c.loop-col-test.true, minus_long _ _ _ _ _ _ _ c.subtract_row.ensures)

pub loop-col-smaller : goal.loop-col-smaller
loop-col-smaller c = let above : c.loop-col.col + 1 ≤ c.next-col-in-loop-col.result = next_above _ c.next-col-in-loop-col.ensures in omega (arith, c.loop-col-test.true, c.loop-col.invariant.0.left.long)

pub loop-col-preserved : goal.loop-col-preserved
unfolding mark
loop-col-preserved c = (up_pivot _ _ _ _ _ _ _ _ c.requires c.loop-col.invariant.0 (omega (arith, c.loop-col-test.true, c.loop-col.invariant.0.left.long)) c.if-row.false c.subtract_row.ensures c.next-col-in-loop-col.ensures, front_pivot c.loop-col.invariant.1 (up_clears _ _ _ _ _ _ _ _ c.requires c.loop-col.invariant.0 (omega (arith, c.loop-col-test.true, c.loop-col.invariant.0.left.long)) c.if-row.false) c.subtract_row.ensures c.next-col-in-loop-col.ensures)

pub shape_of-dense : goal.shape_of-dense
shape_of-dense c = c.loop-col.invariant.0.left.long

pub returns : goal.returns
returns c = record { left = up_end _ _ _ _ _ c.loop-col.invariant.0 (omega (arith, c.loop-col-test.false, c.loop-col.invariant.0.left.long)); bound = up_bound _ _ _ _ _ c.loop-col.invariant.0; before = c.loop-col.invariant.1.zeros }
