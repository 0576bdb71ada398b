-- `build` meets its contract. The loop's invariant: so many rows of the second U are there.
-- Assumes nothing.
use native.Mathlib.Omega.{arith}
use Rattle.sparse.specs.Matrix.{part, row}
use Rattle.backing.proofs.Filled.{filling_few, filling_all}
use Rattle.backing.proofs.Fillings.{filling_start, number_low, row_here, row_short, pointer_here, filling_clears, filling_more}
use Rattle.backing.proofs.Fits.{builds_orders, rank_few}
use Rattle.backing.proofs.rows.build.Goals as goal

pub order_down-requires : goal.order_down-requires
order_down-requires c = builds_orders c.requires

pub loop-done-init : goal.loop-done-init
loop-done-init c = record { from = λ old-pivots old-ptrs b o. filling_start b o }

pub bounds-back_ptrs-done : goal.bounds-back_ptrs-done
bounds-back_ptrs-done c = omega (arith, pointer_here c.requires (c.loop-done.invariant.from _ _ c.requires c.order_down.ensures) (c.loop-done-test.true))

pub offset_bounds-u_ptrs-row : goal.offset_bounds-u_ptrs-row
offset_bounds-u_ptrs-row c = omega (arith, number_low c.requires (c.loop-done.invariant.from _ _ c.requires c.order_down.ensures) (c.loop-done-test.true), rank_few c.requires)

pub bounds-u_ptrs-row : goal.bounds-u_ptrs-row
bounds-u_ptrs-row c = omega (arith, (row_here c.requires (c.loop-done.invariant.from _ _ c.requires c.order_down.ensures) (c.loop-done-test.true)).pointer)

pub overflow_add-stop : goal.overflow_add-stop
overflow_add-stop c = omega (arith, number_low c.requires (c.loop-done.invariant.from _ _ c.requires c.order_down.ensures) (c.loop-done-test.true), rank_few c.requires)

pub offset_bounds-u_ptrs-row-in-loop-done : goal.offset_bounds-u_ptrs-row-in-loop-done
offset_bounds-u_ptrs-row-in-loop-done c = omega (arith, number_low c.requires (c.loop-done.invariant.from _ _ c.requires c.order_down.ensures) (c.loop-done-test.true), rank_few c.requires)

pub bounds-u_ptrs-row-in-loop-done : goal.bounds-u_ptrs-row-in-loop-done
bounds-u_ptrs-row-in-loop-done c = (row_here c.requires (c.loop-done.invariant.from _ _ c.requires c.order_down.ensures) (c.loop-done-test.true)).pointer

pub offset_bounds-u_cols-start : goal.offset_bounds-u_cols-start
offset_bounds-u_cols-start c = omega (arith, row_short c.requires (c.loop-done.invariant.from _ _ c.requires c.order_down.ensures) (c.loop-done-test.true), (row_here c.requires (c.loop-done.invariant.from _ _ c.requires c.order_down.ensures) (c.loop-done-test.true)).filled)

pub slice_bounds-clear_row-count : goal.slice_bounds-clear_row-count
slice_bounds-clear_row-count c = omega (arith, row_short c.requires (c.loop-done.invariant.from _ _ c.requires c.order_down.ensures) (c.loop-done-test.true), (row_here c.requires (c.loop-done.invariant.from _ _ c.requires c.order_down.ensures) (c.loop-done-test.true)).filled)

pub slice_bounds-clear_row-start : goal.slice_bounds-clear_row-start
slice_bounds-clear_row-start c = omega (arith, row_short c.requires (c.loop-done.invariant.from _ _ c.requires c.order_down.ensures) (c.loop-done-test.true), (row_here c.requires (c.loop-done.invariant.from _ _ c.requires c.order_down.ensures) (c.loop-done-test.true)).filled)

pub slice_bounds-clear_row-end : goal.slice_bounds-clear_row-end
slice_bounds-clear_row-end c = (row_here c.requires (c.loop-done.invariant.from _ _ c.requires c.order_down.ensures) (c.loop-done-test.true)).columns

pub offset_bounds-u_vals-start : goal.offset_bounds-u_vals-start
offset_bounds-u_vals-start c = omega (arith, row_short c.requires (c.loop-done.invariant.from _ _ c.requires c.order_down.ensures) (c.loop-done-test.true), (row_here c.requires (c.loop-done.invariant.from _ _ c.requires c.order_down.ensures) (c.loop-done-test.true)).filled)

pub slice_bounds-clear_row-count-in-loop-done : goal.slice_bounds-clear_row-count-in-loop-done
slice_bounds-clear_row-count-in-loop-done c = omega (arith, row_short c.requires (c.loop-done.invariant.from _ _ c.requires c.order_down.ensures) (c.loop-done-test.true), (row_here c.requires (c.loop-done.invariant.from _ _ c.requires c.order_down.ensures) (c.loop-done-test.true)).filled)

pub slice_bounds-clear_row-start-in-loop-done : goal.slice_bounds-clear_row-start-in-loop-done
slice_bounds-clear_row-start-in-loop-done c = omega (arith, row_short c.requires (c.loop-done.invariant.from _ _ c.requires c.order_down.ensures) (c.loop-done-test.true), (row_here c.requires (c.loop-done.invariant.from _ _ c.requires c.order_down.ensures) (c.loop-done-test.true)).filled)

pub slice_bounds-clear_row-end-in-loop-done : goal.slice_bounds-clear_row-end-in-loop-done
slice_bounds-clear_row-end-in-loop-done c = (row_here c.requires (c.loop-done.invariant.from _ _ c.requires c.order_down.ensures) (c.loop-done-test.true)).numbers

pub clear_row-fill-requires : goal.clear_row-fill-requires
unfolding row part
clear_row-fill-requires c = filling_clears c.requires (c.loop-done.invariant.from _ _ c.requires c.order_down.ensures) (c.loop-done-test.true)

pub overflow_add-fill : goal.overflow_add-fill
unfolding row part
overflow_add-fill c = omega (arith, filling_few c.requires (filling_more c.requires (c.loop-done.invariant.from _ _ c.requires c.order_down.ensures) (c.loop-done-test.true) c.clear_row-fill.ensures))

pub loop-done-preserved : goal.loop-done-preserved
unfolding row part
loop-done-preserved c = record { from = λ old-pivots old-ptrs b o. filling_more b (c.loop-done.invariant.from old-pivots old-ptrs b o) (c.loop-done-test.true) c.clear_row-fill.ensures }

pub returns : goal.returns
returns c = filling_all c.requires (c.loop-done.invariant.from _ _ c.requires c.order_down.ensures) (c.loop-done-test.false)
