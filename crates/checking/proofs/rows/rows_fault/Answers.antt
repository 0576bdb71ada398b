-- `rows_fault` meets its contract. The loop's invariant: the first i rows aren't wrong, so many were accepted, and so many L rows are used.
use mathlib.Core.Path.{ap}
use native.Mathlib.Omega.{arith}
use lib.ListN.{length}
use Rattle.sparse.specs.Matrix.{part, row}
use Rattle.telling.specs.Answers.{none}
use Rattle.checking.proofs.Turns.{turn_none, turn_place, turn_row, turn_wrong, turn_more, turn_u_left, turn_l_left, stays, one_most}
use Rattle.checking.proofs.rows.rows_fault.Goals as goal

pub loop-i-init : goal.loop-i-init
loop-i-init c = turn_none c.requires

pub bounds-row_ptrs-i : goal.bounds-row_ptrs-i
bounds-row_ptrs-i c = omega (arith, turn_place c.requires c.loop-i.invariant c.loop-i-test.true)

pub bounds-row_ptrs-i-in-loop-i : goal.bounds-row_ptrs-i-in-loop-i
bounds-row_ptrs-i-in-loop-i c = omega (arith, turn_place c.requires c.loop-i.invariant c.loop-i-test.true)

pub offset_bounds-col_idcs-start : goal.offset_bounds-col_idcs-start
offset_bounds-col_idcs-start c = omega (arith, turn_place c.requires c.loop-i.invariant c.loop-i-test.true)

pub slice_bounds-cols-count : goal.slice_bounds-cols-count
slice_bounds-cols-count c = omega (arith, turn_place c.requires c.loop-i.invariant c.loop-i-test.true)

pub slice_bounds-cols-start : goal.slice_bounds-cols-start
slice_bounds-cols-start c = omega (arith, turn_place c.requires c.loop-i.invariant c.loop-i-test.true)

pub slice_bounds-cols-end : goal.slice_bounds-cols-end
slice_bounds-cols-end c = omega (arith, turn_place c.requires c.loop-i.invariant c.loop-i-test.true)

pub offset_bounds-values-start : goal.offset_bounds-values-start
offset_bounds-values-start c = omega (arith, turn_place c.requires c.loop-i.invariant c.loop-i-test.true)

pub slice_bounds-vals-count : goal.slice_bounds-vals-count
slice_bounds-vals-count c = omega (arith, turn_place c.requires c.loop-i.invariant c.loop-i-test.true)

pub slice_bounds-vals-start : goal.slice_bounds-vals-start
slice_bounds-vals-start c = omega (arith, turn_place c.requires c.loop-i.invariant c.loop-i-test.true)

pub slice_bounds-vals-end : goal.slice_bounds-vals-end
slice_bounds-vals-end c = omega (arith, turn_place c.requires c.loop-i.invariant c.loop-i-test.true)

pub row_fault-requires : goal.row_fault-requires
unfolding row part
row_fault-requires c = turn_row c.requires c.loop-i.invariant c.loop-i-test.true

pub shape_of-dense-then-row_fault : goal.shape_of-dense-then-row_fault
unfolding row part
shape_of-dense-then-row_fault c = ap length (stays c.requires c.loop-i.invariant c.loop-i-test.true c.row_fault.ensures)

pub returns-then-row_fault : goal.returns-then-row_fault
unfolding row part
returns-then-row_fault c = turn_wrong c.requires c.loop-i.invariant c.loop-i-test.true c.row_fault.ensures c.if-row_fault.true

pub overflow_sub-stop : goal.overflow_sub-stop
overflow_sub-stop c = omega (arith, turn_place c.requires c.loop-i.invariant c.loop-i-test.true)

pub overflow_add-used : goal.overflow_add-used
overflow_add-used c = omega (arith, c.loop-i.invariant.low, turn_place c.requires c.loop-i.invariant c.loop-i-test.true, one_most _ c.one_if-used.ensures)

pub overflow_add-accepted : goal.overflow_add-accepted
overflow_add-accepted c = omega (arith, c.loop-i.invariant.most, turn_place c.requires c.loop-i.invariant c.loop-i-test.true, one_most _ c.one_if-accepted.ensures)

pub loop-i-preserved : goal.loop-i-preserved
unfolding row part none
loop-i-preserved c = turn_more c.requires c.loop-i.invariant c.loop-i-test.true c.row_fault.ensures c.if-row_fault.false c.is_at_once.ensures c.one_if-used.ensures c.one_if-accepted.ensures

pub shape_of-dense-then-accepted-rank : goal.shape_of-dense-then-accepted-rank
shape_of-dense-then-accepted-rank c = ap length c.loop-i.invariant.same

pub returns-then-accepted-rank : goal.returns-then-accepted-rank
returns-then-accepted-rank c = turn_u_left c.requires c.loop-i.invariant c.loop-i-test.false c.if-accepted-rank.true

pub shape_of-dense : goal.shape_of-dense
shape_of-dense c = ap length c.loop-i.invariant.same

pub returns : goal.returns
returns c = turn_l_left c.requires c.loop-i.invariant c.loop-i-test.false c.if-accepted-rank.false
