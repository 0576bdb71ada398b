-- `some_row_off` meets its contract. The loop's invariant: no row before `row` differs from the identity's.
use mathlib.Core.Path.{sym, ◌∙◌}
use native.Mathlib.Omega.{arith}
use Rattle.sparse.specs.Matrix.{part, row, value_at}
use Rattle.sparse.proofs.Cuts.{row_in}
use Rattle.lists.proofs.Scans.{clear_none, clear_next, clear_stop, clear_all}
use Rattle.readers.proofs.Identities.{square_laid, square_row}
use Rattle.readers.proofs.identity.some_row_off.Goals as goal

pub loop-row-init : goal.loop-row-init
loop-row-init c = clear_none _ _

pub bounds-row_ptrs-row : goal.bounds-row_ptrs-row
bounds-row_ptrs-row c = omega (arith, (square_laid _ c.requires).shape.many)

pub bounds-row_ptrs-row-in-loop-row : goal.bounds-row_ptrs-row-in-loop-row
bounds-row_ptrs-row-in-loop-row c = omega (arith, (square_laid _ c.requires).shape.many)

pub offset_bounds-col_idcs-start : goal.offset_bounds-col_idcs-start
offset_bounds-col_idcs-start c = omega (arith, row_in (square_laid _ c.requires).rows c.loop-row-test.true, (square_laid _ c.requires).shape.many, (square_laid _ c.requires).shape.col_each)

pub slice_bounds-row_off-count : goal.slice_bounds-row_off-count
slice_bounds-row_off-count c = omega (arith, row_in (square_laid _ c.requires).rows c.loop-row-test.true, (square_laid _ c.requires).shape.many, (square_laid _ c.requires).shape.col_each)

pub slice_bounds-row_off-start : goal.slice_bounds-row_off-start
slice_bounds-row_off-start c = omega (arith, row_in (square_laid _ c.requires).rows c.loop-row-test.true, (square_laid _ c.requires).shape.many, (square_laid _ c.requires).shape.col_each)

pub slice_bounds-row_off-end : goal.slice_bounds-row_off-end
slice_bounds-row_off-end c = omega (arith, row_in (square_laid _ c.requires).rows c.loop-row-test.true, (square_laid _ c.requires).shape.many, (square_laid _ c.requires).shape.col_each)

pub offset_bounds-values-start : goal.offset_bounds-values-start
offset_bounds-values-start c = omega (arith, row_in (square_laid _ c.requires).rows c.loop-row-test.true, (square_laid _ c.requires).shape.many, (square_laid _ c.requires).shape.col_each)

pub slice_bounds-row_off-count-in-loop-row : goal.slice_bounds-row_off-count-in-loop-row
slice_bounds-row_off-count-in-loop-row c = omega (arith, row_in (square_laid _ c.requires).rows c.loop-row-test.true, (square_laid _ c.requires).shape.many, (square_laid _ c.requires).shape.col_each)

pub slice_bounds-row_off-start-in-loop-row : goal.slice_bounds-row_off-start-in-loop-row
slice_bounds-row_off-start-in-loop-row c = omega (arith, row_in (square_laid _ c.requires).rows c.loop-row-test.true, (square_laid _ c.requires).shape.many, (square_laid _ c.requires).shape.col_each)

pub slice_bounds-row_off-end-in-loop-row : goal.slice_bounds-row_off-end-in-loop-row
slice_bounds-row_off-end-in-loop-row c = omega (arith, row_in (square_laid _ c.requires).rows c.loop-row-test.true, (square_laid _ c.requires).shape.many, (square_laid _ c.requires).shape.col_each)

pub row_off-requires : goal.row_off-requires
unfolding row part
row_off-requires c = square_row _ c.requires _ c.loop-row-test.true

pub returns-then-row_off : goal.returns-then-row_off
unfolding row part value_at
returns-then-row_off c = clear_stop c.loop-row.invariant c.loop-row-test.true (sym c.row_off.ensures ∙ c.if-row_off.true)

pub loop-row-preserved : goal.loop-row-preserved
unfolding row part
loop-row-preserved c = clear_next c.loop-row.invariant c.loop-row-test.true (sym c.row_off.ensures ∙ c.if-row_off.false)

pub returns : goal.returns
unfolding value_at
returns c = clear_all c.loop-row.invariant c.loop-row-test.false
