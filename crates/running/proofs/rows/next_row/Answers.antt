-- `next_row` meets its contract: the row is taken and its answer written, or the call ends.
-- Assumes nothing.
use borrow.Author.Rules.{rules}
use Rattle.sparse.specs.Matrix.{part, row}
use Rattle.running.proofs.Nexts.{next_place, next_offers, next_stopped, next_taken}
use Rattle.running.proofs.rows.next_row.Goals as goal

pub bounds-row_ptrs-taken : goal.bounds-row_ptrs-taken
bounds-row_ptrs-taken c = search (rules, next_place c.requires)

pub bounds-row_ptrs-taken-2 : goal.bounds-row_ptrs-taken-2
bounds-row_ptrs-taken-2 c = search (rules, next_place c.requires)

pub offset_bounds-col_idcs-start : goal.offset_bounds-col_idcs-start
offset_bounds-col_idcs-start c = search (rules, next_place c.requires)

pub slice_bounds-take_row-count : goal.slice_bounds-take_row-count
slice_bounds-take_row-count c = search (rules, next_place c.requires)

pub slice_bounds-take_row-start : goal.slice_bounds-take_row-start
slice_bounds-take_row-start c = search (rules, next_place c.requires)

pub slice_bounds-take_row-end : goal.slice_bounds-take_row-end
slice_bounds-take_row-end c = search (rules, next_place c.requires)

pub offset_bounds-values-start : goal.offset_bounds-values-start
offset_bounds-values-start c = search (rules, next_place c.requires)

pub slice_bounds-take_row-count-2 : goal.slice_bounds-take_row-count-2
slice_bounds-take_row-count-2 c = search (rules, next_place c.requires)

pub slice_bounds-take_row-start-2 : goal.slice_bounds-take_row-start-2
slice_bounds-take_row-start-2 c = search (rules, next_place c.requires)

pub slice_bounds-take_row-end-2 : goal.slice_bounds-take_row-end-2
slice_bounds-take_row-end-2 c = search (rules, next_place c.requires)

pub take_row-added-requires : goal.take_row-added-requires
unfolding row part
take_row-added-requires c = next_offers c.requires

pub overflow_add-run : goal.overflow_add-run
overflow_add-run c = search (rules, next_place c.requires)

pub returns-in-Err : goal.returns-in-Err
unfolding row part
returns-in-Err c = next_stopped c.requires _ c.take_row-added.ensures _ c.in-Err.is

pub returns-in-Ok : goal.returns-in-Ok
unfolding row part
returns-in-Ok c = next_taken c.requires _ c.take_row-added.ensures _ c.in-Ok.is c.ended.ensures c.tell.ensures
