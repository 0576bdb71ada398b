-- `store_l` meets its contract, by what is kept.
-- Assumes nothing.
use borrow.Author.Rules.{rules}
use Rattle.taking.specs.Stores.{with_l, kept_entries}
use Rattle.taking.proofs.Storing.{full_columns, full_numbers, full_pointer, full_keeps, full_fits, full_stored, pattern_columns, pattern_pointer, pattern_keeps, pattern_fits, pattern_stored}
use Rattle.taking.proofs.stores.store_l.Goals as goal

pub offset_bounds-l_cols-fill : goal.offset_bounds-l_cols-fill
offset_bounds-l_cols-fill c = search (rules, full_columns c.requires c.in-Full.is)

pub slice_bounds-cols-count : goal.slice_bounds-cols-count
slice_bounds-cols-count c = search (rules, full_columns c.requires c.in-Full.is)

pub slice_bounds-cols-start : goal.slice_bounds-cols-start
slice_bounds-cols-start c = search (rules, full_columns c.requires c.in-Full.is)

pub offset_bounds-l_vals-fill : goal.offset_bounds-l_vals-fill
offset_bounds-l_vals-fill c = search (rules, full_numbers c.requires c.in-Full.is)

pub slice_bounds-vals-count : goal.slice_bounds-vals-count
slice_bounds-vals-count c = search (rules, full_numbers c.requires c.in-Full.is)

pub slice_bounds-vals-start : goal.slice_bounds-vals-start
slice_bounds-vals-start c = search (rules, full_numbers c.requires c.in-Full.is)

pub write_l-len-requires : goal.write_l-len-requires
write_l-len-requires c = full_keeps c.requires c.in-Full.is

pub overflow_add-l_ptrs : goal.overflow_add-l_ptrs
overflow_add-l_ptrs c = search (rules, full_fits c.requires c.in-Full.is c.write_l-len.ensures)

pub overflow_add-l_ptrs-in-Full : goal.overflow_add-l_ptrs-in-Full
overflow_add-l_ptrs-in-Full c = search (rules, full_pointer c.requires c.in-Full.is)

pub offset_bounds-l_ptrs-rows : goal.offset_bounds-l_ptrs-rows
offset_bounds-l_ptrs-rows c = search (rules, full_pointer c.requires c.in-Full.is)

pub bounds-l_ptrs-rows : goal.bounds-l_ptrs-rows
bounds-l_ptrs-rows c = full_pointer c.requires c.in-Full.is

pub offset_bounds-l_cols-fill-in-Pattern : goal.offset_bounds-l_cols-fill-in-Pattern
offset_bounds-l_cols-fill-in-Pattern c = search (rules, pattern_columns c.requires c.in-Pattern.is)

pub slice_bounds-cols-count-in-Pattern : goal.slice_bounds-cols-count-in-Pattern
slice_bounds-cols-count-in-Pattern c = search (rules, pattern_columns c.requires c.in-Pattern.is)

pub slice_bounds-cols-start-in-Pattern : goal.slice_bounds-cols-start-in-Pattern
slice_bounds-cols-start-in-Pattern c = search (rules, pattern_columns c.requires c.in-Pattern.is)

pub write_l-len-requires-in-Pattern : goal.write_l-len-requires-in-Pattern
write_l-len-requires-in-Pattern c = pattern_keeps c.requires c.in-Pattern.is

pub overflow_add-l_ptrs-in-Pattern : goal.overflow_add-l_ptrs-in-Pattern
overflow_add-l_ptrs-in-Pattern c = search (rules, pattern_fits c.requires c.in-Pattern.is c.write_l-len-in-Pattern.ensures)

pub overflow_add-l_ptrs-in-Pattern-2 : goal.overflow_add-l_ptrs-in-Pattern-2
overflow_add-l_ptrs-in-Pattern-2 c = search (rules, pattern_pointer c.requires c.in-Pattern.is)

pub offset_bounds-l_ptrs-rows-in-Pattern : goal.offset_bounds-l_ptrs-rows-in-Pattern
offset_bounds-l_ptrs-rows-in-Pattern c = search (rules, pattern_pointer c.requires c.in-Pattern.is)

pub bounds-l_ptrs-rows-in-Pattern : goal.bounds-l_ptrs-rows-in-Pattern
bounds-l_ptrs-rows-in-Pattern c = pattern_pointer c.requires c.in-Pattern.is

pub returns-in-Full : goal.returns-in-Full
returns-in-Full c = full_stored c.requires c.in-Full.is c.write_l-len.ensures

pub returns-in-Pattern : goal.returns-in-Pattern
returns-in-Pattern c = pattern_stored c.requires c.in-Pattern.is c.write_l-len-in-Pattern.ensures

pub returns-in-None : goal.returns-in-None
unfolding with_l kept_entries
returns-in-None c = rw c.in-None.is
