-- `write_rows` meets its contract. The loop's invariant: the first i of all rows are written.
use native.Mathlib.Omega.{arith}
use Rattle.writing.proofs.RowLoops.{room_for, rows_start, rows_end, keep_ptrs, keep_cols, keep_vals, next_place}
use Rattle.below.proofs.Appends.{rows_many, either_ready, either_next}
use Rattle.below.proofs.rows.write_rows.Goals as goal

pub bounds-out_ptrs-0 : goal.bounds-out_ptrs-0
bounds-out_ptrs-0 c = omega (arith, (room_for _ _ _ _ c.requires.rows).pointers)

pub loop-i-init : goal.loop-i-init
loop-i-init c = rows_start _ _ _ _ c.requires.rows

pub put_either_row-at-requires : goal.put_either_row-at-requires
put_either_row-at-requires c = either_ready _ _ _ c.requires c.loop-i.invariant c.loop-i-test.true

pub bounds-out_ptrs-i : goal.bounds-out_ptrs-i
bounds-out_ptrs-i c = let s = c.args in
    next_place _ _ _ _ c.requires.rows c.loop-i.invariant (rw (rows_many s.nrows s.row_ptrs.now s.col_idcs.now s.values.now s.more_nrows s.more_ptrs.now s.more_cols.now s.more_values.now) c.loop-i-test.true)

pub loop-i-preserved : goal.loop-i-preserved
loop-i-preserved c = either_next _ _ _ c.requires c.loop-i.invariant c.loop-i-test.true c.put_either_row-at.ensures

pub shape_of-out_ptrs : goal.shape_of-out_ptrs
shape_of-out_ptrs c = keep_ptrs _ _ _ _ c.requires.rows c.loop-i.invariant

pub shape_of-out_cols : goal.shape_of-out_cols
shape_of-out_cols c = keep_cols _ _ _ _ c.requires.rows c.loop-i.invariant

pub shape_of-out_vals : goal.shape_of-out_vals
shape_of-out_vals c = keep_vals _ _ _ _ c.requires.rows c.loop-i.invariant

pub returns : goal.returns
returns c = let s = c.args in
    rows_end _ _ _ _ c.requires.rows c.loop-i.invariant (rw (rows_many s.nrows s.row_ptrs.now s.col_idcs.now s.values.now s.more_nrows s.more_ptrs.now s.more_cols.now s.more_values.now) c.loop-i-test.false)
