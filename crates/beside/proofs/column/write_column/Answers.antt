-- `write_column` meets its contract. The loop's invariant: the rows before `row` are written, each with its entry of the vector, and the
-- cursor stands behind these.
use mathlib.Core.Path.{sym}
use native.Mathlib.Omega.{arith}
use Rattle.lists.proofs.Tables.{length-table}
use Rattle.sparse.specs.Rows.{entries}
use Rattle.writing.proofs.RowLoops.{room_for, rows_start, rows_end, keep_ptrs, keep_cols, keep_vals, next_place}
use Rattle.beside.specs.Beside.{with_column}
use Rattle.beside.specs.Parts.{in_column}
use Rattle.beside.proofs.Cursors.{none_below}
use Rattle.beside.proofs.Joined.{beside_ready, beside_next}
use Rattle.beside.proofs.column.write_column.Goals as goal

pub bounds-out_ptrs-0 : goal.bounds-out_ptrs-0
bounds-out_ptrs-0 c = omega (arith, (room_for _ _ _ _ c.requires.rows).pointers)

pub loop-row-init : goal.loop-row-init
loop-row-init c = (rows_start _ _ _ _ c.requires.rows, sym (none_below c.args.idcs.now))

pub put_column_row-at-requires : goal.put_column_row-at-requires
unfolding with_column in_column
put_column_row-at-requires c = record {
  cursor = record { strict = c.requires.strict; stands = c.loop-row.invariant.1 };
  each = c.requires.each;
  writes = beside_ready _ (in_column c.args.matrix.ncols (entries c.args.idcs.now c.args.nums.now)) _ _ _ c.requires.from c.requires.rows c.loop-row.invariant.0 c.loop-row-test.true;
}

pub past_row-next-requires : goal.past_row-next-requires
past_row-next-requires c = record { strict = c.requires.strict; stands = c.loop-row.invariant.1 }

pub bounds-out_ptrs-row : goal.bounds-out_ptrs-row
bounds-out_ptrs-row c = next_place _ _ _ _ c.requires.rows c.loop-row.invariant.0 (rw length-table c.loop-row-test.true)

pub loop-row-preserved : goal.loop-row-preserved
unfolding with_column in_column
loop-row-preserved c = (beside_next _ (in_column c.args.matrix.ncols (entries c.args.idcs.now c.args.nums.now)) _ _ _ c.requires.from c.requires.rows c.loop-row.invariant.0 c.loop-row-test.true c.put_column_row-at.ensures, c.past_row-next.ensures)

pub shape_of-out_ptrs : goal.shape_of-out_ptrs
shape_of-out_ptrs c = keep_ptrs _ _ _ _ c.requires.rows c.loop-row.invariant.0

pub shape_of-out_cols : goal.shape_of-out_cols
shape_of-out_cols c = keep_cols _ _ _ _ c.requires.rows c.loop-row.invariant.0

pub shape_of-out_vals : goal.shape_of-out_vals
shape_of-out_vals c = keep_vals _ _ _ _ c.requires.rows c.loop-row.invariant.0

pub returns : goal.returns
returns c = rows_end _ _ _ _ c.requires.rows c.loop-row.invariant.0 (rw length-table c.loop-row-test.false)
