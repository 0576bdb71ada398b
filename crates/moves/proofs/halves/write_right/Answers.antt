-- `write_right` meets its contract. The loop's invariant: the first i rows of the result are written.
use native.Mathlib.Omega.{arith}
use Rattle.writing.proofs.RowLoops.{room_for, rows_start, rows_end, keep_ptrs, keep_cols, keep_vals, next_place}
use Rattle.moves.proofs.HalfRows.{right_many, rights_ready, rights_next}
use Rattle.moves.proofs.halves.write_right.Goals as goal

pub bounds-out_ptrs-0 : goal.bounds-out_ptrs-0
bounds-out_ptrs-0 c = omega (arith, (room_for _ _ _ _ c.requires.room).pointers)

pub loop-i-init : goal.loop-i-init
loop-i-init c = rows_start _ _ _ _ c.requires.room

pub put_right_row-at-requires : goal.put_right_row-at-requires
put_right_row-at-requires c = rights_ready _ _ _ c.requires c.loop-i.invariant c.loop-i-test.true

pub bounds-out_ptrs-i : goal.bounds-out_ptrs-i
bounds-out_ptrs-i c = next_place _ _ _ _ c.requires.room c.loop-i.invariant (rw (right_many _ _ _ c.requires) c.loop-i-test.true)

pub loop-i-preserved : goal.loop-i-preserved
loop-i-preserved c = rights_next _ _ _ c.requires c.loop-i.invariant c.loop-i-test.true c.put_right_row-at.ensures

pub shape_of-out_ptrs : goal.shape_of-out_ptrs
shape_of-out_ptrs c = keep_ptrs _ _ _ _ c.requires.room c.loop-i.invariant

pub shape_of-out_cols : goal.shape_of-out_cols
shape_of-out_cols c = keep_cols _ _ _ _ c.requires.room c.loop-i.invariant

pub shape_of-out_vals : goal.shape_of-out_vals
shape_of-out_vals c = keep_vals _ _ _ _ c.requires.room c.loop-i.invariant

pub returns : goal.returns
returns c = rows_end _ _ _ _ c.requires.room c.loop-i.invariant (rw (right_many _ _ _ c.requires) c.loop-i-test.false)
