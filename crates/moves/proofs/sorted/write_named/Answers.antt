-- `write_named` meets its contract. The loop's invariant: the rows that the first k places of the table name are written.
use native.Mathlib.Omega.{arith}
use Rattle.sparse.specs.Pivots.{mark}
use Rattle.writing.proofs.RowLoops.{room_for, keep_ptrs, keep_cols, keep_vals}
use Rattle.moves.proofs.Named.{naming_start, naming_skip, naming_ready, naming_place, naming_next, naming_end}
use Rattle.moves.proofs.sorted.write_named.Goals as goal

pub bounds-out_ptrs-0 : goal.bounds-out_ptrs-0
bounds-out_ptrs-0 c = omega (arith, (room_for _ _ _ _ c.requires.room).pointers)

pub loop-named-init : goal.loop-named-init
loop-named-init c = naming_start _ _ _ c.requires

pub loop-named-preserved-then-named : goal.loop-named-preserved-then-named
unfolding mark
loop-named-preserved-then-named c = naming_skip _ _ _ c.requires c.loop-named.invariant c.loop-named-test.true c.if-named.true

pub put_matrix_row-at-requires : goal.put_matrix_row-at-requires
unfolding mark
put_matrix_row-at-requires c = naming_ready _ _ _ c.requires c.loop-named.invariant c.loop-named-test.true c.if-named.false

pub overflow_add-row : goal.overflow_add-row
unfolding mark
overflow_add-row c = omega (arith, naming_place _ _ _ c.requires c.loop-named.invariant c.loop-named-test.true c.if-named.false, keep_ptrs _ _ _ _ c.requires.room c.loop-named.invariant.written)

pub offset_bounds-out_ptrs-row : goal.offset_bounds-out_ptrs-row
unfolding mark
offset_bounds-out_ptrs-row c = omega (arith, naming_place _ _ _ c.requires c.loop-named.invariant c.loop-named-test.true c.if-named.false, keep_ptrs _ _ _ _ c.requires.room c.loop-named.invariant.written)

pub bounds-out_ptrs-row : goal.bounds-out_ptrs-row
unfolding mark
bounds-out_ptrs-row c = naming_place _ _ _ c.requires c.loop-named.invariant c.loop-named-test.true c.if-named.false

pub loop-named-preserved : goal.loop-named-preserved
unfolding mark
loop-named-preserved c = naming_next _ _ _ c.requires c.loop-named.invariant c.loop-named-test.true c.if-named.false c.put_matrix_row-at.ensures

pub shape_of-out_ptrs : goal.shape_of-out_ptrs
shape_of-out_ptrs c = keep_ptrs _ _ _ _ c.requires.room c.loop-named.invariant.written

pub shape_of-out_cols : goal.shape_of-out_cols
shape_of-out_cols c = keep_cols _ _ _ _ c.requires.room c.loop-named.invariant.written

pub shape_of-out_vals : goal.shape_of-out_vals
shape_of-out_vals c = keep_vals _ _ _ _ c.requires.room c.loop-named.invariant.written

pub returns : goal.returns
returns c = naming_end _ _ _ c.requires c.loop-named.invariant c.loop-named-test.false
