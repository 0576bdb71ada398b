-- `write_identity` meets its contract. The loop's invariant: the rows before `row` are written, each with its 1.
use mathlib.Core.List.{List, [], ◌∷◌}
use Prim.Native.Nat.{ℕ, ◌+◌}
use native.Mathlib.Omega.{arith}
use Rattle.lists.proofs.Tables.{length-table}
use Rattle.sparse.specs.Rows.{Entry, entry}
use Rattle.writing.proofs.RowLoops.{room_for, rows_start, rows_end, keep_ptrs, keep_cols, keep_vals, next_place}
use Rattle.beside.specs.Beside.{with_one}
use Rattle.beside.proofs.Joined.{beside_ready, beside_next}
use Rattle.beside.proofs.identity.write_identity.Goals as goal

-- what stands beside row i
abbrev one : ℕ → ℕ → List Entry
one n i = entry (n + i) 1 ∷ []

pub bounds-out_ptrs-0 : goal.bounds-out_ptrs-0
bounds-out_ptrs-0 c = omega (arith, (room_for _ _ _ _ c.requires.rows).pointers)

pub loop-row-init : goal.loop-row-init
loop-row-init c = rows_start _ _ _ _ c.requires.rows

pub put_row_and-at-requires : goal.put_row_and-at-requires
unfolding with_one
put_row_and-at-requires c = beside_ready _ (one c.args.matrix.ncols) _ _ _ c.requires.from c.requires.rows c.loop-row.invariant c.loop-row-test.true

pub bounds-out_ptrs-i : goal.bounds-out_ptrs-i
bounds-out_ptrs-i c = next_place _ _ _ _ c.requires.rows c.loop-row.invariant (rw length-table c.loop-row-test.true)

pub loop-row-preserved : goal.loop-row-preserved
unfolding with_one
loop-row-preserved c = beside_next _ (one c.args.matrix.ncols) _ _ _ c.requires.from c.requires.rows c.loop-row.invariant c.loop-row-test.true c.put_row_and-at.ensures

pub shape_of-out_ptrs : goal.shape_of-out_ptrs
shape_of-out_ptrs c = keep_ptrs _ _ _ _ c.requires.rows c.loop-row.invariant

pub shape_of-out_cols : goal.shape_of-out_cols
shape_of-out_cols c = keep_cols _ _ _ _ c.requires.rows c.loop-row.invariant

pub shape_of-out_vals : goal.shape_of-out_vals
shape_of-out_vals c = keep_vals _ _ _ _ c.requires.rows c.loop-row.invariant

pub returns : goal.returns
returns c = rows_end _ _ _ _ c.requires.rows c.loop-row.invariant (rw length-table c.loop-row-test.false)
