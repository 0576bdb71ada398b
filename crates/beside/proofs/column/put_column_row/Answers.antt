-- `put_column_row` meets its contract: the cursor moves on exactly where the vector has an entry of this index.
-- Assumes nothing.
use mathlib.Core.Path.{◌≡◌, sym, ap, ◌∙◌}
use mathlib.Core.List.{List, [], ◌∷◌, ◌++◌, append-nil}
use Prim.Native.Nat.{◌<◌}
use native.Mathlib.Nat.{le_of_eq}
use native.Mathlib.Omega.{arith}
use lib.ListN.{length, get_or}
use Rattle.sparse.specs.Matrix.{row}
use Rattle.sparse.specs.Rows.{Entry, entry, entries}
use Rattle.writing.specs.Puts.{put, more}
use Rattle.beside.specs.Parts.{in_column}
use Rattle.beside.proofs.Columns.{column_none, column_one}
use Rattle.beside.proofs.Joined.{row_less}
use Rattle.beside.proofs.column.put_column_row.Goals as goal
use Rattle.beside.proofs.column.put_column_row.Goals.{Else-after-next}

-- the cursor moved: an entry stands there
found : (c : Else-after-next) → let a = c.args in (a.next < length a.nums.now) × (in_column a.n (entries a.idcs.now a.nums.now) a.row ≡ entry a.n (get_or a.nums.now a.next 0) ∷ [])
found c = column_one c.args.idcs.now c.args.nums.now c.requires.each c.requires.cursor c.past_row-after.ensures c.args.n c.if-after-next.false

pub past_row-after-requires : goal.past_row-after-requires
past_row-after-requires c = c.requires.cursor

pub put_matrix_row-requires : goal.put_matrix_row-requires
put_matrix_row-requires c = row_less 0 c.requires.writes (omega arith)

pub returns-then-after-next : goal.returns-then-after-next
returns-then-after-next c = let none = column_none _ _ c.requires.each c.requires.cursor c.past_row-after.ensures c.args.n c.if-after-next.true in
    c.put_matrix_row.ensures ∙ ap (λ (es : List Entry). more es (put c.args.at c.args.out_cols.now c.args.out_vals.now)) (sym (append-nil (row c.args.row_ptrs.now (entries c.args.col_idcs.now c.args.values.now) c.args.row)) ∙ ap (λ (l : List Entry). (row c.args.row_ptrs.now (entries c.args.col_idcs.now c.args.values.now) c.args.row) ++ l) (sym none))

pub offset_bounds-nums-next : goal.offset_bounds-nums-next
offset_bounds-nums-next c = omega (arith, (found (goal.at.offset_bounds-nums-next c).Else-after-next).0)

pub bounds-nums-next : goal.bounds-nums-next
bounds-nums-next c = (found (goal.at.bounds-nums-next c).Else-after-next).0

pub put_row_and-requires : goal.put_row_and-requires
put_row_and-requires c = row_less 1 c.requires.writes (le_of_eq (sym (ap length (found (goal.at.put_row_and-requires c).Else-after-next).1)))

pub returns : goal.returns
returns c = c.put_row_and.ensures ∙ ap (λ (es : List Entry). more es (put c.args.at c.args.out_cols.now c.args.out_vals.now)) (ap (λ (l : List Entry). (row c.args.row_ptrs.now (entries c.args.col_idcs.now c.args.values.now) c.args.row) ++ l) (sym (found (goal.at.returns c).Else-after-next).1))
