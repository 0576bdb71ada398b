-- `put_either_row` meets its contract: row i is one of the first's, or of the second's.
-- Assumes nothing.
use mathlib.Core.Path.{sym, ap, ◌∙◌}
use mathlib.Core.List.{List}
use Rattle.sparse.specs.Matrix.{row}
use Rattle.sparse.specs.Rows.{Entry, entries}
use Rattle.writing.specs.Puts.{put, more}
use Rattle.below.proofs.Appends.{either_first, either_second}
use Rattle.below.proofs.rows.put_either_row.Goals as goal

pub put_matrix_row-requires : goal.put_matrix_row-requires
put_matrix_row-requires c = c.requires.first c.if-i-n.true

pub returns-then-i-n : goal.returns-then-i-n
returns-then-i-n c = c.put_matrix_row.ensures ∙ ap (λ (es : List Entry). more es (put c.args.at c.args.out_cols.now c.args.out_vals.now)) (sym (either_first c.args.n (row c.args.row_ptrs.now (entries c.args.col_idcs.now c.args.values.now)) (row c.args.more_ptrs.now (entries c.args.more_cols.now c.args.more_values.now)) c.args.i c.if-i-n.true))

pub put_matrix_row-requires-2 : goal.put_matrix_row-requires-2
put_matrix_row-requires-2 c = c.requires.second c.if-i-n.false

pub returns : goal.returns
returns c = c.put_matrix_row-2.ensures ∙ ap (λ (es : List Entry). more es (put c.args.at c.args.out_cols.now c.args.out_vals.now)) (sym (either_second c.args.n (row c.args.row_ptrs.now (entries c.args.col_idcs.now c.args.values.now)) (row c.args.more_ptrs.now (entries c.args.more_cols.now c.args.more_values.now)) c.args.i c.if-i-n.false))
