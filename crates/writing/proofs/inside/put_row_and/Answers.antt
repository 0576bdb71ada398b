-- `put_row_and` meets its contract: a row, then one entry, is both.
-- Assumes nothing.
use mathlib.Core.Path.{sym, ap, ◌∙◌}
use mathlib.Core.List.{List, [], ◌∷◌}
use Rattle.sparse.specs.Matrix.{row}
use Rattle.sparse.specs.Rows.{Entry, entry, entries}
use Rattle.writing.specs.Puts.{put, more}
use Rattle.writing.proofs.RowPuts.{more_append, after_row}
use Rattle.writing.proofs.inside.put_row_and.Goals as goal

pub put_entry-requires : goal.put_entry-requires
put_entry-requires c = after_row _ 1 _ _ c.put_matrix_row-next.ensures c.requires.fits

pub returns : goal.returns
returns c = let one : List Entry = entry c.args.col c.args.val ∷ [] in
    c.put_entry.ensures
    ∙ ap (more one) c.put_matrix_row-next.ensures
    ∙ sym (more_append (row c.args.row_ptrs.now (entries c.args.col_idcs.now c.args.values.now) c.args.i) one (put c.args.at c.args.out_cols.now c.args.out_vals.now) c.requires.fits)
