-- `put_matrix_row` meets its contract: the entries of a row's columns and values are the row's entries.
-- Assumes nothing.
use mathlib.Core.Path.{ap, ◌∙◌}
use mathlib.Core.List.{List}
use Rattle.sparse.specs.Matrix.{part, row}
use Rattle.sparse.specs.Rows.{Entry}
use Rattle.writing.specs.Puts.{put, more}
use Rattle.writing.proofs.RowPuts.{row_asked, row_put}
use Rattle.writing.proofs.inside.put_matrix_row.Goals as goal

pub put_row-requires : goal.put_row-requires
unfolding row part
put_row-requires c = row_asked c.requires

pub returns : goal.returns
unfolding row part
returns c = c.put_row.ensures ∙ ap (λ (es : List Entry). more es (put c.args.at c.args.out_cols.now c.args.out_vals.now)) (row_put c.requires)
