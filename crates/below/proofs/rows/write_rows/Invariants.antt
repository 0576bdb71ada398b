-- `write_rows` meets its contract. The loop's invariant: the first i of all rows are written.
use mathlib.Core.List.{◌++◌}
use Rattle.sparse.specs.Lent.{lent}
use Rattle.writing.proofs.Writing.{Writing}
use Rattle.below.specs.Parts.{rows_in}
use Rattle.below.proofs.rows.write_rows.Given as goal

abbrev pub invariant-loop-i : goal.invariant-loop-i
invariant-loop-i l = Writing (rows_in l.nrows l.row_ptrs l.col_idcs l.values ++ rows_in l.more_nrows l.more_ptrs l.more_cols l.more_values) (lent l.initial.out_ptrs l.initial.out_cols l.initial.out_vals) l.i l.at l.out_ptrs l.out_cols l.out_vals
