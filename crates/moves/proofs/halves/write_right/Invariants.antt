-- `write_right` meets its contract. The loop's invariant: the first i rows of the result are written.
use Rattle.sparse.specs.Lent.{lent}
use Rattle.writing.proofs.Writing.{Writing}
use Rattle.moves.specs.Parts.{right_rows}
use Rattle.moves.proofs.halves.write_right.Given as goal

abbrev pub invariant-loop-i : goal.invariant-loop-i
invariant-loop-i l = Writing (right_rows l.nrows l.h l.row_ptrs l.col_idcs l.values) (lent l.initial.out_ptrs l.initial.out_cols l.initial.out_vals) l.i l.at l.out_ptrs l.out_cols l.out_vals
