-- `inside::put_rows` meets its contract. The loop's invariant: the pieces of the rows before row i are written.
use Rattle.text.proofs.Pieces.{OnRows}
use Rattle.text.proofs.inside.put_rows.Given as goal

abbrev pub invariant-loop-i : goal.invariant-loop-i
invariant-loop-i l = OnRows l.nrows l.row_ptrs l.col_idcs l.values l.at l.initial.text l.i l.next l.text
