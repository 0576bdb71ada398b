-- `write_identity` meets its contract. The loop's invariant: the rows before `row` are written, each with its 1.
use Rattle.lists.specs.Table.{table}
use Rattle.sparse.specs.Lent.{lent}
use Rattle.sparse.specs.Matrix.{seen}
use Rattle.writing.proofs.Writing.{Writing}
use Rattle.beside.specs.Beside.{with_one}
use Rattle.beside.proofs.identity.write_identity.Given as goal

abbrev pub invariant-loop-row : goal.invariant-loop-row
invariant-loop-row l = Writing (table l.nrows (with_one (seen l.matrix))) (lent l.initial.out_ptrs l.initial.out_cols l.initial.out_vals) l.row l.at l.out_ptrs l.out_cols l.out_vals
