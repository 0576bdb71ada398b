-- `write_column` meets its contract. The loop's invariant: the rows before `row` are written, each with its entry of the vector, and the
-- cursor stands behind these.
use mathlib.Core.Path.{◌≡◌}
use lib.Dec.{ltb}
use Rattle.lists.specs.Find.{count}
use Rattle.lists.specs.Table.{table}
use Rattle.sparse.specs.Lent.{lent}
use Rattle.sparse.specs.Matrix.{seen}
use Rattle.sparse.specs.Rows.{entries}
use Rattle.writing.proofs.Writing.{Writing}
use Rattle.beside.specs.Beside.{with_column}
use Rattle.beside.proofs.column.write_column.Given as goal

abbrev pub invariant-loop-row : goal.invariant-loop-row
invariant-loop-row l = Writing (table l.nrows (with_column (seen l.matrix) (entries l.idcs l.nums))) (lent l.initial.out_ptrs l.initial.out_cols l.initial.out_vals) l.row l.at l.out_ptrs l.out_cols l.out_vals × (l.next ≡ count (λ c. ltb c l.row) l.idcs)
