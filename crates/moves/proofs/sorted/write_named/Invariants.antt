-- `write_named` meets its contract. The loop's invariant: the rows that the first k places of the table name are written.
use Rattle.sparse.specs.Lent.{lent}
use Rattle.moves.proofs.Named.{Naming}
use Rattle.moves.proofs.sorted.write_named.Given as goal

abbrev pub invariant-loop-named : goal.invariant-loop-named
invariant-loop-named l = Naming l.row_ptrs l.col_idcs l.values l.pivots (lent l.initial.out_ptrs l.initial.out_cols l.initial.out_vals) l.named-index l.row l.at l.out_ptrs l.out_cols l.out_vals
