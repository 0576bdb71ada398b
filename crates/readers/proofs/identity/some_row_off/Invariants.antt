-- `some_row_off` meets its contract. The loop's invariant: no row before `row` differs from the identity's.
use Rattle.lists.specs.Find.{any}
use Rattle.lists.proofs.Scans.{Clear}
use Rattle.readers.proofs.Identities.{off}
use Rattle.readers.proofs.identity.some_row_off.Given as goal

abbrev pub invariant-loop-row : goal.invariant-loop-row
invariant-loop-row l = Clear l.nrows (λ i. any l.ncols (off (Rattle.sparse.specs.Matrix.row l.row_ptrs l.col_idcs i) (Rattle.sparse.specs.Matrix.row l.row_ptrs l.values i) i)) l.row
