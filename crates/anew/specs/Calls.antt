-- A reducer made from a matrix.
use Rattle.std.specs.Prelude.{ℕ, Bool, List, [], ◌∷◌}
use Rattle.sparse.specs.Lent.{Outcome, unless}
use Rattle.sparse.specs.Matrix.{Matrix}
use Rattle.sparse.specs.Refusals.{lowest, Tested}
use Rattle.sparse.specs.Tests.{clean}
use Rattle.state.specs.Fresh.{start_test}
use Rattle.state.specs.declared.Mode.{Mode}
use Rattle.telling.specs.declared.Reduced.{Reduced}
use Rattle.telling.specs.declared.Reduced.TheVariants.{Refused}
use Rattle.running.specs.Rows.{Night}
use Rattle.batches.specs.Batch.{take_anew}
use Rattle.batches.specs.Tests.{short_test}

-- 1 to 7 of the rows; 11; 14 at the fresh start
unfoldable pub from_matrix_test : ℕ → Mode → Matrix → List ℕ → List ℕ → List ℕ → List ℕ → List ℕ → Tested
from_matrix_test p mode a dense answers u_ptrs l_ptrs pivots = lowest (clean 65536 p a ∷ short_test a.nrows a.ncols dense answers pivots ∷ start_test mode u_ptrs l_ptrs ∷ [])

-- `from_matrix` and, where it checks, `from_matrix_check_dependent`: a fresh start, then all rows
unfoldable pub from_matrix : Bool → Bool → ℕ → Mode → Matrix → Night → Outcome Reduced Night
from_matrix on check p mode a w =
    unless Refused (from_matrix_test p mode a w.dense w.answers w.memory.u_ptrs w.memory.l_ptrs w.memory.pivots) w (take_anew on check p mode a w)
