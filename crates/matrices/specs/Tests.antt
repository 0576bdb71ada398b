-- When many rows can be added: the numbers before the first row.
use Rattle.std.specs.Prelude.{ℕ, not, List, [], ◌∷◌, eqb}
use Rattle.sparse.specs.Matrix.{Matrix}
use Rattle.sparse.specs.Refusals.{refuse, lowest, Tested}
use Rattle.sparse.specs.Tests.{modulus_test, size_test, clean}
use Rattle.sparse.specs.declared.Refusal.TheVariants.{Mismatch}
use Rattle.state.specs.Memory.{Memory}
use Rattle.state.specs.State.{state_test}
use Rattle.state.specs.declared.Counts.{Counts}
use Rattle.batches.specs.Tests.{short_test}

-- 1 and 2 of the record; 2 to 7 of the rows by its modulus; 11 where the column counts differ
unfoldable pub rows_tests : ℕ → ℕ → Matrix → List Tested
rows_tests p n a = modulus_test p ∷ size_test 65536 0 n 0 ∷ clean 65536 p a ∷ refuse (not (eqb n a.ncols)) Mismatch ∷ []

-- these, then 11 and 13
unfoldable pub add_matrix_test : Counts → Matrix → List ℕ → List ℕ → Memory → Tested
add_matrix_test c a dense answers m = lowest (lowest (rows_tests c.modulus c.ncols a) ∷ short_test a.nrows a.ncols dense answers m.pivots ∷ state_test c m ∷ [])
