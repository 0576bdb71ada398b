-- A matrix and a pivot table over its rows.
use Rattle.std.specs.Prelude.{ℕ, List, [], ◌∷◌, length}
use Rattle.sparse.specs.Matrix.{Matrix}
use Rattle.sparse.specs.Pivots.{pivots_test}
use Rattle.sparse.specs.Refusals.{lowest, Tested}
use Rattle.sparse.specs.Tests.{modulus_test, size_test, matrix_test}

-- 1 to 6 of the matrix, 2 also of the table's length, 12 of the table
unfoldable pub table_test : ℕ → Matrix → List ℕ → Tested
table_test p m pivots =
    lowest
    (modulus_test p
    ∷ size_test 65536 m.nrows m.ncols (length m.values)
    ∷ size_test 65536 0 (length pivots) 0
    ∷ matrix_test p m
    ∷ pivots_test m.nrows pivots
    ∷ [])
