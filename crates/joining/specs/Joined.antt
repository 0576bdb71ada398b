-- The tests of a matrix and of what is joined to it, in the parts that functions of their own test.
use Rattle.std.specs.Prelude.{not, List, [], ◌∷◌, ℕ, ◌+◌, eqb, length}
use Rattle.sparse.specs.Matrix.{Matrix}
use Rattle.sparse.specs.Refusals.{refuse, Tested}
use Rattle.sparse.specs.Tests.{modulus_test, size_test, shape_test, columns_test, rows_test, values_test, rows_values_test}
use Rattle.sparse.specs.declared.Refusal.TheVariants.{Shape}
use Rattle.sparse.specs.declared.inside.Clause.TheVariants.{Residue}

-- 3 of a vector, or of a row: columns and values differ in number
unfoldable pub pairs_test : List ℕ → List ℕ → Tested
pairs_test idcs vals = refuse (not (eqb (length idcs) (length vals))) Shape

-- 1, then 2 of both parts and of what they make together, which has so many rows and columns more than the first
unfoldable pub sizes_tests : ℕ → ℕ → ℕ → ℕ → ℕ → ℕ → ℕ → ℕ → ℕ → List Tested
sizes_tests p nrows ncols entries more_rows more_cols more_entries add_rows add_cols =
    modulus_test p
    ∷ size_test 65536 nrows ncols entries
    ∷ size_test 65536 more_rows more_cols more_entries
    ∷ size_test 65536 (nrows + add_rows) (ncols + add_cols) (entries + more_entries)
    ∷ []

-- 3 to 6 of a matrix and of a vector of this length
unfoldable pub forms_tests : ℕ → Matrix → ℕ → List ℕ → List ℕ → List Tested
forms_tests p m len idcs vals =
    shape_test m
    ∷ pairs_test idcs vals
    ∷ rows_test m.nrows m.ncols m.row_ptrs m.col_idcs
    ∷ columns_test len idcs
    ∷ rows_values_test Residue p m.nrows m.row_ptrs m.values
    ∷ values_test Residue p vals
    ∷ []
