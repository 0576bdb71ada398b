-- What is joined beside a matrix: a column, the identity.
use Rattle.std.specs.Prelude.{not, List, [], ◌∷◌, ◌++◌, map, ℕ, ◌+◌, eqb, length}
use Rattle.lists.specs.Find.{keep}
use Rattle.lists.specs.Table.{table}
use Rattle.sparse.specs.Lent.{Lent, Outcome}
use Rattle.sparse.specs.Matrix.{Matrix}
use Rattle.sparse.specs.Put.{putting, Built}
use Rattle.sparse.specs.Refusals.{refuse, lowest, Tested}
use Rattle.sparse.specs.Rows.{Entry, entry, entries, row_at}
use Rattle.sparse.specs.Tests.{modulus_test, size_test, shape_test, columns_test, rows_test, values_test, rows_values_test, matrix_test}
use Rattle.sparse.specs.declared.Refusal.TheVariants.{NotSquare, Mismatch}
use Rattle.sparse.specs.declared.inside.Clause.TheVariants.{Residue}
use Rattle.joining.specs.Joined.{pairs_test}

-- `append_col`: the vector's entry goes last in its row, in a new column n
unfoldable pub with_column : Matrix → List Entry → ℕ → List Entry
with_column m v i = row_at m i ++ map (λ e. entry m.ncols e.value) (keep (λ e. eqb e.col i) v)

unfoldable pub append_col_test : ℕ → Matrix → ℕ → List ℕ → List ℕ → Tested
append_col_test p m len idcs vals =
    lowest
    (modulus_test p
    ∷ size_test 65536 m.nrows m.ncols (length m.values)
    ∷ size_test 65536 1 len (length vals)
    ∷ size_test 65536 m.nrows (m.ncols + 1) (length m.values + length vals)
    ∷ shape_test m
    ∷ pairs_test idcs vals
    ∷ rows_test m.nrows m.ncols m.row_ptrs m.col_idcs
    ∷ columns_test len idcs
    ∷ rows_values_test Residue p m.nrows m.row_ptrs m.values
    ∷ values_test Residue p vals
    ∷ refuse (not (eqb len m.nrows)) Mismatch
    ∷ [])

unfoldable pub append_col : ℕ → Matrix → ℕ → List ℕ → List ℕ → Lent → Outcome Built Lent
append_col p m len idcs vals = putting (append_col_test p m len idcs vals) (table m.nrows (with_column m (entries idcs vals)))

-- `append_identity`: 1 at column n + row
unfoldable pub with_one : Matrix → ℕ → List Entry
with_one m i = row_at m i ++ (entry (m.ncols + i) 1 ∷ [])

unfoldable pub append_identity_test : ℕ → Matrix → Tested
append_identity_test p m =
    lowest
    (modulus_test p
    ∷ size_test 65536 m.nrows m.ncols (length m.values)
    ∷ size_test 65536 m.nrows (m.ncols + m.nrows) (length m.values + m.nrows)
    ∷ matrix_test p m
    ∷ refuse (not (eqb m.nrows m.ncols)) NotSquare
    ∷ [])

unfoldable pub append_identity : ℕ → Matrix → Lent → Outcome Built Lent
append_identity p m = putting (append_identity_test p m) (table m.nrows (with_one m))
