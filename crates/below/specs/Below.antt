-- What is joined below a matrix: another matrix, a row.
use Rattle.std.specs.Prelude.{not, cond, List, [], ◌∷◌, ◌++◌, ℕ, ◌+◌, leb, eqb, length, Err, Ok}
use Rattle.sparse.specs.Lent.{Lent, Outcome}
use Rattle.sparse.specs.Matrix.{Matrix}
use Rattle.sparse.specs.Put.{putting, Built}
use Rattle.sparse.specs.Refusals.{number, refuse, lowest, Tested}
use Rattle.sparse.specs.Rows.{entries, rows_of}
use Rattle.sparse.specs.Tests.{modulus_test, size_test, shape_test, columns_test, rows_test, values_test, rows_values_test}
use Rattle.sparse.specs.declared.Refusal.TheVariants.{Mismatch}
use Rattle.sparse.specs.declared.inside.Clause.TheVariants.{Residue}
use Rattle.joining.specs.Joined.{pairs_test}

-- the lower number of two: 4 and 5 of two matrices
unfoldable pub lower : Tested → Tested → Tested
lower (Ok _) u = u
lower (Err r) (Ok _) = Err r
lower (Err r) (Err q) = cond (leb (number r) (number q)) (Err r) (Err q)

-- `append`: the first's rows, then the second's
unfoldable pub append_test : ℕ → Matrix → Matrix → Tested
append_test p a b =
    lowest
    (modulus_test p
    ∷ size_test 65536 a.nrows a.ncols (length a.values)
    ∷ size_test 65536 b.nrows b.ncols (length b.values)
    ∷ size_test 65536 (a.nrows + b.nrows) a.ncols (length a.values + length b.values)
    ∷ shape_test a
    ∷ shape_test b
    ∷ lower (rows_test a.nrows a.ncols a.row_ptrs a.col_idcs) (rows_test b.nrows b.ncols b.row_ptrs b.col_idcs)
    ∷ rows_values_test Residue p a.nrows a.row_ptrs a.values
    ∷ rows_values_test Residue p b.nrows b.row_ptrs b.values
    ∷ refuse (not (eqb a.ncols b.ncols)) Mismatch
    ∷ [])

unfoldable pub append : ℕ → Matrix → Matrix → Lent → Outcome Built Lent
append p a b = putting (append_test p a b) (rows_of a ++ rows_of b)

-- `add_row`: the row last
unfoldable pub add_row_test : ℕ → Matrix → List ℕ → List ℕ → Tested
add_row_test p m cols vals =
    lowest
    (modulus_test p
    ∷ size_test 65536 m.nrows m.ncols (length m.values)
    ∷ size_test 65536 1 m.ncols (length vals)
    ∷ size_test 65536 (m.nrows + 1) m.ncols (length m.values + length vals)
    ∷ shape_test m
    ∷ pairs_test cols vals
    ∷ rows_test m.nrows m.ncols m.row_ptrs m.col_idcs
    ∷ columns_test m.ncols cols
    ∷ rows_values_test Residue p m.nrows m.row_ptrs m.values
    ∷ values_test Residue p vals
    ∷ [])

unfoldable pub add_row : ℕ → Matrix → List ℕ → List ℕ → Lent → Outcome Built Lent
add_row p m cols vals = putting (add_row_test p m cols vals) (rows_of m ++ (entries cols vals ∷ []))
