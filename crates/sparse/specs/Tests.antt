-- When a matrix is well formed, and when clean: the table's clauses 1 to 7.
use Rattle.std.specs.Prelude.{ℕ, ◌+◌, ◌-◌, not, ◌&&◌, ◌||◌, List, [], ◌∷◌, leb, ltb, eqb, length, get_or}
use Rattle.field.specs.Prime.{is_modulus}
use Rattle.sparse.specs.Matrix.{Matrix, matrix, part, row}
use Rattle.sparse.specs.Refusals.{refuse, ◌else◌, lowest, first_of, Tested}
use Rattle.sparse.specs.declared.inside.Clause.{Clause}
use Rattle.sparse.specs.declared.inside.Clause.TheVariants.{Residue, Nonzero}
use Rattle.sparse.specs.declared.Refusal.TheVariants.{Modulus, Size, Shape, Pointer, Column, Value, Zero}

-- 1: the modulus is no prime in 2..2,147,483,647
unfoldable pub modulus_test : ℕ → Tested
modulus_test p = refuse (not (is_modulus p)) Modulus

-- 2: over 1,024 rows or columns, or over `limit` entries
unfoldable pub size_test : ℕ → ℕ → ℕ → ℕ → Tested
size_test limit rows cols entries = refuse (ltb 1024 rows || ltb 1024 cols || ltb limit entries) Size

-- 3: columns and values differ in number; row pointers aren't rows+1 many, don't start at 0 or don't end at the value count
unfoldable pub shape_test : Matrix → Tested
shape_test m =
    refuse
    (not (eqb (length m.col_idcs) (length m.values))
    || not (eqb (length m.row_ptrs) (m.nrows + 1))
    || not (eqb (get_or m.row_ptrs 0 0) 0)
    || not (eqb (get_or m.row_ptrs m.nrows 0) (length m.values)))
    Shape

-- 5 at entry k of a row's columns: not below the column count, or not above the one before
unfoldable pub column_test : ℕ → List ℕ → ℕ → Tested
column_test n cols k = refuse (leb n (get_or cols k 0) || ltb 0 k && leb (get_or cols k 0) (get_or cols (k - 1) 0)) Column

unfoldable pub columns_test : ℕ → List ℕ → Tested
columns_test n cols = first_of (length cols) (column_test n cols)

-- 4 in the row from a up to b, a row pointer falls or passes the value count (by 3 the columns'); then 5 in it
unfoldable pub row_test : ℕ → List ℕ → ℕ → ℕ → Tested
row_test n cols a b = refuse (ltb b a || ltb (length cols) b) Pointer else columns_test n (part a b cols)

-- 4 and 5: the first bad row decides
unfoldable pub rows_test : ℕ → ℕ → List ℕ → List ℕ → Tested
rows_test rows n ptrs cols = first_of rows (λ i. row_test n cols (get_or ptrs i 0) (get_or ptrs (i + 1) 0))

-- 6, a value is p or more; 7, a stored zero
unfoldable pub value_test : Clause → ℕ → ℕ → Tested
value_test Residue p v = refuse (leb p v) Value
value_test Nonzero p v = refuse (eqb v 0) Zero

unfoldable pub values_test : Clause → ℕ → List ℕ → Tested
values_test c p vals = first_of (length vals) (λ k. value_test c p (get_or vals k 0))

unfoldable pub rows_values_test : Clause → ℕ → ℕ → List ℕ → List ℕ → Tested
rows_values_test c p rows ptrs vals = first_of rows (λ i. values_test c p (row ptrs vals i))

-- 3 to 6
unfoldable pub matrix_test : ℕ → Matrix → Tested
matrix_test p m =
    lowest
    (shape_test m
    ∷ rows_test m.nrows m.ncols m.row_ptrs m.col_idcs
    ∷ rows_values_test Residue p m.nrows m.row_ptrs m.values
    ∷ [])

-- well formed: none of 1 to 6 applies
unfoldable pub well_formed : ℕ → ℕ → Matrix → Tested
well_formed limit p m = lowest (modulus_test p ∷ size_test limit m.nrows m.ncols (length m.values) ∷ matrix_test p m ∷ [])

-- clean: 7 doesn't apply either
unfoldable pub clean : ℕ → ℕ → Matrix → Tested
clean limit p m = lowest (well_formed limit p m ∷ rows_values_test Nonzero p m.nrows m.row_ptrs m.values ∷ [])

-- a vector is tested as one row whose column count is its length
unfoldable pub one_row : ℕ → List ℕ → List ℕ → Matrix
one_row len idcs vals = matrix 1 len (0 ∷ length vals ∷ []) idcs vals

unfoldable pub well_formed_vector : ℕ → ℕ → ℕ → List ℕ → List ℕ → Tested
well_formed_vector limit p len idcs vals = well_formed limit p (one_row len idcs vals)
