-- Worked examples modulo 7: small parts that pass the tests, so that what they make is well formed.
-- Assumes nothing.
use Rattle.std.specs.Prelude.{Ok}
use mathlib.Core.Path.{◌≡◌, refl}
use mathlib.Core.List.{[], ◌∷◌, ◌++◌}
use Rattle.lists.specs.Find.{any}
use Rattle.lists.specs.Table.{table}
use Rattle.field.specs.Prime.{is_prime, largest, is_modulus}
use Rattle.sparse.specs.Matrix.{Matrix, matrix, part, row}
use Rattle.sparse.specs.Refusals.{refuse, ◌else◌, lowest, first_of}
use Rattle.sparse.specs.Rows.{entries, rows_of, compressed}
use Rattle.sparse.specs.Tests.{modulus_test, size_test, shape_test, column_test, columns_test, row_test, rows_test, value_test, values_test, rows_values_test, matrix_test, well_formed}
use Rattle.joining.specs.Joined.{pairs_test}
use Rattle.beside.specs.Beside.{with_one, append_identity_test, with_column, append_col_test}
use Rattle.below.specs.Below.{lower, append_test, add_row_test}
use Rattle.joined.proofs.Below.{append-formed, added_well_formed}
use Rattle.joined.proofs.Beside.{identity_well_formed, column_well_formed}

-- rows (1,2) and (0,3)
abbrev small : Matrix
small = matrix 2 2 (0 ∷ 2 ∷ 3 ∷ []) (0 ∷ 1 ∷ 1 ∷ []) (1 ∷ 2 ∷ 3 ∷ [])

pub identity_beside : well_formed 65536 7 (compressed 4 (table 2 (with_one small))) ≡ Ok tt
unfolding append_identity_test lowest ◌else◌ refuse first_of modulus_test is_modulus is_prime largest any size_test matrix_test shape_test rows_test row_test columns_test column_test rows_values_test values_test value_test part row
identity_beside = identity_well_formed 7 small refl

-- the vector (0,6)
pub column_beside : well_formed 65536 7 (compressed 3 (table 2 (with_column small (entries (1 ∷ []) (6 ∷ []))))) ≡ Ok tt
unfolding append_col_test pairs_test lowest ◌else◌ refuse first_of modulus_test is_modulus is_prime largest any size_test shape_test rows_test row_test columns_test column_test rows_values_test values_test value_test part row
column_beside = column_well_formed 7 small 2 (1 ∷ []) (6 ∷ []) refl

pub itself_below : well_formed 65536 7 (compressed 2 (rows_of small ++ rows_of small)) ≡ Ok tt
unfolding append_test lower lowest ◌else◌ refuse first_of modulus_test is_modulus is_prime largest any size_test shape_test rows_test row_test columns_test column_test rows_values_test values_test value_test part row
itself_below = append-formed 7 small small refl

-- the row (0,6)
pub row_below : well_formed 65536 7 (compressed 2 (rows_of small ++ (entries (1 ∷ []) (6 ∷ []) ∷ []))) ≡ Ok tt
unfolding add_row_test pairs_test lowest ◌else◌ refuse first_of modulus_test is_modulus is_prime largest any size_test shape_test rows_test row_test columns_test column_test rows_values_test values_test value_test part row
row_below = added_well_formed 7 small (1 ∷ []) (6 ∷ []) refl
