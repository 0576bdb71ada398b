-- The three calls on one matrix modulo 7: a stored zero is kept, and by pivot column an index may pass the row count.
-- Assumes nothing.
use Rattle.std.specs.Prelude.{Ok}
use mathlib.Core.Path.{◌≡◌, refl}
use mathlib.Core.List.{[], ◌∷◌, flatten}
use Rattle.field.specs.Prime.{is_modulus, is_prime, largest}
use Rattle.lists.specs.Find.{any, count, keep}
use Rattle.lists.specs.Onto.{◌onto◌}
use Rattle.lists.specs.Table.{table}
use Rattle.sparse.specs.Lent.{lent_vector, vector_room_test, outcome, unless}
use Rattle.sparse.specs.Matrix.{Matrix, matrix, part, row}
use Rattle.sparse.specs.Pivots.{mark, named, pivots_test}
use Rattle.sparse.specs.Put.{cols_of, values_of, putting_vector}
use Rattle.sparse.specs.Refusals.{refuse, ◌else◌, lowest, first_of}
use Rattle.sparse.specs.Rows.{entries, rows_of, row_at}
use Rattle.sparse.specs.Tests.{modulus_test, size_test, shape_test, column_test, columns_test, row_test, rows_test, value_test, values_test, rows_values_test, matrix_test, well_formed}
use Rattle.pivots.specs.Tables.{table_test}
use Rattle.lasts.specs.Lasts.{in_last, last_of, by_row, by_row_rev, by_pivot, last_column, last_column_rev, last_column_by_pivot}

-- rows (1, 0, 5) and (0, 0, 0), its last zero stored
abbrev small : Matrix
small = matrix 2 3 (0 ∷ 2 ∷ 3 ∷ []) (0 ∷ 2 ∷ 2 ∷ []) (1 ∷ 5 ∷ 0 ∷ [])

-- the table: row 1's pivot in column 0, none in column 1, row 0's in column 2
pub three_ways : (last_column 7 small (lent_vector (9 ∷ 9 ∷ 9 ∷ []) (8 ∷ 8 ∷ [])) ≡ outcome (Ok 2) (lent_vector (0 ∷ 1 ∷ 9 ∷ []) (5 ∷ 0 ∷ [])))
    × (last_column_rev 7 small (lent_vector (9 ∷ 9 ∷ 9 ∷ []) (8 ∷ 8 ∷ [])) ≡ outcome (Ok 2) (lent_vector (0 ∷ 1 ∷ 9 ∷ []) (0 ∷ 5 ∷ [])))
    × (last_column_by_pivot 7 small (1 ∷ 4294967295 ∷ 0 ∷ []) (lent_vector (9 ∷ 9 ∷ 9 ∷ []) (8 ∷ 8 ∷ [])) ≡ outcome (Ok 2) (lent_vector (0 ∷ 2 ∷ 9 ∷ []) (0 ∷ 5 ∷ [])))
unfolding last_column last_column_rev last_column_by_pivot table_test by_row by_row_rev by_pivot last_of in_last putting_vector unless lowest ◌else◌ refuse first_of well_formed modulus_test is_modulus is_prime any largest size_test matrix_test shape_test rows_test row_test columns_test column_test rows_values_test values_test value_test pivots_test named mark keep count vector_room_test cols_of values_of ◌onto◌ table flatten row_at rows_of entries row part
three_ways = (refl, refl, refl)
