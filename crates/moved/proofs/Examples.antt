-- Worked examples modulo 7: what the definitions say of small matrices.
-- Assumes nothing.
use Rattle.std.specs.Prelude.{Err, Ok}
use mathlib.Core.Path.{◌≡◌, refl}
use mathlib.Core.List.{[], ◌∷◌, flatten}
use Rattle.lists.specs.Find.{any, count, keep}
use Rattle.lists.specs.Onto.{◌onto◌}
use Rattle.lists.specs.Table.{table}
use Rattle.field.specs.Prime.{is_prime, largest, is_modulus}
use Rattle.sparse.specs.Lent.{lent, room_test, outcome, unless}
use Rattle.sparse.specs.Matrix.{matrix, part, row}
use Rattle.sparse.specs.Pivots.{mark, named, pivots_test}
use Rattle.sparse.specs.Put.{cols_of, values_of, put_rows, putting}
use Rattle.sparse.specs.Refusals.{refuse, ◌else◌, lowest, first_of}
use Rattle.sparse.specs.Rows.{entries, rows_of, row_at, offset}
use Rattle.sparse.specs.Tests.{modulus_test, size_test, shape_test, column_test, columns_test, row_test, rows_test, value_test, values_test, rows_values_test, matrix_test, well_formed}
use Rattle.sparse.specs.declared.Refusal.TheVariants.{Mismatch, Positions}
use Rattle.pivots.specs.Tables.{table_test}
use Rattle.moves.specs.Moves.{sort_rows_by_pivot, half, odd, right_of, reversed_right, take_rev_test, take_rev_right_half}

-- rows (1,0,2) and (0,3,0), pivots 1, none, 0: the second row comes first, and what stands past the result is kept
pub by_pivot_lem : sort_rows_by_pivot 7 (matrix 2 3 (0 ∷ 2 ∷ 3 ∷ []) (0 ∷ 2 ∷ 1 ∷ []) (1 ∷ 2 ∷ 3 ∷ [])) (1 ∷ 4294967295 ∷ 0 ∷ []) (lent (9 ∷ 9 ∷ 9 ∷ 9 ∷ []) (9 ∷ 9 ∷ 9 ∷ 9 ∷ []) (9 ∷ 9 ∷ 9 ∷ []))
    ≡ outcome (Ok 3) (lent (0 ∷ 1 ∷ 3 ∷ 9 ∷ []) (1 ∷ 0 ∷ 2 ∷ 9 ∷ []) (3 ∷ 1 ∷ 2 ∷ []))
unfolding sort_rows_by_pivot table_test putting put_rows unless lowest ◌else◌ refuse first_of modulus_test is_modulus is_prime largest any size_test matrix_test shape_test rows_test row_test columns_test column_test rows_values_test values_test value_test part row row_at rows_of entries table named keep mark count pivots_test room_test cols_of values_of flatten offset ◌onto◌
by_pivot_lem = refl

-- a table that names row 0 twice: 12, and the memory as it came
pub named_twice : sort_rows_by_pivot 7 (matrix 2 3 (0 ∷ 2 ∷ 3 ∷ []) (0 ∷ 2 ∷ 1 ∷ []) (1 ∷ 2 ∷ 3 ∷ [])) (1 ∷ 0 ∷ 0 ∷ []) (lent (9 ∷ 9 ∷ 9 ∷ []) (9 ∷ 9 ∷ 9 ∷ []) (9 ∷ 9 ∷ 9 ∷ []))
    ≡ outcome (Err Positions) (lent (9 ∷ 9 ∷ 9 ∷ []) (9 ∷ 9 ∷ 9 ∷ []) (9 ∷ 9 ∷ 9 ∷ []))
unfolding sort_rows_by_pivot table_test putting put_rows unless lowest ◌else◌ refuse first_of modulus_test is_modulus is_prime largest any size_test matrix_test shape_test rows_test row_test columns_test column_test rows_values_test values_test value_test part row row_at rows_of entries table named keep mark count pivots_test room_test cols_of values_of flatten offset ◌onto◌
named_twice = refl

-- rows (1,0,5,0) and (0,2,3,4): the right half reversed is (3,4), (5,0)
pub right : take_rev_right_half 7 (matrix 2 4 (0 ∷ 2 ∷ 5 ∷ []) (0 ∷ 2 ∷ 1 ∷ 2 ∷ 3 ∷ []) (1 ∷ 5 ∷ 2 ∷ 3 ∷ 4 ∷ [])) (lent (9 ∷ 9 ∷ 9 ∷ 9 ∷ []) (9 ∷ 9 ∷ 9 ∷ 9 ∷ []) (9 ∷ 9 ∷ 9 ∷ []))
    ≡ outcome (Ok 3) (lent (0 ∷ 2 ∷ 3 ∷ 9 ∷ []) (0 ∷ 1 ∷ 0 ∷ 9 ∷ []) (3 ∷ 4 ∷ 5 ∷ []))
unfolding take_rev_right_half take_rev_test reversed_right right_of half odd well_formed putting put_rows unless lowest ◌else◌ refuse first_of modulus_test is_modulus is_prime largest any size_test matrix_test shape_test rows_test row_test columns_test column_test rows_values_test values_test value_test part row row_at rows_of entries table keep room_test cols_of values_of flatten offset ◌onto◌
right = refl

-- three columns have no halves: 11
pub no_half : take_rev_right_half 7 (matrix 0 3 (0 ∷ []) [] []) (lent [] [] []) ≡ outcome (Err Mismatch) (lent [] [] [])
unfolding take_rev_right_half take_rev_test reversed_right right_of half odd well_formed putting put_rows unless lowest ◌else◌ refuse first_of modulus_test is_modulus is_prime largest any size_test matrix_test shape_test rows_test row_test columns_test column_test rows_values_test values_test value_test part row row_at rows_of entries table keep room_test cols_of values_of flatten offset ◌onto◌
no_half = refl
