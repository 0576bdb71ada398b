-- Worked examples modulo 7: the determinant beside the rank.
-- Assumes nothing.
use Rattle.std.specs.Prelude.{None, Some}
use mathlib.Core.Path.{◌≡◌, refl}
use mathlib.Core.List.{List, [], ◌∷◌}
use Prim.Native.Nat.{ℕ}
use Rattle.lists.specs.Find.{any, least, count, keep}
use Rattle.lists.specs.Onto.{◌onto◌}
use Rattle.lists.specs.Sum.{Σ}
use Rattle.lists.specs.Table.{table}
use Rattle.field.specs.Inverse.{inverse}
use Rattle.field.specs.Prime.{is_prime, largest, is_modulus}
use Rattle.sparse.specs.Lent.{unless}
use Rattle.sparse.specs.Matrix.{matrix, part, row, value_in}
use Rattle.sparse.specs.Pivots.{mark}
use Rattle.sparse.specs.Put.{cols_of, values_of}
use Rattle.sparse.specs.Refusals.{refuse, ◌else◌, lowest, first_of}
use Rattle.sparse.specs.Rows.{entries, rows_of}
use Rattle.sparse.specs.Tests.{clean, well_formed, matrix_test, rows_values_test, values_test, value_test, rows_test, row_test, columns_test, column_test, shape_test, size_test, modulus_test}
use Rattle.state.specs.Fresh.{counts, keeps, start_test, started}
use Rattle.state.specs.Memory.{memory, at_most, places}
use Rattle.state.specs.Room.{u_full, pattern_full, l_full, room_test}
use Rattle.state.specs.declared.Mode.TheVariants.{None}
use Rattle.walk.specs.Step.{upper, pivot_at, is_none, subtract, accept, stopped, at, climb, divided, ended, start, walked, copied, direct, step}
use Rattle.steps.specs.History.{at_once}
use Rattle.taking.specs.Stores.{with_u, with_l, kept_entries}
use Rattle.writing.specs.Puts.{put_at}
use Rattle.stepping.specs.Take.{cleared, room_asked, step_of, counts_after, stored, took, row_step}
use Rattle.telling.specs.Answers.{none, number}
use Rattle.telling.specs.Runs as Runs
use Rattle.running.specs.Rows.{counted, next_row, then_row, take_rows, night}
use Rattle.batches.specs.Batch.{take_matrix, restarted, take_anew}
use Rattle.determinant.specs.Det.{det_test, valued, determined, det}
use Rattle.signs.specs.Value.{last_of, product, greater, inverted, inversions, signed, value_of}
use Rattle.batches.specs.Tests.{short_test}
use Rattle.anew.specs.Calls.{from_matrix_test, from_matrix}
use Rattle.solving.specs.Solve.{worth_of, worth, afresh, solved_of, solve}
use Rattle.solving.specs.Solve as S
use Rattle.running.specs.Rows.{Night}

abbrev zeros : List ℕ
zeros = 0 ∷ 0 ∷ 0 ∷ 0 ∷ 0 ∷ 0 ∷ 0 ∷ 0 ∷ 0 ∷ []

abbrev lent : Night
lent = night (memory zeros zeros zeros zeros zeros zeros zeros) zeros zeros

-- (2,4,0), (3,6,5), (0,3,1): determinant 5, rank 3
pub whole : (solve 7 (matrix 3 3 (0 ∷ 2 ∷ 5 ∷ 7 ∷ []) (0 ∷ 1 ∷ 0 ∷ 1 ∷ 2 ∷ 1 ∷ 2 ∷ []) (2 ∷ 4 ∷ 3 ∷ 6 ∷ 5 ∷ 3 ∷ 1 ∷ [])) lent).answer ≡ solved_of (Some 5) (counts None 7 3 3 5 0 0)
unfolding solve worth worth_of afresh S.counts_after from_matrix from_matrix_test short_test det unless det_test clean well_formed matrix_test rows_values_test values_test value_test rows_test row_test columns_test column_test shape_test size_test modulus_test refuse ◌else◌ lowest first_of part row is_prime largest is_modulus any start_test keeps determined valued take_anew take_matrix restarted started take_rows then_row next_row counted Runs.ended room_asked at_once room_test at_most places row_step took step_of stored counts_after step direct copied walked ended start divided climb at stopped accept subtract is_none pivot_at mark inverse least count keep Σ table value_in cols_of values_of upper with_u with_l kept_entries put_at ◌onto◌ cleared number none entries rows_of last_of product greater inverted inversions signed value_of u_full l_full pattern_full
whole = refl

-- (1,0,0), (1,0,0), (0,1,0): the determinant's rows end at the second, which is answered None, and the rank counts the third too
pub dependent : (solve 7 (matrix 3 3 (0 ∷ 1 ∷ 2 ∷ 3 ∷ []) (0 ∷ 0 ∷ 1 ∷ []) (1 ∷ 1 ∷ 1 ∷ [])) lent).answer ≡ solved_of (Some 0) (counts None 7 3 2 2 0 0)
unfolding solve worth worth_of afresh S.counts_after from_matrix from_matrix_test short_test det unless det_test clean well_formed matrix_test rows_values_test values_test value_test rows_test row_test columns_test column_test shape_test size_test modulus_test refuse ◌else◌ lowest first_of part row is_prime largest is_modulus any start_test keeps determined valued take_anew take_matrix restarted started take_rows then_row next_row counted Runs.ended room_asked at_once room_test at_most places row_step took step_of stored counts_after step direct copied walked ended start divided climb at stopped accept subtract is_none pivot_at mark inverse least count keep Σ table value_in cols_of values_of upper with_u with_l kept_entries put_at ◌onto◌ cleared number none entries rows_of last_of product greater inverted inversions signed value_of u_full l_full pattern_full
dependent = refl

-- (1,2), one row: no determinant is asked for
pub oblong : (solve 7 (matrix 1 2 (0 ∷ 2 ∷ []) (0 ∷ 1 ∷ []) (1 ∷ 2 ∷ [])) lent).answer ≡ solved_of None (counts None 7 2 1 2 0 0)
unfolding solve worth worth_of afresh S.counts_after from_matrix from_matrix_test short_test det unless det_test clean well_formed matrix_test rows_values_test values_test value_test rows_test row_test columns_test column_test shape_test size_test modulus_test refuse ◌else◌ lowest first_of part row is_prime largest is_modulus any start_test keeps determined valued take_anew take_matrix restarted started take_rows then_row next_row counted Runs.ended room_asked at_once room_test at_most places row_step took step_of stored counts_after step direct copied walked ended start divided climb at stopped accept subtract is_none pivot_at mark inverse least count keep Σ table value_in cols_of values_of upper with_u with_l kept_entries put_at ◌onto◌ cleared number none entries rows_of last_of product greater inverted inversions signed value_of u_full l_full pattern_full
oblong = refl
