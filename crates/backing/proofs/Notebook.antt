-- Back substitution computed by the definition: N6, rows that fill their room, and which number is given.
-- Assumes nothing.
use Rattle.std.specs.Prelude.{Err, Ok}
use mathlib.Core.Path.{◌≡◌, refl}
use mathlib.Core.List.{[], ◌∷◌, flatten}
use Rattle.field.specs.Inverse.{inverse}
use Rattle.field.specs.Prime.{is_modulus, is_prime, largest}
use Rattle.lists.specs.Find.{any, count, keep, least}
use Rattle.lists.specs.Onto.{◌onto◌}
use Rattle.lists.specs.Sum.{Σ}
use Rattle.lists.specs.Table.{table}
use Rattle.sparse.specs.Lent.{lent, outcome, room_test, unless}
use Rattle.sparse.specs.Matrix.{part, row, value_in}
use Rattle.sparse.specs.Pivots.{mark}
use Rattle.sparse.specs.Put.{cols_of, values_of, put_rows}
use Rattle.sparse.specs.Refusals.{refuse, ◌else◌, lowest, first_of}
use Rattle.sparse.specs.Rows.{entries, rows_of, row_at, offset}
use Rattle.sparse.specs.Tests.{modulus_test, size_test, shape_test, column_test, columns_test, row_test, rows_test, value_test, values_test, rows_values_test, matrix_test, well_formed, clean}
use Rattle.sparse.specs.declared.Refusal.TheVariants.{Mismatch, State, Room}
use Rattle.state.specs.Fresh.{counts}
use Rattle.state.specs.Memory.{Memory, memory, at_most, places}
use Rattle.state.specs.State.{head_of, headless, misplaced, u_fault, u_lost, u_rows, u_of, crooked, pattern_fault, values_fault, l_fault, state_test}
use Rattle.state.specs.declared.Mode.TheVariants.{Full, None}
use Rattle.walk.specs.Step.{pivot_at, is_none, subtract, accept, stopped, at, climb, divided, ended, start, walked, copied, direct, step}
use Rattle.steps.specs.History.{at_once, answered, placed, extended}
use Rattle.steps.specs.Setting.{with_last}
use Rattle.stepping.specs.Take.{cleared}
use Rattle.reduced.specs.Building.{finished}
use Rattle.reduced.specs.Order.{pivot_columns}
use Rattle.backing.specs.Back.{down_row, back_row, back_rows, back_pivots, back_test, back_counts, backing, backed, back_substitute}

-- N4's U, (1,2,0), (0,0,1), (0,1,5) with pivots 0, 2, 1, and its L
abbrev n4 : Memory
n4 = memory (0 ∷ 1 ∷ 2 ∷ 1 ∷ 2 ∷ []) (1 ∷ 2 ∷ 1 ∷ 1 ∷ 5 ∷ []) (0 ∷ 2 ∷ 3 ∷ 5 ∷ []) (0 ∷ 0 ∷ 1 ∷ 0 ∷ 1 ∷ 2 ∷ []) (2 ∷ 3 ∷ 5 ∷ 1 ∷ 6 ∷ 3 ∷ []) (0 ∷ 1 ∷ 3 ∷ 5 ∷ 6 ∷ []) (0 ∷ 2 ∷ 1 ∷ 5 ∷ [])

-- N6: (0,0,1), (0,1,0), (1,0,0) with pivots 2, 1, 0, and no L; what stands past them stays
pub n6 : back_substitute (counts Full 7 3 3 5 4 6) n4 (lent (9 ∷ 9 ∷ 9 ∷ 9 ∷ 9 ∷ []) (8 ∷ 8 ∷ 8 ∷ 8 ∷ []) (8 ∷ 8 ∷ 8 ∷ [])) (6 ∷ 6 ∷ 6 ∷ 6 ∷ [])
    ≡ outcome (Ok (counts None 7 3 3 3 0 0)) (backing (2 ∷ 1 ∷ 0 ∷ 5 ∷ []) (lent (0 ∷ 1 ∷ 2 ∷ 3 ∷ 9 ∷ []) (2 ∷ 1 ∷ 0 ∷ 8 ∷ []) (1 ∷ 1 ∷ 1 ∷ [])) (0 ∷ 0 ∷ 0 ∷ 6 ∷ []))
unfolding back_substitute unless back_test lowest ◌else◌ modulus_test refuse is_modulus is_prime any largest size_test state_test u_of u_rows u_lost places at_most u_fault clean well_formed matrix_test shape_test rows_test row_test columns_test column_test rows_values_test values_test value_test part row headless head_of misplaced mark l_fault pattern_fault crooked values_fault first_of room_test backed back_counts back_pivots back_rows back_row down_row row_at rows_of entries put_rows offset cleared flatten pivot_columns finished extended placed with_last answered at_once step direct copied walked ended start divided climb at stopped accept subtract is_none pivot_at inverse least count keep Σ table value_in cols_of values_of ◌onto◌
n6 = refl

-- (1,2,3), (0,1,4): their reduced rows (0,1,4), (1,0,2) fill the four places that 14 asks for
pub two_rows : back_substitute (counts None 7 3 2 5 0 0) (memory (0 ∷ 1 ∷ 2 ∷ 1 ∷ 2 ∷ []) (1 ∷ 2 ∷ 3 ∷ 1 ∷ 4 ∷ []) (0 ∷ 3 ∷ 5 ∷ []) [] [] [] (0 ∷ 1 ∷ 4294967295 ∷ [])) (lent (9 ∷ 9 ∷ 9 ∷ []) (8 ∷ 8 ∷ 8 ∷ 8 ∷ []) (8 ∷ 8 ∷ 8 ∷ 8 ∷ [])) (6 ∷ 6 ∷ 6 ∷ [])
    ≡ outcome (Ok (counts None 7 3 2 4 0 0)) (backing (1 ∷ 0 ∷ 4294967295 ∷ []) (lent (0 ∷ 2 ∷ 4 ∷ []) (1 ∷ 2 ∷ 0 ∷ 2 ∷ []) (1 ∷ 4 ∷ 1 ∷ 2 ∷ [])) (0 ∷ 0 ∷ 0 ∷ []))
unfolding back_substitute unless back_test lowest ◌else◌ modulus_test refuse is_modulus is_prime any largest size_test state_test u_of u_rows u_lost places at_most u_fault clean well_formed matrix_test shape_test rows_test row_test columns_test column_test rows_values_test values_test value_test part row headless head_of misplaced mark l_fault pattern_fault crooked values_fault first_of room_test backed back_counts back_pivots back_rows back_row down_row row_at rows_of entries put_rows offset cleared flatten pivot_columns finished extended placed with_last answered at_once step direct copied walked ended start divided climb at stopped accept subtract is_none pivot_at inverse least count keep Σ table value_in cols_of values_of ◌onto◌
two_rows = refl

-- 14: N4 with two value places
pub no_room : back_test (6 ∷ 6 ∷ 6 ∷ []) (counts Full 7 3 3 5 4 6) n4 (lent (9 ∷ 9 ∷ 9 ∷ 9 ∷ []) (8 ∷ 8 ∷ 8 ∷ []) (8 ∷ 8 ∷ [])) ≡ Err Room
unfolding back_test lowest ◌else◌ modulus_test refuse is_modulus is_prime any largest size_test state_test u_of u_rows u_lost places at_most u_fault clean well_formed matrix_test shape_test rows_test row_test columns_test column_test rows_values_test values_test value_test part row headless head_of misplaced mark l_fault pattern_fault crooked values_fault first_of room_test
no_room = refl

-- 13 before 14: N4 with a fill that is not its last pointer, and no memory lent
pub no_state : back_test (6 ∷ 6 ∷ 6 ∷ []) (counts Full 7 3 3 4 4 6) n4 (lent [] [] []) ≡ Err State
unfolding back_test lowest ◌else◌ modulus_test refuse is_modulus is_prime any largest size_test state_test u_of u_rows u_lost places at_most u_fault clean well_formed matrix_test shape_test rows_test row_test columns_test column_test rows_values_test values_test value_test part row headless head_of misplaced mark l_fault pattern_fault crooked values_fault first_of room_test
no_state = refl

-- 11 before 13: the same with dense memory for two columns
pub dense_short : back_test (6 ∷ 6 ∷ []) (counts Full 7 3 3 4 4 6) n4 (lent [] [] []) ≡ Err Mismatch
unfolding back_test lowest ◌else◌ modulus_test refuse is_modulus is_prime any largest size_test state_test u_of u_rows u_lost places at_most u_fault clean well_formed matrix_test shape_test rows_test row_test columns_test column_test rows_values_test values_test value_test part row headless head_of misplaced mark l_fault pattern_fault crooked values_fault first_of room_test
dense_short = refl
