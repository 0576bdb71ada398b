-- Inserting columns in a reducer, computed by the definition: N10, pivots that move, and which number is given.
-- Assumes nothing.
use Rattle.std.specs.Prelude.{Err, Ok}
use mathlib.Core.Path.{◌≡◌, refl}
use mathlib.Core.List.{List, [], ◌∷◌}
use Prim.Native.Nat.{ℕ}
use Rattle.lists.specs.Find.{any, count, least}
use Rattle.lists.specs.Onto.{◌onto◌}
use Rattle.lists.specs.Table.{table}
use Rattle.field.specs.Prime.{is_modulus, is_prime, largest}
use Rattle.sparse.specs.Lent.{outcome, unless}
use Rattle.sparse.specs.Matrix.{part, row}
use Rattle.sparse.specs.Pivots.{mark}
use Rattle.sparse.specs.Refusals.{refuse, ◌else◌, lowest, first_of}
use Rattle.sparse.specs.Tests.{modulus_test, size_test, shape_test, column_test, columns_test, row_test, rows_test, value_test, values_test, rows_values_test, matrix_test, well_formed, clean}
use Rattle.sparse.specs.declared.Refusal.TheVariants.{Size, Mismatch, Positions, State}
use Rattle.columns.specs.Positions.{in_order, position_test, positions_test, moved}
use Rattle.state.specs.Fresh.{counts}
use Rattle.state.specs.Memory.{Memory, memory, at_most, places}
use Rattle.state.specs.State.{head_of, headless, misplaced, u_fault, u_lost, u_rows, u_of, crooked, pattern_fault, values_fault, l_fault, state_test}
use Rattle.state.specs.declared.Mode.TheVariants.{Full}
use Rattle.widening.specs.AddCols.{old_column, spread_at, spread, wider_counts, width_test, add_cols_test, widened, add_cols}

-- N10: three columns, positions 0 and 3: column 2 becomes 3 with its pivot, five columns; what stands past the fill and
-- past the five columns stays
pub n10 : add_cols (counts Full 7 3 1 1 1 1) (0 ∷ 3 ∷ []) (memory (2 ∷ 2 ∷ []) (1 ∷ []) (0 ∷ 1 ∷ []) (0 ∷ []) (4 ∷ []) (0 ∷ 1 ∷ []) (4294967295 ∷ 4294967295 ∷ 0 ∷ 8 ∷ 8 ∷ 8 ∷ []))
    ≡ outcome (Ok (counts Full 7 5 1 1 1 1)) (memory (3 ∷ 2 ∷ []) (1 ∷ []) (0 ∷ 1 ∷ []) (0 ∷ []) (4 ∷ []) (0 ∷ 1 ∷ []) (4294967295 ∷ 4294967295 ∷ 4294967295 ∷ 0 ∷ 4294967295 ∷ 8 ∷ []))
unfolding add_cols unless add_cols_test lowest ◌else◌ modulus_test refuse is_modulus is_prime any largest width_test size_test positions_test position_test in_order first_of state_test u_of u_rows u_lost places at_most u_fault clean well_formed matrix_test shape_test rows_test row_test columns_test column_test rows_values_test values_test value_test part row headless head_of misplaced mark l_fault pattern_fault crooked values_fault widened wider_counts moved count spread spread_at old_column least table ◌onto◌
n10 = refl

-- U and the pivot table of N4 with a new column before column 1 and one before column 2: pivots 0, 2, 1 go to columns 0, 2, 4
pub n4_wider : widened (counts Full 7 3 3 5 0 0) (1 ∷ 2 ∷ []) (memory (0 ∷ 1 ∷ 2 ∷ 1 ∷ 2 ∷ []) (1 ∷ 2 ∷ 1 ∷ 1 ∷ 5 ∷ []) (0 ∷ 2 ∷ 3 ∷ 5 ∷ []) [] [] [] (0 ∷ 2 ∷ 1 ∷ 0 ∷ 0 ∷ []))
    ≡ memory (0 ∷ 2 ∷ 4 ∷ 2 ∷ 4 ∷ []) (1 ∷ 2 ∷ 1 ∷ 1 ∷ 5 ∷ []) (0 ∷ 2 ∷ 3 ∷ 5 ∷ []) [] [] [] (0 ∷ 4294967295 ∷ 2 ∷ 4294967295 ∷ 1 ∷ [])
unfolding widened moved count spread spread_at old_column least mark table ◌onto◌
n4_wider = refl

-- equal positions would insert two columns before one: the table is defined for them too
pub two_before_one : spread 3 (1 ∷ 1 ∷ []) (0 ∷ 2 ∷ 1 ∷ 0 ∷ 0 ∷ []) ≡ 0 ∷ 4294967295 ∷ 4294967295 ∷ 2 ∷ 1 ∷ []
unfolding moved count spread spread_at old_column least mark table ◌onto◌
two_before_one = refl

-- memory that is no state, with a pivot table of so many columns
abbrev nonsense : List ℕ → Memory
nonsense pivots = memory [] [] [] [] [] [] pivots

-- 2 before 12: 1,024 columns and a position above them
pub too_wide : add_cols_test (counts Full 7 1024 0 0 0 0) (2000 ∷ []) (nonsense []) ≡ Err Size
unfolding add_cols_test lowest ◌else◌ modulus_test refuse is_modulus is_prime any largest width_test size_test
too_wide = refl

-- 11 before 12: a pivot table that is long enough for the old columns only, and positions that fall
pub table_short : add_cols_test (counts Full 7 2 0 0 0 0) (1 ∷ 0 ∷ []) (nonsense (0 ∷ 0 ∷ 0 ∷ [])) ≡ Err Mismatch
unfolding add_cols_test lowest ◌else◌ modulus_test refuse is_modulus is_prime any largest width_test size_test
table_short = refl

-- 12 before 13: the same with a longer table
pub positions_fall : add_cols_test (counts Full 7 2 0 0 0 0) (1 ∷ 0 ∷ []) (nonsense (0 ∷ 0 ∷ 0 ∷ 0 ∷ [])) ≡ Err Positions
unfolding add_cols_test lowest ◌else◌ modulus_test refuse is_modulus is_prime any largest width_test size_test positions_test position_test in_order first_of
positions_fall = refl

-- 13 at last
pub no_state : add_cols_test (counts Full 7 2 0 0 0 0) (0 ∷ 1 ∷ []) (nonsense (0 ∷ 0 ∷ 0 ∷ 0 ∷ [])) ≡ Err State
unfolding add_cols_test lowest ◌else◌ modulus_test refuse is_modulus is_prime any largest width_test size_test positions_test position_test in_order first_of state_test u_lost places at_most
no_state = refl
