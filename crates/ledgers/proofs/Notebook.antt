-- The notebook modulo 7 as our own account: N1 to N5, taken by `from_matrix`, leave the account that the check's notebook says yes to.
-- Assumes nothing.
use Rattle.std.specs.Prelude.{None, Some}
use mathlib.Core.Path.{◌≡◌, refl}
use mathlib.Core.Bool.{false}
use mathlib.Core.List.{List, [], ◌∷◌, flatten}
use Prim.Native.Nat.{ℕ}
use Rattle.lists.specs.Find.{any, least, count, keep}
use Rattle.lists.specs.Onto.{◌onto◌}
use Rattle.lists.specs.Sum.{Σ}
use Rattle.lists.specs.Table.{table}
use Rattle.field.specs.Inverse.{inverse}
use Rattle.field.specs.Prime.{is_prime, largest, is_modulus}
use Rattle.sparse.specs.Lent.{unless}
use Rattle.sparse.specs.Matrix.{Matrix, matrix, part, row, value_in}
use Rattle.sparse.specs.Pivots.{mark}
use Rattle.sparse.specs.Put.{cols_of, values_of}
use Rattle.sparse.specs.Refusals.{refuse, ◌else◌, lowest, first_of}
use Rattle.sparse.specs.Rows.{entry, entries, rows_of, offset, compressed}
use Rattle.sparse.specs.Tests.{clean, well_formed, matrix_test, rows_values_test, values_test, value_test, rows_test, row_test, columns_test, column_test, shape_test, size_test, modulus_test}
use Rattle.state.specs.Fresh.{counts, keeps, start_test, started}
use Rattle.state.specs.Memory.{memory, at_most, places}
use Rattle.state.specs.Room.{u_full, pattern_full, l_full, room_test}
use Rattle.state.specs.declared.Counts.{Counts}
use Rattle.state.specs.declared.Mode.TheVariants.{Full}
use Rattle.walk.specs.Step.{upper, pivot_at, is_none, subtract, accept, stopped, at, climb, divided, ended, start, walked, copied, direct, step}
use Rattle.steps.specs.History.{at_once, Told, told}
use Rattle.taking.specs.Stores.{with_u, with_l, kept_entries}
use Rattle.writing.specs.Puts.{put_at}
use Rattle.stepping.specs.Take.{cleared, room_asked, step_of, counts_after, stored, took, row_step}
use Rattle.telling.specs.Answers.{none, number}
use Rattle.telling.specs.Runs.{run}
use Rattle.telling.specs.Runs as Runs
use Rattle.telling.specs.declared.Reduced.TheVariants.{Taken}
use Rattle.running.specs.Rows.{counted, next_row, then_row, take_rows, Night, night}
use Rattle.batches.specs.Batch.{take_matrix, restarted, take_anew}
use Rattle.batches.specs.Tests.{short_test}
use Rattle.anew.specs.Calls.{from_matrix_test, from_matrix}
use Rattle.accounts.specs.Account.{account}
use Rattle.ledgers.specs.Own.{account_of}

-- (2,4,0), (3,6,5), (1,2,6), (0,3,1), (1,0,0)
abbrev rows : Matrix
rows = matrix 5 3 (0 ∷ 2 ∷ 5 ∷ 8 ∷ 10 ∷ 11 ∷ []) (0 ∷ 1 ∷ 0 ∷ 1 ∷ 2 ∷ 0 ∷ 1 ∷ 2 ∷ 1 ∷ 2 ∷ 0 ∷ []) (2 ∷ 4 ∷ 3 ∷ 6 ∷ 5 ∷ 1 ∷ 2 ∷ 6 ∷ 3 ∷ 1 ∷ 1 ∷ [])

abbrev zeros : List ℕ
zeros = 0 ∷ 0 ∷ 0 ∷ 0 ∷ 0 ∷ 0 ∷ 0 ∷ 0 ∷ 0 ∷ []

-- what is lent, and the counts afterwards
abbrev lent : Night
lent = night (memory zeros zeros zeros zeros zeros zeros zeros) zeros zeros

abbrev after : Counts
after = counts Full 7 3 3 5 4 6

-- the rows taken and their answers
abbrev ts : List Told
ts =
    told (entry 0 2 ∷ entry 1 4 ∷ []) (Some 0)
    ∷ told (entry 0 3 ∷ entry 1 6 ∷ entry 2 5 ∷ []) (Some 2)
    ∷ told (entry 0 1 ∷ entry 1 2 ∷ entry 2 6 ∷ []) None
    ∷ told (entry 1 3 ∷ entry 2 1 ∷ []) (Some 1)
    ∷ told (entry 0 1 ∷ []) None
    ∷ []

pub n1_to_n5 : ((from_matrix false false 7 Full rows lent).answer ≡ Taken (run 5 after))
    × (account_of 7 3 ts after (from_matrix false false 7 Full rows lent).memory.memory
    ≡ account 7 rows (0 ∷ 2 ∷ none ∷ 1 ∷ none ∷ []) (memory (0 ∷ 1 ∷ 2 ∷ 1 ∷ 2 ∷ []) (1 ∷ 2 ∷ 1 ∷ 1 ∷ 5 ∷ []) (0 ∷ 2 ∷ 3 ∷ 5 ∷ []) (0 ∷ 0 ∷ 1 ∷ 0 ∷ 1 ∷ 2 ∷ []) (2 ∷ 3 ∷ 5 ∷ 1 ∷ 6 ∷ 3 ∷ []) (0 ∷ 1 ∷ 3 ∷ 5 ∷ 6 ∷ []) (0 ∷ 2 ∷ 1 ∷ 0 ∷ 0 ∷ 0 ∷ 0 ∷ 0 ∷ 0 ∷ [])))
unfolding account_of compressed offset flatten from_matrix from_matrix_test short_test unless clean well_formed matrix_test rows_values_test values_test value_test rows_test row_test columns_test column_test shape_test size_test modulus_test refuse ◌else◌ lowest first_of part row is_prime largest is_modulus any start_test keeps take_anew take_matrix restarted started take_rows then_row next_row counted Runs.ended room_asked at_once room_test at_most places row_step took step_of stored counts_after step direct copied walked ended start divided climb at stopped accept subtract is_none pivot_at mark inverse least count keep Σ table value_in cols_of values_of upper with_u with_l kept_entries put_at ◌onto◌ cleared number none entries rows_of u_full l_full pattern_full
n1_to_n5 = (refl, refl)
