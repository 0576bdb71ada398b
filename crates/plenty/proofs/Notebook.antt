-- The notebook modulo 7, two rows of two columns: what is plenty, and that one place less is not.
-- Assumes nothing.
use mathlib.Core.Path.{◌≡◌, refl}
use mathlib.Core.Bool.{false}
use mathlib.Core.List.{List, [], ◌∷◌}
use Prim.Native.Nat.{ℕ}
use native.Mathlib.Omega.{arith}
use Rattle.lists.specs.Find.{any, least, count, keep}
use Rattle.lists.specs.Onto.{◌onto◌}
use Rattle.lists.specs.Sum.{Σ}
use Rattle.lists.specs.Table.{table}
use Rattle.field.specs.Inverse.{inverse}
use Rattle.sparse.specs.Lent.{unless}
use Rattle.sparse.specs.Matrix.{Matrix, matrix, part, row, value_in}
use Rattle.sparse.specs.Pivots.{mark}
use Rattle.sparse.specs.Put.{cols_of, values_of}
use Rattle.sparse.specs.Refusals.{refuse}
use Rattle.sparse.specs.Rows.{entries, rows_of}
use Rattle.sparse.specs.declared.Refusal.TheVariants.{Room}
use Rattle.state.specs.Fresh.{counts, keeps, started}
use Rattle.state.specs.Memory.{memory, at_most, places}
use Rattle.state.specs.Room.{u_full, pattern_full, l_full, room_test}
use Rattle.state.specs.declared.Mode.TheVariants.{Full}
use Rattle.walk.specs.Step.{upper, pivot_at, is_none, direct, copied, step}
use Rattle.steps.specs.History.{at_once}
use Rattle.taking.specs.Stores.{with_u, with_l, kept_entries}
use Rattle.writing.specs.Puts.{put_at}
use Rattle.stepping.specs.Take.{room_asked, step_of, counts_after, stored, took, row_step, cleared}
use Rattle.telling.specs.Answers.{number}
use Rattle.telling.specs.Runs.{run, stop, ended}
use Rattle.telling.specs.declared.Reduced.TheVariants.{Stopped}
use Rattle.running.specs.Rows.{counted, next_row, then_row, take_rows, night}
use Rattle.batches.specs.Batch.{take_matrix, restarted, take_anew}
use Rattle.plenty.specs.Plenty.{Plenty}

abbrev three : List ℕ
three = 0 ∷ 0 ∷ 0 ∷ []

abbrev four : List ℕ
four = 0 ∷ 0 ∷ 0 ∷ 0 ∷ []

pub plenty_here : Plenty Full 2 2 (memory four four three four four three three)
unfolding places at_most
plenty_here = record { u_cols = omega arith; u_vals = omega arith; u_ptrs = omega arith; l_cols = λ k. omega arith; l_vals = λ k. omega arith; l_ptrs = λ k. omega arith }

-- (1,1), (1,2)
abbrev rows : Matrix
rows = matrix 2 2 (0 ∷ 2 ∷ 4 ∷ []) (0 ∷ 1 ∷ 0 ∷ 1 ∷ []) (1 ∷ 1 ∷ 1 ∷ 2 ∷ [])

-- the second row finds one place in U's columns
pub short_here : (take_anew false false 7 Full rows (night (memory three four three four four three three) three three)).answer ≡ Stopped (stop Room (run 1 (counts Full 7 2 1 2 1 1)))
unfolding take_anew take_matrix restarted started keeps take_rows then_row next_row counted ended unless refuse room_asked at_once room_test u_full l_full pattern_full at_most places row_step took step_of stored counts_after step direct copied is_none pivot_at mark inverse any least count keep Σ table part row value_in cols_of values_of upper with_u with_l kept_entries put_at ◌onto◌ cleared number entries rows_of
short_here = refl
