-- The public calls that take rows where a reducer stands: each is a run of single steps, and a refused one leaves all as it came.
-- Assumes nothing.
use Rattle.std.specs.Prelude.{Err, Ok}
use mathlib.Core.Path.{◌≡◌, refl}
use mathlib.Core.Bool.{Bool, false}
use mathlib.Core.List.{List, [], ◌∷◌}
use Prim.Native.Nat.{ℕ, ◌≤◌, ◌<◌}
use native.Mathlib.Omega.{arith}
use lib.ListN.{length, get_or}
use Rattle.sparse.specs.Refusals.{Tested}
use Rattle.lists.specs.Onto.{◌onto◌}
use Rattle.sparse.specs.Lent.{Outcome, outcome, unless}
use Rattle.sparse.specs.Matrix.{Matrix}
use Rattle.sparse.specs.Rows.{Entry, entries, rows_of}
use Rattle.sparse.specs.declared.Refusal.{Refusal}
use Rattle.sparse.proofs.Firsts.{lowest_good}
use Rattle.state.specs.Memory.{Memory}
use Rattle.state.specs.declared.Counts.{Counts}
use Rattle.steps.specs.History.{told}
use Rattle.steps.specs.Rows.{CleanRow}
use Rattle.stepping.specs.Take.{Lists, room_asked, row_step, step_row}
use Rattle.stepping.specs.declared.Stepped.{Stepped}
use Rattle.adding.specs.AddRow.{answered_with, take_row, add_row}
use Rattle.adding.specs.RowTests.{add_row_test}
use Rattle.adding.proofs.Takes.{add_takeable}
use Rattle.telling.specs.declared.Run.{Run}
use Rattle.running.specs.Rows.{written, Night}
use Rattle.running.proofs.Folds.{rows_many}
use Rattle.batches.specs.Asks.{Begins}
use Rattle.batches.specs.Batch.{take_matrix}
use Rattle.batches.proofs.Batches.{enough}
use Rattle.matrices.specs.Calls.{add_matrix}
use Rattle.matrices.specs.Tests.{add_matrix_test}
use Rattle.matrices.proofs.Nights.{add_begins}
use Rattle.nights.proofs.Anews.{rows_clean}
use Rattle.nights.proofs.Folds.{run_in}
use Rattle.strides.specs.Strides.{Strides, still, stride, numbers_of, Appended}
use Rattle.strides.proofs.Folds.{rows_strides}
use Rattle.strides.proofs.Runs.{appended_few}

-- a refusal leaves all lent memory as it came
pub refused_stays : {A M : Type 0} (refused : Refusal → A) {t : Tested} (m : M) (o : Outcome A M) {why : Refusal} → t ≡ Err why → unless refused t m o ≡ outcome (refused why) m
unfolding unless
refused_stays refused m o e = rw e

-- a clean row taken where there is room, answered so and to these lists
pub record Single (on : Bool) (c : Counts) (es : List Entry) (m : Memory) (s : Stepped) (k : Memory) : Type 0 where
  pub row : CleanRow c.modulus c.ncols es
  pub room : room_asked c es m ≡ Ok tt
  pub answer : (row_step on c es m).answer ≡ s
  pub memory : (row_step on c es m).memory ≡ k

-- one row, in either walk
module _ (on : Bool) (c : Counts) (cols vals : List ℕ) (o : Lists) where
  -- answered: it was taken
  pub add_row_single : (s : Stepped) → (add_row on c cols vals o).answer ≡ Ok s → Single on c (entries cols vals) o.memory s (add_row on c cols vals o).memory.memory
  unfolding add_row take_row unless answered_with step_row
  add_row_single s = go (add_row_test c cols vals o.dense o.memory) refl (room_asked c (entries cols vals) o.memory) refl
    where
      go : (t : Tested) → add_row_test c cols vals o.dense o.memory ≡ t → (r : Tested) → room_asked c (entries cols vals) o.memory ≡ r
          → (unless Err t o (unless Err r o (answered_with (step_row on c (entries cols vals) o)))).answer ≡ Ok s
          → Single on c (entries cols vals) o.memory s (unless Err t o (unless Err r o (answered_with (step_row on c (entries cols vals) o)))).memory.memory
      go (Err why) e r f q = let z : ◌≡◌ {A = ℕ} 0 1 = cc in absurd (omega arith)
      go (Ok _) e (Err why) f q = let z : ◌≡◌ {A = ℕ} 0 1 = cc in absurd (omega arith)
      go (Ok _) e (Ok _) f q =
          let same : (row_step on c (entries cols vals) o.memory).answer ≡ s = cc in
          record { row = (add_takeable c cols vals o e f).row.clean; room = f; answer = same; memory = refl }

  pub add_row_strides : (s : Stepped) → (add_row on c cols vals o).answer ≡ Ok s → Strides c.modulus c.ncols c o.memory (told (entries cols vals) s.answer ∷ []) s.counts (add_row on c cols vals o).memory.memory
  add_row_strides s e =
      let x = add_row_single s e in
      let one = stride [] c o.memory still on (entries cols vals) x.row x.room in
      rw (← x.answer, ← x.memory) one

  -- refused: all is as it came
  pub add_row_stays : (why : Refusal) → (add_row on c cols vals o).answer ≡ Err why → (add_row on c cols vals o).memory ≡ o
  unfolding add_row take_row unless answered_with
  add_row_stays why = go (add_row_test c cols vals o.dense o.memory) (room_asked c (entries cols vals) o.memory)
    where
      go : (t r : Tested) → (unless Err t o (unless Err r o (answered_with (step_row on c (entries cols vals) o)))).answer ≡ Err why
          → (unless Err t o (unless Err r o (answered_with (step_row on c (entries cols vals) o)))).memory ≡ o
      go (Err w) r q = refl
      go (Ok _) (Err w) q = refl
      go (Ok _) (Ok _) q = let z : ◌≡◌ {A = ℕ} 0 1 = cc in absurd (omega arith)

-- many rows, by `add_matrix`, whatever ends it
pub add_matrix_strides : (on : Bool) (d : Run) (c : Counts) (a : Matrix) (w : Night) → add_matrix_test c a w.dense w.answers w.memory ≡ Ok tt
    → Appended c.modulus c.ncols c w.memory (rows_of a) w.answers (run_in d (add_matrix on c a w).answer) (written (add_matrix on c a w).memory.memory (add_matrix on c a w).memory.answers)
unfolding add_matrix unless take_matrix
add_matrix_strides on d c a w good =
    let b : Begins c a w = add_begins c a w good in
    let each : (i : ℕ) → i < length (rows_of a) → CleanRow c.modulus c.ncols (get_or (rows_of a) i []) = λ i h. rw (← b.fits.columns) (rows_clean c.modulus a b.fits.rows i h) in
    rw good (rows_strides on false d c w.memory (rows_of a) each w.answers).appended

-- its answers' numbers stand at the front of answer memory
pub add_matrix_numbers : (on : Bool) (d : Run) (c : Counts) (a : Matrix) (w : Night) (good : add_matrix_test c a w.dense w.answers w.memory ≡ Ok tt) → (add_matrix on c a w).memory.answers ≡ numbers_of (add_matrix_strides on d c a w good).new onto w.answers
add_matrix_numbers on d c a w good =
    let x = add_matrix_strides on d c a w good in
    let long : a.nrows ≤ length w.answers = (unfold add_matrix_test in (enough a.nrows a.ncols w.dense w.answers w.memory.pivots (lowest_good _ _ (lowest_good _ _ good).1).0).answers_long) in
    x.numbers (omega (arith, appended_few x, rows_many a, long))
