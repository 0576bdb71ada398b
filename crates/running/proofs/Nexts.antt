-- One row more of a clean matrix: where it lies, that it is clean, and each outcome.
-- Assumes nothing.
use Rattle.std.specs.Prelude.{Err, Ok}
use mathlib.Core.Path.{◌≡◌, refl, sym, ap, ◌∙◌}
use mathlib.Core.Bool.{Bool}
use mathlib.Core.List.{List}
use Prim.Native.Nat.{ℕ, ◌+◌}
use lib.ListN.{set}
use Rattle.sparse.specs.Refusals.{Tested}
use Rattle.lists.specs.Table.{table}
use Rattle.sparse.specs.Lent.{Outcome, outcome, unless}
use Rattle.sparse.specs.Matrix.{Matrix, row}
use Rattle.sparse.specs.Rows.{Entry, entries, row_at}
use Rattle.sparse.specs.declared.Refusal.{Refusal}
use Rattle.state.specs.Memory.{Memory}
use Rattle.state.specs.declared.Counts.{Counts}
use Rattle.stepping.specs.Asks.{Offered, Ready}
use Rattle.stepping.specs.Take.{Lists, lists, room_asked, row_step, step_row}
use Rattle.stepping.specs.declared.Stepped.{Stepped}
use Rattle.stepping.proofs.MatrixRows.{Place, place, row_here, row_offered}
use Rattle.stepping.proofs.Clears.{cleared_zero}
use Rattle.adding.specs.AddRow.{answered_with, take_row, Added}
use Rattle.telling.specs.Answers.{number}
use Rattle.running.specs.Asks.{Offers, GoesOn}
use Rattle.running.specs.Rows.{Night, Written, written, counted, next_row}
use Rattle.telling.specs.Runs.{run, stop, ended}
use Rattle.telling.specs.declared.Reduced.{Reduced}
use Rattle.telling.specs.declared.Reduced.TheVariants.{Stopped}
use Rattle.telling.specs.declared.Run.{Run}

-- a row that is offered
module _ {c : Counts} {cols vals : List ℕ} {o : Lists} (s : Offers c cols vals o) where
  pub offers_ready : room_asked c (entries cols vals) o.memory ≡ Ok tt → Ready c cols vals o
  offers_ready room = record { stands = s.stands; row = s.row; room = room; zero = s.zero }

  module _ (on : Bool) {r : Tested} (asked : r ≡ room_asked c (entries cols vals) o.memory) where
    pub offers_refused : {why : Refusal} → r ≡ Err why → outcome (Err why) o ≡ take_row on c (entries cols vals) o
    unfolding take_row unless
    offers_refused e = rw (sym asked ∙ e)

    pub offers_taken : r ≡ Ok tt → {x : Stepped} {after : Lists} → outcome x after ≡ step_row on c (entries cols vals) o → outcome (Ok x) after ≡ take_row on c (entries cols vals) o
    unfolding take_row unless answered_with
    offers_taken e took = rw (sym asked ∙ e) (ap answered_with took)

-- what a row's outcome comes to in a call of many rows
unfoldable turned : Bool → Run → List ℕ → Added → Lists → Outcome (Outcome Reduced Written) (List ℕ)
turned check r answers (Err why) o = outcome (outcome (Stopped (stop why r)) (written o.memory answers)) o.dense
turned check r answers (Ok y) o = outcome (outcome (ended check y.answer (run (r.taken + 1) y.counts)) (written o.memory (set answers r.taken (number y.answer)))) o.dense

turn_same : (on check : Bool) (r : Run) (es : List Entry) (m : Memory) (answers dense : List ℕ) → dense ≡ table r.counts.ncols (λ j. 0)
    → turned check r answers (take_row on r.counts es (lists m dense)).answer (take_row on r.counts es (lists m dense)).memory ≡ outcome (next_row on check es r (written m answers)) dense
unfolding turned take_row next_row unless answered_with step_row counted
turn_same on check r es m answers dense zero = go (room_asked r.counts es m)
  where
    go : (f : Tested) → turned check r answers (unless Err f (lists m dense) (answered_with (step_row on r.counts es (lists m dense)))).answer (unless Err f (lists m dense) (answered_with (step_row on r.counts es (lists m dense)))).memory
        ≡ outcome (unless (λ why. Stopped (stop why r)) f (written m answers) (counted check r.taken (row_step on r.counts es m) answers)) dense
    go (Ok _) = rw (cleared_zero r.counts.ncols dense zero)
    go (Err why) = refl

-- the next row
module _ {r : Run} {a : Matrix} {w : Night} (s : GoesOn r a w) where
  abbrev i : ℕ
  i = r.taken

  abbrev cols : List ℕ
  cols = row a.row_ptrs a.col_idcs i

  abbrev vals : List ℕ
  vals = row a.row_ptrs a.values i

  pub next_place : Place r.counts.modulus a s.goes.fits.rows i
  next_place = place r.counts.modulus a s.goes.fits.rows i s.within

  pub next_offered : Offered r.counts cols vals
  next_offered = row_offered r.counts.modulus a s.goes.fits.rows r.counts refl s.goes.fits.columns i s.within

  pub next_offers : Offers r.counts cols vals (lists w.memory w.dense)
  next_offers = record { stands = s.goes.stands; row = next_offered; zero = s.goes.zero }

  here : entries cols vals ≡ row_at a i
  here = row_here r.counts.modulus a s.goes.fits.rows i s.within

  -- what `take_row` says of it
  module _ (on : Bool) {x : Added} {m : Memory} {d : List ℕ} (took : outcome x (lists m d) ≡ take_row on r.counts (entries cols vals) (lists w.memory w.dense)) where
    next_turned : (check : Bool) → turned check r w.answers x (lists m d) ≡ outcome (next_row on check (row_at a i) r (written w.memory w.answers)) w.dense
    next_turned check =
        ap (λ (y : Outcome Added Lists). turned check r w.answers y.answer y.memory) took
        ∙ turn_same on check r (entries cols vals) w.memory w.answers w.dense s.goes.zero
        ∙ ap (λ (es : List Entry). outcome (next_row on check es r (written w.memory w.answers)) w.dense) here

    pub next_stopped : (check : Bool) {why : Refusal} → x ≡ Err why → outcome (outcome (Stopped (stop why r)) (written m w.answers)) d ≡ outcome (next_row on check (row_at a i) r (written w.memory w.answers)) w.dense
    unfolding turned
    next_stopped check e = sym (ap (λ (y : Added). turned check r w.answers y (lists m d)) e) ∙ next_turned check

    pub next_taken : (check : Bool) {y : Stepped} → x ≡ Ok y → {z : Reduced} {answers : List ℕ} → z ≡ ended check y.answer (run (i + 1) y.counts) → answers ≡ set w.answers i (number y.answer) → outcome (outcome z (written m answers)) d ≡ outcome (next_row on check (row_at a i) r (written w.memory w.answers)) w.dense
    unfolding turned
    next_taken check e q n = rw (q, n) (sym (ap (λ (y : Added). turned check r w.answers y (lists m d)) e) ∙ next_turned check)
