-- All rows of a matrix from a fresh start: with plenty of room every row is taken, and all that is lent keeps its length.
-- Assumes nothing.
use mathlib.Core.Path.{◌≡◌, refl}
use mathlib.Core.Bool.{Bool, false}
use mathlib.Core.List.{[]}
use Prim.Native.Nat.{ℕ}
use native.Mathlib.Omega.{arith}
use Rattle.sparse.specs.Lent.{outcome}
use Rattle.sparse.specs.Matrix.{Matrix}
use Rattle.sparse.specs.Rows.{rows_of}
use Rattle.state.specs.Fresh.{counts}
use Rattle.state.specs.declared.Counts.{Counts}
use Rattle.state.specs.declared.Mode.{Mode}
use Rattle.telling.specs.Runs.{run}
use Rattle.telling.specs.declared.Reduced.{Reduced}
use Rattle.telling.specs.declared.Reduced.TheVariants.{Taken, Stopped}
use Rattle.telling.specs.declared.Stop.{Stop}
use Rattle.running.specs.Rows.{Written, written, take_rows, Night}
use Rattle.running.proofs.Folds.{rows_many}
use Rattle.batches.specs.Asks.{Anew}
use Rattle.batches.specs.Batch.{take_matrix, restarted, take_anew}
use Rattle.nights.proofs.Anews.{rows_clean, anew_start}
use Rattle.nights.proofs.Folds.{run_in}
use Rattle.plenty.specs.Plenty.{Plenty, Whole, all, none, AllTaken, Settled, SameLengths}
use Rattle.plenty.proofs.Folds.{Fed, rows_fed, rows_whole}
use Rattle.plenty.proofs.Lengths.{restarted_long, cleared_long}

-- a call that doesn't check and ends whole took all rows
pub whole_taken : {k : ℕ} {x : Reduced} → Whole false k x → AllTaken k x
whole_taken (all r e) = record { run = r; is = refl; taken = e }
whole_taken (none c r) = let z : ◌≡◌ {A = ℕ} 0 1 = cc in absurd (omega arith)

-- one that ends whole wasn't stopped for room
whole_not_short : {check : Bool} {k : ℕ} {x : Reduced} → Whole check k x → (s : Stop) → x ≡ Stopped s → ⊥
whole_not_short (all r e) s q = let z : ◌≡◌ {A = ℕ} 0 1 = cc in omega arith
whole_not_short (none c r) s q = let z : ◌≡◌ {A = ℕ} 0 1 = cc in omega arith

module _ (on check : Bool) {p : ℕ} {mode : Mode} {a : Matrix} {w : Night} (anew : Anew p mode a w) where
  abbrev c : Counts
  c = counts mode p a.ncols 0 0 0 0

  abbrev before : Written
  before = written (restarted mode a.ncols w.memory) w.answers

  start : Fed c w.memory w.answers (run 0 c) before
  start = record {
    ts = [];
    kept = anew_start on check anew;
    filled = record { u_fill = omega arith; l_rows = omega arith; l_fill = omega arith };
    lists = restarted_long anew;
    answers = refl;
  }

  end : Fed c w.memory w.answers (run_in (run 0 c) (take_rows on check (rows_of a) (outcome (Taken (run 0 c)) before)).answer) (take_rows on check (rows_of a) (outcome (Taken (run 0 c)) before)).memory
  unfolding run_in
  end = rows_fed on check (run 0 c) c w.memory w.answers (rows_of a) (rows_clean p a anew.rows) (Taken (run 0 c)) before start

  -- a state, whatever ends the rows
  pub anew_settled : Settled p a.ncols mode (run_in (run 0 c) (take_anew on check p mode a w).answer).counts (take_anew on check p mode a w).memory.memory
  unfolding take_anew take_matrix
  anew_settled = record { stands = end.kept.stands; modulus = end.kept.modulus; ncols = end.kept.ncols; mode = end.kept.mode }

  pub anew_lengths : SameLengths (take_anew on check p mode a w).memory w
  unfolding take_anew take_matrix
  anew_lengths = record { memory = end.lists; answers = end.answers; dense = cleared_long a.ncols w.dense anew.long }

  -- all rows, or up to a None where the call checks
  pub anew_whole : Plenty mode a.nrows a.ncols w.memory → Whole check a.nrows (take_anew on check p mode a w).answer
  unfolding take_anew take_matrix
  anew_whole plenty =
      rows_whole on check (run 0 c) c w.memory w.answers a.nrows plenty (rows_of a) (rows_clean p a anew.rows) (run 0 c) before start (omega (arith, rows_many a))

  -- it isn't stopped for room
  pub never_short : Plenty mode a.nrows a.ncols w.memory → (s : Stop) → (take_anew on check p mode a w).answer ≡ Stopped s → ⊥
  never_short plenty = whole_not_short (anew_whole plenty)

-- without a check, all rows
pub all_taken : (on : Bool) {p : ℕ} {mode : Mode} {a : Matrix} {w : Night} → Anew p mode a w → Plenty mode a.nrows a.ncols w.memory → AllTaken a.nrows (take_anew on false p mode a w).answer
all_taken on anew plenty = whole_taken (anew_whole on false anew plenty)
