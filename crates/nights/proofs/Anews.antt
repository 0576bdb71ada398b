-- Rows taken from a fresh start: each leaves a state, and each row taken was answered None exactly if it is a combination of the rows accepted before it.
-- Assumes nothing.
use Rattle.std.specs.Prelude.{Ok}
use mathlib.Core.Path.{◌≡◌, refl, sym, subst}
use mathlib.Core.Bool.{Bool}
use mathlib.Core.List.{[]}
use Prim.Native.Nat.{ℕ, ◌<◌}
use native.Mathlib.Omega.{arith}
use lib.ListN.{length, get_or}
use Rattle.lists.proofs.Ontos.{onto_nil}
use Rattle.sparse.specs.Lent.{outcome}
use Rattle.sparse.specs.Matrix.{Matrix}
use Rattle.sparse.specs.Rows.{rows_of, row_at}
use Rattle.sparse.specs.Tests.{clean}
use Rattle.state.specs.Fresh.{counts}
use Rattle.state.specs.declared.Counts.{Counts}
use Rattle.state.specs.declared.Mode.{Mode}
use Rattle.state.specs.declared.Mode.TheVariants.{Full}
use Rattle.steps.specs.Rows.{CleanRow}
use Rattle.stepping.specs.Asks.{Stands}
use Rattle.stepping.specs.Take.{lists}
use Rattle.stepping.proofs.MatrixRows.{row_here, row_offered}
use Rattle.keeping.proofs.Pasts.{empty_past}
use Rattle.telling.specs.Runs.{run}
use Rattle.telling.specs.declared.Reduced.TheVariants.{Taken}
use Rattle.running.specs.Rows.{written, take_rows, Night, night}
use Rattle.running.proofs.Folds.{rows_many}
use Rattle.batches.specs.Asks.{Begins, Anew}
use Rattle.batches.specs.Batch.{restarted}
use Rattle.batches.proofs.Batches.{anew_begins}
use Rattle.nights.specs.Meant.{nothing}
use Rattle.nights.proofs.Folds.{run_in, Ends, rows_end}
use Rattle.nights.proofs.Rows.{Kept}

-- the rows of a clean matrix are clean
pub rows_clean : (p : ℕ) (a : Matrix) → clean 65536 p a ≡ Ok tt → (i : ℕ) → i < length (rows_of a) → CleanRow p a.ncols (get_or (rows_of a) i [])
unfolding row_at
rows_clean p a e i h =
    let l : i < a.nrows = omega (arith, rows_many a) in
    subst (CleanRow p a.ncols) (row_here p a e i l) (row_offered p a e (counts Full p a.ncols 0 0 0 0) refl refl i l).clean

module _ (on check : Bool) {p : ℕ} {mode : Mode} {a : Matrix} {w : Night} (anew : Anew p mode a w) where
  abbrev c : Counts
  c = counts mode p a.ncols 0 0 0 0

  begins : Begins c a (night (restarted mode a.ncols w.memory) w.answers w.dense)
  begins = anew_begins anew

  -- so it stands before the first row
  pub anew_start : Kept c w.answers [] (run 0 c) (written (restarted mode a.ncols w.memory) w.answers)
  anew_start =
      let s : Stands c (lists (restarted mode a.ncols w.memory) []) = record { opened = begins.stands.opened; state = begins.stands.state } in
      record {
        stands = s;
        past = empty_past c (lists (restarted mode a.ncols w.memory) []) s refl;
        meant = nothing;
        mode = refl;
        modulus = refl;
        ncols = refl;
        taken = refl;
        numbers = λ h. sym (onto_nil w.answers);
      }

  pub anew_ends : Ends (run 0 c) c w.answers (rows_of a) (take_rows on check (rows_of a) (outcome (Taken (run 0 c)) (written (restarted mode a.ncols w.memory) w.answers)))
  unfolding run_in
  anew_ends = rows_end on check (run 0 c) c w.answers (rows_of a) (rows_clean p a anew.rows) (Taken (run 0 c)) (written (restarted mode a.ncols w.memory) w.answers) [] anew_start
