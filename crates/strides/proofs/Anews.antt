-- The public calls that start afresh: `new`, and those that then take all rows, a run of single steps.
-- Assumes nothing.
use Rattle.std.specs.Prelude.{Ok}
use mathlib.Core.Path.{◌≡◌, refl, sym}
use mathlib.Core.Bool.{Bool, true, false}
use mathlib.Core.List.{List, []}
use Prim.Native.Nat.{ℕ}
use native.Mathlib.Omega.{arith}
use borrow.Author.Tests.{le-ltb}
use lib.ListN.{length}
use Rattle.lists.specs.Onto.{◌onto◌}
use Rattle.sparse.specs.Lent.{outcome, unless}
use Rattle.sparse.specs.Matrix.{Matrix}
use Rattle.sparse.specs.Rows.{rows_of}
use Rattle.sparse.specs.Tests.{size_test}
use Rattle.sparse.specs.declared.Refusal.TheVariants.{Mismatch}
use Rattle.sparse.proofs.Firsts.{refuse_false, lowest_next, lowest_last}
use Rattle.state.specs.Asks.{Opened}
use Rattle.state.specs.Fresh.{counts, opening, new_test, new}
use Rattle.state.specs.Memory.{Memory}
use Rattle.state.specs.declared.Counts.{Counts}
use Rattle.state.specs.declared.Mode.{Mode}
use Rattle.state.specs.declared.Mode.TheVariants.{Full}
use Rattle.stepping.specs.Take.{Lists}
use Rattle.telling.specs.Runs.{run}
use Rattle.telling.specs.declared.Reduced.{Reduced}
use Rattle.telling.specs.declared.Reduced.TheVariants.{Taken, Dependent, Stopped as Short, Refused as Unfolded}
use Rattle.telling.specs.declared.Run.{Run}
use Rattle.running.specs.Rows.{written, take_rows, Night, night}
use Rattle.running.proofs.Folds.{rows_many}
use Rattle.batches.specs.Asks.{Anew}
use Rattle.batches.specs.Batch.{take_matrix, opened, restarted, take_anew}
use Rattle.batches.proofs.Batches.{anew_begins}
use Rattle.anew.specs.Calls.{from_matrix_test, from_matrix}
use Rattle.anew.proofs.Anews.{from_anew, from_room}
use Rattle.nights.proofs.Anews.{rows_clean}
use Rattle.nights.proofs.Folds.{run_in}
use Rattle.determinant.specs.Det.{det_test, valued, determined, det}
use Rattle.determinant.specs.declared.Determined.{Determined}
use Rattle.determinant.specs.declared.Determined.TheVariants.{Value, Stopped, Refused}
use Rattle.determinant.proofs.Dets.{det_anew}
use Rattle.strides.specs.Strides.{Begun, begun, numbers_of, Appended}
use Rattle.strides.proofs.Folds.{Ends, rows_strides}
use Rattle.strides.proofs.Runs.{appended_few}

-- `new` is a fresh start
pub new_begun : (p n : ℕ) (mode : Mode) (m : Memory) → new_test p n mode (opening m.u_ptrs m.l_ptrs m.pivots) ≡ Ok tt → Begun mode p n (opened m (new p n mode (opening m.u_ptrs m.l_ptrs m.pivots)).memory)
unfolding new unless
new_begun p n mode m good = rw good (unfold restarted in begun m good)

-- a fresh start, then all rows
module _ {p : ℕ} {mode : Mode} {a : Matrix} {w : Night} (anew : Anew p mode a w) where
  opens : Opened p a.ncols (restarted mode a.ncols w.memory).pivots
  opens = (anew_begins anew).stands.opened

  pub anew_begun : Begun mode p a.ncols (restarted mode a.ncols w.memory)
  unfolding new_test size_test
  anew_begun =
      let size : size_test 65536 0 a.ncols 0 ≡ Ok tt = refuse_false _ _ (rw (le-ltb 1024 a.ncols opens.wide)) in
      let table = refuse_false _ Mismatch (le-ltb (length w.memory.pivots) a.ncols anew.table) in
      begun w.memory (sym (lowest_next _ refl opens.modulus (lowest_next _ refl size (lowest_next _ refl table (lowest_last (sym anew.room))))))

  pub anew_ends : (on check : Bool) (d : Run)
      → let c : Counts = counts mode p a.ncols 0 0 0 0 in
      let m : Memory = restarted mode a.ncols w.memory in
      Ends on check d p a.ncols c m w.answers (rows_of a) (take_rows on check (rows_of a) (outcome (Taken (run 0 c)) (written m w.answers)))
  anew_ends on check d = rows_strides on check d (counts mode p a.ncols 0 0 0 0) (restarted mode a.ncols w.memory) (rows_of a) (rows_clean p a anew.rows) w.answers

-- by `from_matrix` and `from_matrix_check_dependent`, whatever ends it
module _ (p : ℕ) (mode : Mode) (a : Matrix) (w : Night) (good : from_matrix_test p mode a w.dense w.answers w.memory.u_ptrs w.memory.l_ptrs w.memory.pivots ≡ Ok tt) where
  pub from_matrix_begun : Begun mode p a.ncols (restarted mode a.ncols w.memory)
  from_matrix_begun = anew_begun (from_anew p mode a w good)

  pub from_matrix_strides : (on check : Bool) (d : Run)
      → Appended p a.ncols (counts mode p a.ncols 0 0 0 0) (restarted mode a.ncols w.memory) (rows_of a) w.answers (run_in d (from_matrix on check p mode a w).answer) (written (from_matrix on check p mode a w).memory.memory (from_matrix on check p mode a w).memory.answers)
  unfolding from_matrix unless take_anew take_matrix
  from_matrix_strides on check d = rw good (anew_ends (from_anew p mode a w good) on check d).appended

  -- its answers' numbers stand at the front of answer memory
  pub from_matrix_numbers : (on check : Bool) (d : Run) → (from_matrix on check p mode a w).memory.answers ≡ numbers_of (from_matrix_strides on check d).new onto w.answers
  from_matrix_numbers on check d =
      let x = from_matrix_strides on check d in
      x.numbers (omega (arith, appended_few x, rows_many a, from_room p mode a w good))

-- the rows that a determinant's reduction took; d where the call was refused
unfoldable pub run_of : Run → Determined → Run
run_of d (Value v) = v.run
run_of d (Stopped s) = s.run
run_of d (Refused why) = d

pub valued_run : (d : Run) (p n : ℕ) (x : Reduced) (l_vals l_ptrs pivots : List ℕ) → run_in d x ≡ run_of d (valued p n x l_vals l_ptrs pivots)
unfolding run_in run_of valued
valued_run d p n (Taken r) l_vals l_ptrs pivots = refl
valued_run d p n (Dependent r) l_vals l_ptrs pivots = refl
valued_run d p n (Short s) l_vals l_ptrs pivots = refl
valued_run d p n (Unfolded why) l_vals l_ptrs pivots = refl

-- by `det`, whatever ends it; it is lent no answer memory
module _ (p : ℕ) (a : Matrix) (o : Lists) (good : det_test p a o.dense o.memory.u_ptrs o.memory.l_ptrs o.memory.pivots ≡ Ok tt) where
  pub det_begun : Begun Full p a.ncols (restarted Full a.ncols o.memory)
  det_begun = anew_begun (det_anew p a o good)

  pub det_strides : (d : Run)
      → Appended p a.ncols (counts Full p a.ncols 0 0 0 0) (restarted Full a.ncols o.memory) (rows_of a) [] (run_of d (det p a o).answer) (written (det p a o).memory.memory (take_anew false true p Full a (night o.memory [] o.dense)).memory.answers)
  unfolding det unless determined take_anew take_matrix
  det_strides d = rw (good, ← valued_run d p a.ncols _ _ _ _) (anew_ends (det_anew p a o good) false true d).appended
