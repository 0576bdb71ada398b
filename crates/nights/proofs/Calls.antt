-- What `from_matrix` answers means, from its fresh start.
-- Assumes nothing.
use Rattle.std.specs.Prelude.{Ok}
use mathlib.Core.Path.{◌≡◌, ap, ◌∙◌}
use mathlib.Core.Bool.{Bool}
use Prim.Native.Nat.{ℕ}
use native.Mathlib.Omega.{arith}
use lib.ListN.{take}
use Rattle.sparse.specs.Lent.{outcome, unless}
use Rattle.sparse.specs.Matrix.{Matrix}
use Rattle.sparse.specs.Rows.{rows_of}
use Rattle.state.specs.Fresh.{counts}
use Rattle.state.specs.declared.Counts.{Counts}
use Rattle.state.specs.declared.Mode.{Mode}
use Rattle.telling.specs.Runs.{run}
use Rattle.telling.specs.declared.Reduced.TheVariants.{Taken}
use Rattle.running.specs.Rows.{written, take_rows, Night}
use Rattle.running.proofs.Folds.{rows_many}
use Rattle.batches.specs.Batch.{take_matrix, restarted, take_anew}
use Rattle.anew.specs.Calls.{from_matrix_test, from_matrix}
use Rattle.anew.proofs.Anews.{from_anew, from_room}
use Rattle.nights.specs.Meant.{Answers}
use Rattle.nights.proofs.Anews.{anew_ends}
use Rattle.nights.proofs.Folds.{run_in, Ends, ends_few}

module _ (on check : Bool) (p : ℕ) (mode : Mode) (a : Matrix) (w : Night) (good : from_matrix_test p mode a w.dense w.answers w.memory.u_ptrs w.memory.l_ptrs w.memory.pivots ≡ Ok tt) where
  abbrev c : Counts
  c = counts mode p a.ncols 0 0 0 0

  ends : Ends (run 0 c) c w.answers (rows_of a) (take_rows on check (rows_of a) (outcome (Taken (run 0 c)) (written (restarted mode a.ncols w.memory) w.answers)))
  ends = anew_ends on check (from_anew p mode a w good)

  -- whatever ends the call
  pub from_matrix_means : Answers p a.ncols (run_in (run 0 c) (from_matrix on check p mode a w).answer).taken (rows_of a) w.answers (from_matrix on check p mode a w).memory.answers
  unfolding from_matrix unless take_anew take_matrix
  from_matrix_means = rw good (record {
    ts = ends.ts;
    meant = ends.kept.meant;
    many = ends.kept.taken;
    first = ends.first ∙ ap (λ (k : ℕ). take k (rows_of a)) ends.kept.taken;
    numbers = ends.kept.numbers (omega (arith, ends_few ends, rows_many a, from_room p mode a w good));
  })
