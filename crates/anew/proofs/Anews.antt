-- A reducer made from a matrix: what the tests give, and each outcome.
-- Assumes nothing.
use Rattle.std.specs.Prelude.{Err, Ok}
use mathlib.Core.Path.{◌≡◌, sym, ◌∙◌}
use mathlib.Core.Bool.{Bool}
use Prim.Native.Nat.{ℕ, ◌≤◌}
use lib.ListN.{length}
use Rattle.sparse.specs.Refusals.{Tested}
use Rattle.sparse.specs.Lent.{Outcome, outcome, unless}
use Rattle.sparse.specs.Matrix.{Matrix}
use Rattle.sparse.specs.declared.Refusal.{Refusal}
use Rattle.sparse.proofs.Firsts.{lowest_good}
use Rattle.state.specs.declared.Mode.{Mode}
use Rattle.telling.specs.declared.Reduced.{Reduced}
use Rattle.telling.specs.declared.Reduced.TheVariants.{Refused}
use Rattle.running.specs.Rows.{Night}
use Rattle.batches.specs.Asks.{Anew}
use Rattle.batches.specs.Batch.{take_anew}
use Rattle.batches.proofs.Batches.{enough}
use Rattle.anew.specs.Calls.{from_matrix_test, from_matrix}

module _ (p : ℕ) (mode : Mode) (a : Matrix) (w : Night) where
  abbrev test : Tested
  test = from_matrix_test p mode a w.dense w.answers w.memory.u_ptrs w.memory.l_ptrs w.memory.pivots

  pub from_anew : test ≡ Ok tt → Anew p mode a w
  unfolding from_matrix_test
  from_anew e =
      let first = lowest_good _ _ e in
      let second = lowest_good _ _ first.1 in
      let long = enough a.nrows a.ncols w.dense w.answers w.memory.pivots second.0 in
      record { rows = first.0; long = long.dense_long; table = long.table_long; room = (lowest_good _ _ second.1).0 }

  pub from_room : test ≡ Ok tt → a.nrows ≤ length w.answers
  unfolding from_matrix_test
  from_room e = (enough a.nrows a.ncols w.dense w.answers w.memory.pivots (lowest_good _ _ (lowest_good _ _ e).1).0).answers_long

  module _ (on check : Bool) {s : Tested} (tested : s ≡ test) where
    pub from_refused : {why : Refusal} → s ≡ Err why → outcome (Refused why) w ≡ from_matrix on check p mode a w
    unfolding from_matrix unless
    from_refused e = rw (sym tested ∙ e)

    pub from_taken : s ≡ Ok tt → {x : Outcome Reduced Night} → x ≡ take_anew on check p mode a w → x ≡ from_matrix on check p mode a w
    unfolding from_matrix unless
    from_taken e took = rw (sym tested ∙ e) took
