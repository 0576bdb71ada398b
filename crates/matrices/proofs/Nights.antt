-- Rows added: what the tests give, and each outcome.
-- Assumes nothing.
use Rattle.std.specs.Prelude.{Err, Ok}
use mathlib.Core.Path.{◌≡◌, sym, ◌∙◌}
use mathlib.Core.Bool.{Bool, false, not}
use mathlib.Core.List.{List, [], ◌∷◌}
use Prim.Native.Nat.{ℕ, ◌≤◌}
use native.Mathlib.Omega.{arith}
use borrow.Author.Tests.{eqb-true, eq-eqb, ne_eqb, not-false}
use lib.Dec.{eqb}
use Rattle.sparse.specs.Lent.{Outcome, outcome, unless}
use Rattle.sparse.specs.Matrix.{Matrix}
use Rattle.sparse.specs.Refusals.{refuse, ◌else◌, lowest, Tested}
use Rattle.sparse.specs.Tests.{modulus_test, clean}
use Rattle.sparse.specs.declared.Refusal.{Refusal}
use Rattle.sparse.specs.declared.Refusal.TheVariants.{Mismatch}
use Rattle.sparse.proofs.Cuts.{small}
use Rattle.sparse.proofs.Firsts.{refuse_good, lowest_good}
use Rattle.state.specs.Asks.{Opened}
use Rattle.state.specs.declared.Counts.{Counts}
use Rattle.telling.specs.declared.Reduced.{Reduced}
use Rattle.telling.specs.declared.Reduced.TheVariants.{Refused}
use Rattle.running.specs.Rows.{Night}
use Rattle.batches.specs.Asks.{Begins}
use Rattle.batches.specs.Batch.{take_matrix}
use Rattle.batches.specs.Tests.{short_test}
use Rattle.batches.proofs.Batches.{enough}
use Rattle.matrices.specs.Calls.{add_matrix}
use Rattle.matrices.specs.Tests.{rows_tests, add_matrix_test}

-- column counts that differ, or don't
pub columns_differ : (n m : ℕ) → (n ≡ m → ⊥) → Err Mismatch ≡ lowest (refuse (not (eqb n m)) Mismatch ∷ [])
unfolding refuse lowest ◌else◌
columns_differ n m e = rw (ne_eqb n m e)

pub columns_agree : (n m : ℕ) → n ≡ m → Ok tt ≡ lowest (refuse (not (eqb n m)) Mismatch ∷ [])
unfolding refuse lowest ◌else◌
columns_agree n m e = rw (eq-eqb n m e)

-- the rows' own tests
record Apt (p n : ℕ) (a : Matrix) : Type 0 where
  pub modulus : modulus_test p ≡ Ok tt
  pub wide : n ≤ 1024
  pub rows : clean 65536 p a ≡ Ok tt
  pub columns : n ≡ a.ncols

apt : (p n : ℕ) (a : Matrix) → lowest (rows_tests p n a) ≡ Ok tt → Apt p n a
unfolding rows_tests
apt p n a e =
    let first = lowest_good _ _ e in
    let second = lowest_good _ _ first.1 in
    let third = lowest_good _ _ second.1 in
    record {
      modulus = first.0;
      wide = (small 65536 0 n 0 second.0).wide;
      rows = third.0;
      columns = eqb-true n a.ncols (not-false _ (refuse_good _ Mismatch (lowest_good _ _ third.1).0));
    }

pub rows_opened : (p n : ℕ) (a : Matrix) (dense answers pivots : List ℕ) → lowest (rows_tests p n a) ≡ Ok tt → short_test a.nrows a.ncols dense answers pivots ≡ Ok tt → Opened p n pivots
rows_opened p n a dense answers pivots e s =
    let t = apt p n a e in
    record { modulus = t.modulus; wide = t.wide; table = omega (arith, t.columns, (enough a.nrows a.ncols dense answers pivots s).table_long) }

-- rows added to a state
module _ (c : Counts) (a : Matrix) (w : Night) where
  pub add_begins : add_matrix_test c a w.dense w.answers w.memory ≡ Ok tt → Begins c a w
  unfolding add_matrix_test
  add_begins e =
      let first = lowest_good _ _ e in
      let second = lowest_good _ _ first.1 in
      let t = apt c.modulus c.ncols a first.0 in
      let long = enough a.nrows a.ncols w.dense w.answers w.memory.pivots second.0 in
      record {
        stands = record { opened = rows_opened c.modulus c.ncols a w.dense w.answers w.memory.pivots first.0 second.0; state = (lowest_good _ _ second.1).0 };
        fits = record { rows = t.rows; columns = sym t.columns };
        long = omega (arith, t.columns, long.dense_long);
      }

  module _ (on : Bool) {s : Tested} (tested : s ≡ add_matrix_test c a w.dense w.answers w.memory) where
    pub add_refused : {why : Refusal} → s ≡ Err why → outcome (Refused why) w ≡ add_matrix on c a w
    unfolding add_matrix unless
    add_refused e = rw (sym tested ∙ e)

    pub add_taken : s ≡ Ok tt → {o : Outcome Reduced Night} → o ≡ take_matrix on false c a w → o ≡ add_matrix on c a w
    unfolding add_matrix unless
    add_taken e took = rw (sym tested ∙ e) took
