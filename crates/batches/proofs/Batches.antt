-- All rows of a matrix: what taking them asks for, and what it comes to.
-- Assumes nothing.
use Rattle.std.specs.Prelude.{Ok}
use mathlib.Core.Path.{◌≡◌, refl, sym, ap, ◌∙◌}
use mathlib.Core.Bool.{Bool, ◌||◌}
use mathlib.Core.List.{List, ◌++◌}
use Prim.Native.Nat.{ℕ, ◌≤◌}
use native.Mathlib.Omega.{arith}
use borrow.Author.Tests.{ltb-false, le-ltb}
use lib.Dec.{ltb}
use lib.ListN.{length, drop, take}
use Rattle.lists.specs.Table.{table}
use Rattle.sparse.specs.Lent.{Outcome, outcome}
use Rattle.sparse.specs.Matrix.{Matrix}
use Rattle.sparse.specs.Refusals.{refuse}
use Rattle.sparse.specs.Rows.{rows_of}
use Rattle.sparse.specs.Tests.{size_test, well_formed, clean}
use Rattle.sparse.specs.declared.Refusal.TheVariants.{Mismatch}
use Rattle.sparse.proofs.Cuts.{small}
use Rattle.sparse.proofs.Firsts.{neither, refuse_good, refuse_false, lowest_good, lowest_skip, lowest_last}
use Rattle.state.specs.Asks.{Startable}
use Rattle.state.specs.Fresh.{counts, Opening, opening, started, new_test}
use Rattle.state.specs.Memory.{Memory}
use Rattle.state.specs.declared.Counts.{Counts}
use Rattle.state.specs.declared.Mode.{Mode}
use Rattle.walk.specs.Dense.{wiped}
use Rattle.stepping.proofs.Clears.{front_zero, front_cleared}
use Rattle.keeping.proofs.Pasts.{fresh_stands}
use Rattle.running.specs.Asks.{Goes}
use Rattle.running.specs.Rows.{Written, written, take_rows, Night, night}
use Rattle.telling.specs.Runs.{run}
use Rattle.telling.specs.declared.Reduced.{Reduced}
use Rattle.telling.specs.declared.Reduced.TheVariants.{Taken}
use Rattle.batches.specs.Asks.{Begins, Anew}
use Rattle.batches.specs.Batch.{beside, take_matrix, opened, restarted, take_anew}
use Rattle.batches.specs.Tests.{short_test}

-- memory that isn't short
pub record Enough (rows n : ℕ) (dense answers pivots : List ℕ) : Type 0 where
  pub dense_long : n ≤ length dense
  pub table_long : n ≤ length pivots
  pub answers_long : rows ≤ length answers

pub enough : (rows n : ℕ) (dense answers pivots : List ℕ) → short_test rows n dense answers pivots ≡ Ok tt → Enough rows n dense answers pivots
unfolding short_test
enough rows n dense answers pivots e =
    let all = neither (ltb (length dense) n || ltb (length pivots) n) (ltb (length answers) rows) (refuse_good _ Mismatch e) in
    let both = neither (ltb (length dense) n) (ltb (length pivots) n) all.0 in
    record { dense_long = ltb-false (length dense) n both.0; table_long = ltb-false (length pivots) n both.1; answers_long = ltb-false (length answers) rows all.1 }

-- a fresh start
module _ {p : ℕ} {mode : Mode} {a : Matrix} {w : Night} (s : Anew p mode a w) where
  abbrev o : Opening
  o = opening w.memory.u_ptrs w.memory.l_ptrs w.memory.pivots

  pub anew_startable : Startable a.ncols mode o
  anew_startable = record { table = s.table; room = s.room }

  -- what is lent after it
  abbrev anew : List ℕ → List ℕ → List ℕ → Night
  anew u l t = night (opened w.memory (opening u l t)) w.answers w.dense

  anew_restarted : {u l t : List ℕ} → opening u l t ≡ started mode a.ncols o → anew u l t ≡ night (restarted mode a.ncols w.memory) w.answers w.dense
  unfolding restarted
  anew_restarted e = ap (λ (y : Opening). anew y.u_ptrs y.l_ptrs y.pivots) e

  -- by its tests a fresh start would be made by `new` too
  formed : well_formed 65536 p a ≡ Ok tt
  unfolding clean
  formed = (lowest_good _ _ s.rows).0

  columns_few : size_test 65536 0 a.ncols 0 ≡ Ok tt
  unfolding well_formed size_test refuse
  columns_few = rw (le-ltb 1024 a.ncols (small 65536 a.nrows a.ncols (length a.values) (lowest_good _ _ (lowest_good _ _ formed).1).0).wide)

  opens : new_test p a.ncols mode o ≡ Ok tt
  unfolding new_test well_formed
  opens =
      lowest_skip _ (lowest_good _ _ formed).0
      ∙ lowest_skip _ columns_few
      ∙ lowest_skip _ (refuse_false _ Mismatch (le-ltb (length w.memory.pivots) a.ncols s.table))
      ∙ sym (lowest_last refl)
      ∙ s.room

  pub anew_begins : Begins (counts mode p a.ncols 0 0 0 0) a (night (restarted mode a.ncols w.memory) w.answers w.dense)
  unfolding restarted
  anew_begins = record {
    stands = fresh_stands p a.ncols mode o opens w.memory.u_cols w.memory.u_vals w.memory.l_cols w.memory.l_vals w.dense;
    fits = record { rows = s.rows; columns = refl };
    long = s.long;
  }

  module _ {k : Counts} (fresh : k ≡ counts mode p a.ncols 0 0 0 0) {u l t : List ℕ} (start : opening u l t ≡ started mode a.ncols o) where
    pub anew_goes : Begins k a (anew u l t)
    anew_goes = rw (fresh, anew_restarted start) anew_begins

    pub anew_taken : (on check : Bool) {x : Outcome Reduced Night} → x ≡ take_matrix on check k a (anew u l t) → x ≡ take_anew on check p mode a w
    unfolding take_anew
    anew_taken on check took = took ∙ ap (λ (y : Counts). take_matrix on check y a (anew u l t)) fresh ∙ ap (take_matrix on check (counts mode p a.ncols 0 0 0 0) a) (anew_restarted start)

-- dense memory is cleared, and its front lent
module _ {c : Counts} {a : Matrix} {w : Night} (b : Begins c a w) where
  pub begins_long : a.ncols ≤ length w.dense
  begins_long = omega (arith, b.long, b.fits.columns)

  module _ {front : List ℕ} (wipe : front ≡ wiped 0 (take a.ncols w.dense)) where
    zero : front ≡ table a.ncols (λ j. 0)
    zero = front_zero a.ncols w.dense front begins_long wipe

    pub begins_goes : Goes c a (night w.memory w.answers front)
    begins_goes = record { stands = record { opened = b.stands.opened; state = b.stands.state }; fits = b.fits; zero = rw (← b.fits.columns) zero }

    pub begins_returns : (on check : Bool) {x : Reduced} {m : Memory} {answers d : List ℕ} → outcome (outcome x (written m answers)) d ≡ outcome (take_rows on check (rows_of a) (outcome (Taken (run 0 c)) (written w.memory w.answers))) front
        → outcome x (night m answers (d ++ drop a.ncols w.dense)) ≡ take_matrix on check c a w
    unfolding take_matrix
    begins_returns on check {d = d} e =
        ap (λ (y : Outcome (Outcome Reduced Written) (List ℕ)). beside (d ++ drop a.ncols w.dense) y.answer) e
        ∙ ap (λ (y : List ℕ). beside y (take_rows on check (rows_of a) (outcome (Taken (run 0 c)) (written w.memory w.answers))))
        (front_cleared a.ncols w.dense d (ap (λ (y : Outcome (Outcome Reduced Written) (List ℕ)). y.memory) e ∙ zero))
