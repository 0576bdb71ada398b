-- The determinant: what its tests give, what reading L asks for, and each outcome.
-- Assumes nothing.
use Rattle.std.specs.Prelude.{Err, Ok}
use mathlib.Core.Path.{◌≡◌, sym, ap, subst, ◌∙◌}
use mathlib.Core.Bool.{true, false, not, ◌||◌}
use mathlib.Core.List.{List, []}
use Prim.Native.Nat.{ℕ, ◌≤◌, ◌<◌}
use native.Mathlib.Omega.{arith}
use borrow.Author.Tests.{lt-ltb, le-ltb, ltb-false, eq-eqb, ne_eqb}
use lib.Dec.{ltb, eqb}
use lib.ListN.{length}
use Rattle.sparse.specs.Lent.{Outcome, outcome, unless}
use Rattle.sparse.specs.Matrix.{Matrix}
use Rattle.sparse.specs.Refusals.{refuse, Tested}
use Rattle.sparse.specs.Rows.{rows_of}
use Rattle.sparse.specs.declared.Refusal.{Refusal}
use Rattle.sparse.specs.declared.Refusal.TheVariants.{NotSquare, Mismatch}
use Rattle.sparse.proofs.Firsts.{neither, refuse_good, lowest_good}
use Rattle.state.specs.Fresh.{counts}
use Rattle.state.specs.Memory.{Memory}
use Rattle.state.specs.State.{l_fault}
use Rattle.state.specs.declared.Counts.{Counts}
use Rattle.state.specs.declared.Mode.{Mode}
use Rattle.state.specs.declared.Mode.TheVariants.{Full}
use Rattle.stepping.specs.Asks.{Stands}
use Rattle.stepping.specs.Take.{Lists, lists}
use Rattle.stepping.proofs.Walks.{parts, stands_inverts}
use Rattle.telling.specs.Runs.{run}
use Rattle.telling.specs.declared.Reduced.{Reduced}
use Rattle.telling.specs.declared.Reduced.TheVariants.{Taken}
use Rattle.running.specs.Rows.{Night, night, written, take_rows}
use Rattle.batches.specs.Asks.{Anew}
use Rattle.batches.specs.Batch.{take_matrix, restarted, take_anew}
use Rattle.nights.proofs.Anews.{anew_ends}
use Rattle.nights.proofs.Folds.{run_in, Ends}
use Rattle.nights.proofs.Rows.{Kept}
use Rattle.signs.specs.Asks.{Multiplies}
use Rattle.determinant.specs.Asks.{Readable}
use Rattle.determinant.specs.Det.{det_test, valued, determined, det}
use Rattle.determinant.specs.declared.Determined.{Determined}
use Rattle.determinant.specs.declared.Determined.TheVariants.{Refused}
use Rattle.determinant.proofs.Fulls.{full_multiplies}

-- 10, or not
pub not_square : (n m : ℕ) → (n ≡ m → ⊥) → Err NotSquare ≡ refuse (not (eqb n m)) NotSquare
unfolding refuse
not_square n m e = rw (ne_eqb n m e)

pub square : (n m : ℕ) → n ≡ m → Ok tt ≡ refuse (not (eqb n m)) NotSquare
unfolding refuse
square n m e = rw (eq-eqb n m e)

-- 11, or not
pub dense_short : (d t n : ℕ) → d < n → Err Mismatch ≡ refuse (ltb d n || ltb t n) Mismatch
unfolding refuse
dense_short d t n h = rw (lt-ltb d n h)

pub table_short : (d t n : ℕ) → n ≤ d → t < n → Err Mismatch ≡ refuse (ltb d n || ltb t n) Mismatch
unfolding refuse
table_short d t n h l = rw (le-ltb d n h, lt-ltb t n l)

pub both_long : (d t n : ℕ) → n ≤ d → n ≤ t → Ok tt ≡ refuse (ltb d n || ltb t n) Mismatch
unfolding refuse
both_long d t n h l = rw (le-ltb d n h, le-ltb t n l)

-- an L with values, in memory that is a state
stands_multiplies : (c : Counts) (o : Lists) → Stands c o → c.mode ≡ Full → Multiplies c.modulus c.l_rows o.memory.l_ptrs o.memory.l_vals
stands_multiplies c o s full =
    full_multiplies c o.memory.l_cols o.memory.l_vals o.memory.l_ptrs (stands_inverts c o s).least
    (subst (λ (m : Mode). l_fault m c o.memory.l_cols o.memory.l_vals o.memory.l_ptrs ≡ false) full (parts c o s).multipliers)

module _ (p : ℕ) (a : Matrix) (o : Lists) where
  abbrev test : Tested
  test = det_test p a o.dense o.memory.u_ptrs o.memory.l_ptrs o.memory.pivots

  abbrev w : Night
  w = night o.memory [] o.dense

  abbrev c : Counts
  c = counts Full p a.ncols 0 0 0 0

  pub det_anew : test ≡ Ok tt → Anew p Full a w
  unfolding det_test
  det_anew e =
      let first = lowest_good _ _ e in
      let second = lowest_good _ _ first.1 in
      let third = lowest_good _ _ second.1 in
      let long = neither (ltb (length o.dense) a.ncols) (ltb (length o.memory.pivots) a.ncols) (refuse_good _ Mismatch third.0) in
      record { rows = first.0; long = ltb-false _ _ long.0; table = ltb-false _ _ long.1; room = (lowest_good _ _ third.1).0 }

  module _ {s : Tested} (tested : s ≡ test) where
    pub det_refused : {why : Refusal} → s ≡ Err why → outcome (Refused why) o ≡ det p a o
    unfolding det unless
    det_refused e = rw (sym tested ∙ e)

    module _ (good : s ≡ Ok tt) {x : Reduced} {m : Memory} {answers d : List ℕ} (took : outcome x (night m answers d) ≡ take_anew false true p Full a w) where
      taken : outcome x (written m answers) ≡ take_rows false true (rows_of a) (outcome (Taken (run 0 c)) (written (restarted Full a.ncols o.memory) []))
      unfolding take_anew take_matrix
      taken = ap (λ (y : Outcome Reduced Night). outcome y.answer (written y.memory.memory y.memory.answers)) took

      ends : Ends (run 0 c) c [] (rows_of a) (outcome x (written m answers))
      ends = rw taken (anew_ends false true (det_anew (sym tested ∙ good)))

      kept : Kept c [] ends.ts (run_in (run 0 c) x) (written m answers)
      kept = ends.kept

      pub det_readable : Readable p a.ncols x m.l_vals m.l_ptrs m.pivots
      unfolding run_in
      det_readable = record {
        taken = λ r e.
            let k : Kept c [] ends.ts r (written m answers) = subst (λ (y : Reduced). Kept c [] ends.ts (run_in (run 0 c) y) (written m answers)) e kept in
            record {
              narrow = omega (arith, k.stands.opened.wide, k.ncols);
              table = omega (arith, k.stands.opened.table, k.ncols);
              lasts = subst (λ (q : ℕ). Multiplies q r.counts.l_rows m.l_ptrs m.l_vals) k.modulus (stands_multiplies r.counts (lists m []) k.stands k.mode);
            };
      }

      pub det_valued : {v : Determined} → v ≡ valued p a.ncols x m.l_vals m.l_ptrs m.pivots → outcome v (lists m d) ≡ det p a o
      unfolding det unless determined
      det_valued e = rw (sym tested ∙ good) (ap (λ (y : Determined). outcome y (lists m d)) e ∙ ap (determined p a.ncols) took)
