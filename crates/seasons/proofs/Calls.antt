-- Each public call that takes rows keeps a reducer reached; and what `add_row` answers there.
-- Assumes nothing.
use Rattle.std.specs.Prelude.{None, Ok}
use mathlib.Core.Path.{◌≡◌, refl}
use mathlib.Core.Logic.{◌↔◌}
use mathlib.Core.Bool.{Bool}
use mathlib.Core.List.{List, [], ◌∷◌}
use Prim.Native.Nat.{ℕ, ◌+◌, ◌<◌}
use native.Mathlib.Nat.{zero-add}
use lib.ListN.{length, get_or, take}
use Rattle.linear.specs.Combination.{Combination}
use Rattle.sparse.specs.Matrix.{Matrix}
use Rattle.sparse.specs.Rows.{entries}
use Rattle.state.specs.Fresh.{counts, opening, new_test, new}
use Rattle.state.specs.Memory.{Memory}
use Rattle.state.specs.declared.Counts.{Counts}
use Rattle.state.specs.declared.Mode.{Mode}
use Rattle.steps.specs.History.{Told, told, accepted, values_in}
use Rattle.steps.specs.Rows.{value_of}
use Rattle.stepping.specs.Take.{Lists}
use Rattle.stepping.specs.declared.Stepped.{Stepped}
use Rattle.adding.specs.AddRow.{add_row}
use Rattle.telling.specs.declared.Run.{Run}
use Rattle.running.specs.Rows.{Night}
use Rattle.batches.specs.Batch.{opened}
use Rattle.matrices.specs.Calls.{add_matrix}
use Rattle.matrices.specs.Tests.{add_matrix_test}
use Rattle.anew.specs.Calls.{from_matrix_test, from_matrix}
use Rattle.nights.proofs.Folds.{run_in}
use Rattle.determinant.specs.Det.{det_test, det}
use Rattle.strides.specs.Strides.{Begun, Strides}
use Rattle.strides.proofs.Anews.{new_begun, from_matrix_begun, from_matrix_strides, run_of, det_begun, det_strides}
use Rattle.strides.proofs.Calls.{add_row_single, add_row_strides, add_matrix_strides}
use Rattle.strides.proofs.Runs.{strides_as}
use Rattle.seasons.specs.Reached.{followed, Reached, fresh, rows}
use Rattle.seasons.proofs.Follows.{followed_all}
use Rattle.seasons.proofs.Means.{reached_known, reached_none, reached_each}

-- `new`: no rows
pub reached_new : (p n : ℕ) (mode : Mode) (m : Memory) → new_test p n mode (opening m.u_ptrs m.l_ptrs m.pivots) ≡ Ok tt → (r : ℕ → ℕ → ℕ)
    → Reached p n 0 r (counts mode p n 0 0 0 0) (opened m (new p n mode (opening m.u_ptrs m.l_ptrs m.pivots)).memory)
reached_new p n mode m good r = fresh n mode _ (new_begun p n mode m good) r

module _ {p n k : ℕ} {r : ℕ → ℕ → ℕ} {c : Counts} where
  -- a run of single steps in the reducer's own modulus and column count
  pub reached_rows : {m l : Memory} {d : Counts} {ts : List Told} → Reached p n k r c m → Strides c.modulus c.ncols c m ts d l → Reached p n (k + length (accepted ts)) (followed k r (accepted ts)) d l
  reached_rows {m} {l} {d} {ts} past strides = let w = reached_known past in rows n k r c m past ts d l (strides_as w.modulus w.ncols strides)

  module _ (on : Bool) where
    -- `add_row`, in either walk
    pub reached_add_row : (o : Lists) → Reached p n k r c o.memory → (cols vals : List ℕ) (s : Stepped) → (add_row on c cols vals o).answer ≡ Ok s
        → Reached p n (k + length (accepted (told (entries cols vals) s.answer ∷ []))) (followed k r (accepted (told (entries cols vals) s.answer ∷ []))) s.counts (add_row on c cols vals o).memory.memory
    reached_add_row o past cols vals s e = reached_rows past (add_row_strides on c cols vals o s e)

    -- it answers None exactly for a combination of the rows accepted before
    pub reached_row : (o : Lists) → Reached p n k r c o.memory → (cols vals : List ℕ) (s : Stepped) → (add_row on c cols vals o).answer ≡ Ok s
        → (s.answer ≡ None) ↔ Combination p n k r (value_of (entries cols vals))
    reached_row o past cols vals s e =
        let x = add_row_single on c cols vals o s e in
        let w = reached_known past in
        rw (← x.answer) (reached_none past on (entries cols vals) (rw (← w.modulus, ← w.ncols) x.row))

    -- `add_matrix`, in either walk, whatever ends it
    pub reached_add_matrix : (w : Night) → Reached p n k r c w.memory → (a : Matrix) (good : add_matrix_test c a w.dense w.answers w.memory ≡ Ok tt) (d : Run)
        → let ts : List Told = (add_matrix_strides on d c a w good).new in
        Reached p n (k + length (accepted ts)) (followed k r (accepted ts)) (run_in d (add_matrix on c a w).answer).counts (add_matrix on c a w).memory.memory
    reached_add_matrix w past a good d = reached_rows past (add_matrix_strides on d c a w good).strides

    -- each of its answers is None exactly for a combination of the rows accepted before, in it and before it
    pub reached_matrix : (w : Night) → Reached p n k r c w.memory → (a : Matrix) (good : add_matrix_test c a w.dense w.answers w.memory ≡ Ok tt) (d : Run)
        → let ts : List Told = (add_matrix_strides on d c a w good).new in
        (i : ℕ) → i < length ts → ((get_or ts i (told [] None)).answer ≡ None) ↔ Combination p n (k + length (accepted (take i ts))) (followed k r (accepted (take i ts))) (value_of (get_or ts i (told [] None)).row)
    reached_matrix w past a good d = let x = reached_known past in reached_each past (strides_as x.modulus x.ncols (add_matrix_strides on d c a w good).strides)

-- a run of single steps from a fresh start
pub reached_anew : {mode : Mode} {p n : ℕ} {m l : Memory} {d : Counts} {ts : List Told} → Begun mode p n m → Strides p n (counts mode p n 0 0 0 0) m ts d l → Reached p n (length (accepted ts)) (values_in (accepted ts)) d l
reached_anew {mode} {p} {n} {m} {l} {d} {ts} start strides =
    rw (← followed_all 0 (λ i j. 0) refl (accepted ts), ← zero-add (length (accepted ts)))
    (rows n 0 (λ i j. 0) (counts mode p n 0 0 0 0) m (fresh n mode m start (λ i j. 0)) ts d l strides)

-- `from_matrix` and `from_matrix_check_dependent` start afresh
pub reached_from_matrix : (p : ℕ) (mode : Mode) (a : Matrix) (w : Night) (good : from_matrix_test p mode a w.dense w.answers w.memory.u_ptrs w.memory.l_ptrs w.memory.pivots ≡ Ok tt) (on check : Bool) (d : Run)
    → let ts : List Told = (from_matrix_strides p mode a w good on check d).new in
    Reached p a.ncols (length (accepted ts)) (values_in (accepted ts)) (run_in d (from_matrix on check p mode a w).answer).counts (from_matrix on check p mode a w).memory.memory
reached_from_matrix p mode a w good on check d = reached_anew (from_matrix_begun p mode a w good) (from_matrix_strides p mode a w good on check d).strides

-- so does `det`
pub reached_det : (p : ℕ) (a : Matrix) (o : Lists) (good : det_test p a o.dense o.memory.u_ptrs o.memory.l_ptrs o.memory.pivots ≡ Ok tt) (d : Run)
    → let ts : List Told = (det_strides p a o good d).new in
    Reached p a.ncols (length (accepted ts)) (values_in (accepted ts)) (run_of d (det p a o).answer).counts (det p a o).memory.memory
reached_det p a o good d = reached_anew (det_begun p a o good) (det_strides p a o good d).strides
