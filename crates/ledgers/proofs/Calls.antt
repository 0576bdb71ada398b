-- The public calls that take rows: each goes on from the rows taken, or starts afresh.
-- Assumes nothing.
use Rattle.std.specs.Prelude.{Ok}
use mathlib.Core.Path.{◌≡◌}
use mathlib.Core.Bool.{Bool}
use mathlib.Core.List.{List, [], ◌∷◌, ◌++◌}
use Prim.Native.Nat.{ℕ}
use Rattle.sparse.specs.Matrix.{Matrix}
use Rattle.sparse.specs.Rows.{entries}
use Rattle.state.specs.Fresh.{counts, opening, new_test, new}
use Rattle.state.specs.Memory.{Memory}
use Rattle.state.specs.declared.Counts.{Counts}
use Rattle.state.specs.declared.Mode.{Mode}
use Rattle.state.specs.declared.Mode.TheVariants.{Full}
use Rattle.steps.specs.History.{Told, told}
use Rattle.stepping.specs.Take.{Lists}
use Rattle.stepping.specs.declared.Stepped.{Stepped}
use Rattle.adding.specs.AddRow.{add_row}
use Rattle.telling.specs.declared.Run.{Run}
use Rattle.running.specs.Rows.{Night}
use Rattle.batches.specs.Batch.{opened, restarted}
use Rattle.matrices.specs.Calls.{add_matrix}
use Rattle.matrices.specs.Tests.{add_matrix_test}
use Rattle.anew.specs.Calls.{from_matrix_test, from_matrix}
use Rattle.nights.proofs.Folds.{run_in}
use Rattle.determinant.specs.Det.{det_test, det}
use Rattle.strides.specs.Strides.{Strides, still}
use Rattle.strides.proofs.Anews.{new_begun, from_matrix_begun, from_matrix_strides, run_of, det_begun, det_strides}
use Rattle.strides.proofs.Calls.{add_row_strides, add_matrix_strides}
use Rattle.strides.proofs.Runs.{strides_as, strides_join}
use Rattle.ledgers.specs.Taken.{Took}
use Rattle.ledgers.proofs.Takens.{took_stood}

-- a run of single steps goes on from the rows taken
pub took_more : {mode : Mode} {p n : ℕ} {ts us : List Told} {c d : Counts} {m k : Memory} → Took mode p n ts c m → Strides c.modulus c.ncols c m us d k → Took mode p n (ts ++ us) d k
took_more took more = let k = (took_stood took).kept in record { from = took.from; start = took.start; strides = strides_join took.strides (strides_as k.modulus k.ncols more) }

-- `new`: no rows
pub new_took : (p n : ℕ) (mode : Mode) (m : Memory) → new_test p n mode (opening m.u_ptrs m.l_ptrs m.pivots) ≡ Ok tt
    → Took mode p n [] (counts mode p n 0 0 0 0) (opened m (new p n mode (opening m.u_ptrs m.l_ptrs m.pivots)).memory)
new_took p n mode m good = record { from = opened m (new p n mode (opening m.u_ptrs m.l_ptrs m.pivots)).memory; start = new_begun p n mode m good; strides = still }

-- after the rows taken before: one row by `add_row`, and many by `add_matrix`
module _ (on : Bool) {mode : Mode} {p n : ℕ} {ts : List Told} {c : Counts} where
  pub add_row_took : (o : Lists) → Took mode p n ts c o.memory → (cols vals : List ℕ) (s : Stepped) → (add_row on c cols vals o).answer ≡ Ok s
      → Took mode p n (ts ++ (told (entries cols vals) s.answer ∷ [])) s.counts (add_row on c cols vals o).memory.memory
  add_row_took o took cols vals s e = took_more took (add_row_strides on c cols vals o s e)

  pub add_matrix_took : (d : Run) (w : Night) → Took mode p n ts c w.memory → (a : Matrix) (good : add_matrix_test c a w.dense w.answers w.memory ≡ Ok tt)
      → Took mode p n (ts ++ (add_matrix_strides on d c a w good).new) (run_in d (add_matrix on c a w).answer).counts (add_matrix on c a w).memory.memory
  add_matrix_took d w took a good = took_more took (add_matrix_strides on d c a w good).strides

-- from a fresh start: by `from_matrix` and `from_matrix_check_dependent`, and by `det`
pub from_matrix_took : (p : ℕ) (mode : Mode) (a : Matrix) (w : Night) (good : from_matrix_test p mode a w.dense w.answers w.memory.u_ptrs w.memory.l_ptrs w.memory.pivots ≡ Ok tt) (on check : Bool) (d : Run)
    → Took mode p a.ncols (from_matrix_strides p mode a w good on check d).new (run_in d (from_matrix on check p mode a w).answer).counts (from_matrix on check p mode a w).memory.memory
from_matrix_took p mode a w good on check d = record { from = restarted mode a.ncols w.memory; start = from_matrix_begun p mode a w good; strides = (from_matrix_strides p mode a w good on check d).strides }

pub det_took : (p : ℕ) (a : Matrix) (o : Lists) (good : det_test p a o.dense o.memory.u_ptrs o.memory.l_ptrs o.memory.pivots ≡ Ok tt) (d : Run)
    → Took Full p a.ncols (det_strides p a o good d).new (run_of d (det p a o).answer).counts (det p a o).memory.memory
det_took p a o good d = record { from = restarted Full a.ncols o.memory; start = det_begun p a o good; strides = (det_strides p a o good d).strides }
