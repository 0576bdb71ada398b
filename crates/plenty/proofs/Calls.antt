-- `from_matrix` and `det` with plenty of room: every row is taken, and there is a value; all that is lent keeps its length in any case.
-- Assumes nothing.
use Rattle.std.specs.Prelude.{Err, Ok}
use mathlib.Core.Path.{◌≡◌, refl, subst}
use mathlib.Core.Bool.{Bool, true, false}
use mathlib.Core.List.{List, []}
use Prim.Native.Nat.{ℕ}
use Rattle.sparse.specs.Refusals.{Tested}
use Rattle.sparse.specs.Lent.{unless}
use Rattle.sparse.specs.Matrix.{Matrix}
use Rattle.state.specs.Fresh.{counts}
use Rattle.state.specs.declared.Counts.{Counts}
use Rattle.state.specs.declared.Mode.{Mode}
use Rattle.state.specs.declared.Mode.TheVariants.{Full}
use Rattle.stepping.specs.Asks.{Stands}
use Rattle.stepping.specs.Take.{Lists, lists}
use Rattle.telling.specs.Runs.{run}
use Rattle.telling.specs.declared.Reduced.{Reduced}
use Rattle.telling.specs.declared.Reduced.TheVariants.{Taken, Refused}
use Rattle.telling.specs.declared.Run.{Run}
use Rattle.running.specs.Rows.{Night, night}
use Rattle.batches.specs.Batch.{take_anew}
use Rattle.anew.specs.Calls.{from_matrix_test, from_matrix}
use Rattle.anew.proofs.Anews.{from_anew}
use Rattle.nights.proofs.Folds.{run_in}
use Rattle.determinant.specs.Det.{det_test, valued, determined, det}
use Rattle.determinant.specs.declared.Determined.TheVariants.{Value, Refused as Unvalued}
use Rattle.determinant.specs.declared.Valued.{Valued}
use Rattle.determinant.proofs.Dets.{det_anew}
use Rattle.plenty.specs.Plenty.{Plenty, Whole, all, none, AllTaken, Settled, SameLengths}
use Rattle.plenty.proofs.Anews.{whole_taken, anew_settled, anew_lengths, anew_whole}
use Rattle.plenty.proofs.Lengths.{same_itself}

-- where nothing is written
same_night : (w : Night) → SameLengths w w
same_night w = record { memory = same_itself w.memory; answers = refl; dense = refl }

-- `from_matrix`, in either walk, and where it checks for dependence
module _ (on check : Bool) (p : ℕ) (mode : Mode) (a : Matrix) (w : Night) where
  abbrev test : Tested
  test = from_matrix_test p mode a w.dense w.answers w.memory.u_ptrs w.memory.l_ptrs w.memory.pivots

  abbrev c : Counts
  c = counts mode p a.ncols 0 0 0 0

  -- refused or not
  pub from_matrix_lengths : SameLengths (from_matrix on check p mode a w).memory w
  unfolding from_matrix unless
  from_matrix_lengths = go test refl
    where
      go : (t : Tested) → test ≡ t → SameLengths (unless Refused t w (take_anew on check p mode a w)).memory w
      go (Ok _) e = anew_lengths on check (from_anew p mode a w e)
      go (Err why) e = same_night w

  module _ (good : test ≡ Ok tt) where
    from_settled : Settled p a.ncols mode (run_in (run 0 c) (from_matrix on check p mode a w).answer).counts (from_matrix on check p mode a w).memory.memory
    unfolding from_matrix unless
    from_settled = rw good (anew_settled on check (from_anew p mode a w good))

    -- a state, whatever ends the rows
    pub from_matrix_stands : Stands (run_in (run 0 c) (from_matrix on check p mode a w).answer).counts (lists (from_matrix on check p mode a w).memory.memory [])
    from_matrix_stands = from_settled.stands

    -- and what is known of its counts, where all rows were taken
    pub from_matrix_settled : (r : Run) → (from_matrix on check p mode a w).answer ≡ Taken r → Settled p a.ncols mode r.counts (from_matrix on check p mode a w).memory.memory
    unfolding run_in
    from_matrix_settled r e = subst (λ (x : Reduced). Settled p a.ncols mode (run_in (run 0 c) x).counts (from_matrix on check p mode a w).memory.memory) e from_settled

    -- all rows, or up to a None where the call checks
    pub from_matrix_ends : Plenty mode a.nrows a.ncols w.memory → Whole check a.nrows (from_matrix on check p mode a w).answer
    unfolding from_matrix unless
    from_matrix_ends plenty = rw good (anew_whole on check (from_anew p mode a w good) plenty)

-- without a check, all rows
pub from_matrix_whole : (on : Bool) (p : ℕ) (mode : Mode) (a : Matrix) (w : Night) → from_matrix_test p mode a w.dense w.answers w.memory.u_ptrs w.memory.l_ptrs w.memory.pivots ≡ Ok tt → Plenty mode a.nrows a.ncols w.memory
    → AllTaken a.nrows (from_matrix on false p mode a w).answer
from_matrix_whole on p mode a w good plenty = whole_taken (from_matrix_ends on false p mode a w good plenty)

-- `det`
module _ (p : ℕ) (a : Matrix) (o : Lists) where
  abbrev det_tested : Tested
  det_tested = det_test p a o.dense o.memory.u_ptrs o.memory.l_ptrs o.memory.pivots

  -- what is lent for its rows: no answers are written
  abbrev v : Night
  v = night o.memory [] o.dense

  -- refused or not
  pub det_lengths : SameLengths (night (det p a o).memory.memory [] (det p a o).memory.dense) v
  unfolding det unless determined
  det_lengths = go det_tested refl
    where
      go : (t : Tested) → det_tested ≡ t
          → SameLengths (night (unless Unvalued t o (determined p a.ncols (take_anew false true p Full a v))).memory.memory [] (unless Unvalued t o (determined p a.ncols (take_anew false true p Full a v))).memory.dense) v
      go (Ok _) e = let l = anew_lengths false true (det_anew p a o e) in record { memory = l.memory; answers = refl; dense = l.dense }
      go (Err why) e = same_night v

  module _ (good : det_tested ≡ Ok tt) where
    -- after all rows or at a None, there is a value
    whole_valued : {k : ℕ} {x : Reduced} → Whole true k x → (l_vals l_ptrs pivots : List ℕ) → (d : Valued) × (valued p a.ncols x l_vals l_ptrs pivots ≡ Value d)
    unfolding valued
    whole_valued (all r e) l_vals l_ptrs pivots = (_, refl)
    whole_valued (none c r) l_vals l_ptrs pivots = (_, refl)

    pub det_whole : Plenty Full a.nrows a.ncols o.memory → (d : Valued) × ((det p a o).answer ≡ Value d)
    unfolding det unless determined
    det_whole plenty = rw good (whole_valued (anew_whole false true (det_anew p a o good) plenty) _ _ _)
