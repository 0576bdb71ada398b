-- Inserting columns in a reducer: each outcome.
-- Assumes nothing.
use Rattle.std.specs.Prelude.{Err, Ok}
use mathlib.Core.Path.{◌≡◌, sym, ◌∙◌}
use mathlib.Core.List.{List, ◌++◌, map}
use Prim.Native.Nat.{ℕ}
use lib.ListN.{length, take, drop, length-map}
use lib.Seq.{length-take-le}
use Rattle.sparse.specs.Refusals.{Tested}
use Rattle.lists.specs.Onto.{◌onto◌}
use Rattle.sparse.specs.Lent.{outcome, unless}
use Rattle.sparse.specs.declared.Refusal.{Refusal}
use Rattle.columns.specs.Positions.{moved}
use Rattle.state.specs.Memory.{Memory, memory}
use Rattle.state.specs.declared.Counts.{Counts}
use Rattle.widening.specs.AddCols.{spread, wider_counts, add_cols_test, widened, add_cols}
use Rattle.widening.proofs.Passed.{widenable, held}

module _ (c : Counts) (ps : List ℕ) (m : Memory) {s : Tested} (tested : s ≡ add_cols_test c ps m) where
  pub add_refused : {why : Refusal} → s ≡ Err why → outcome (Err why) m ≡ add_cols c ps m
  unfolding add_cols unless
  add_refused e = rw (sym tested ∙ e)

  -- the first fill columns moved, the rest as it came
  pub add_made : s ≡ Ok tt → {front pivots : List ℕ} {after : Counts} → front ≡ map (moved ps) (take c.u_fill m.u_cols) → pivots ≡ spread c.ncols ps m.pivots → after ≡ wider_counts c (length ps)
      → outcome (Ok after) (memory (front ++ drop c.u_fill m.u_cols) m.u_vals m.u_ptrs m.l_cols m.l_vals m.l_ptrs pivots) ≡ add_cols c ps m
  unfolding add_cols unless widened ◌onto◌
  add_made good e f g =
      let long : length (map (moved ps) (take c.u_fill m.u_cols)) ≡ c.u_fill = length-map (take c.u_fill m.u_cols) (moved ps) ∙ length-take-le c.u_fill m.u_cols (held (widenable c ps m (sym tested ∙ good))).columns in
      rw (sym tested ∙ good, long, e, f, g)
