-- Dense memory after a row's step: as long as before, and zero.
-- Assumes nothing.
use mathlib.Core.Path.{◌≡◌, refl, ap, ◌∙◌}
use mathlib.Core.Bool.{Bool}
use mathlib.Core.List.{List}
use Prim.Native.Nat.{ℕ, ◌≤◌}
use native.Mathlib.Omega.{arith}
use lib.ListN.{length}
use Rattle.lists.specs.Table.{table}
use Rattle.lists.proofs.Ontos.{length-onto}
use Rattle.lists.proofs.Tables.{length-table}
use Rattle.sparse.specs.Rows.{Entry}
use Rattle.state.specs.declared.Counts.{Counts}
use Rattle.stepping.specs.Take.{Lists, cleared, step_row}
use Rattle.stepping.proofs.Clears.{cleared_zero}
use Rattle.keeping.proofs.Ways.{step_ways}

module _ (on : Bool) (c : Counts) (es : List Entry) (o : Lists) where
  -- it is cleared, whatever the answer
  step_cleared : (step_row on c es o).memory.dense ≡ cleared c.ncols o.dense
  step_cleared = step_ways on c es o (λ r. r.memory.dense ≡ cleared c.ncols o.dense) (λ e. refl) (λ e. refl)

  pub step_dense_long : c.ncols ≤ length o.dense → length (step_row on c es o).memory.dense ≡ length o.dense
  unfolding cleared
  step_dense_long h = ap length step_cleared ∙ length-onto (table c.ncols (λ j. 0)) o.dense (omega (arith, length-table {A = ℕ} c.ncols (λ j. 0)))

  pub step_dense : o.dense ≡ table c.ncols (λ j. 0) → (step_row on c es o).memory.dense ≡ table c.ncols (λ j. 0)
  step_dense e = step_cleared ∙ cleared_zero c.ncols o.dense e ∙ e
