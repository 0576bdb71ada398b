-- What reading a reduction's value asks for.
use Rattle.std.specs.Prelude.{◌≡◌, List, ℕ}
use Rattle.telling.specs.declared.Reduced.{Reduced}
use Rattle.telling.specs.declared.Reduced.TheVariants.{Taken}
use Rattle.telling.specs.declared.Run.{Run}
use Rattle.signs.specs.Asks.{Values}

-- where all rows were taken, an L with values, and a pivot table for the columns
pub record Readable (p n : ℕ) (reduced : Reduced) (l_vals l_ptrs pivots : List ℕ) : Type 0 where
  pub taken : (r : Run) → reduced ≡ Taken r → Values p n r.counts.l_rows l_vals l_ptrs pivots
