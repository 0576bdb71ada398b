-- The rows that a reduction took since its last fresh start, in order over all calls, and the counts and lists after them.
use Rattle.std.specs.Prelude.{List, ℕ}
use Rattle.state.specs.Fresh.{counts}
use Rattle.state.specs.Memory.{Memory}
use Rattle.state.specs.declared.Counts.{Counts}
use Rattle.state.specs.declared.Mode.{Mode}
use Rattle.steps.specs.History.{Told}
use Rattle.strides.specs.Strides.{Begun, Strides}

-- a fresh start with no rows; then the rows ts by the single step
pub record Took (mode : Mode) (p n : ℕ) (ts : List Told) (c : Counts) (m : Memory) : Type 0 where
  pub from : Memory
  pub start : Begun mode p n from
  pub strides : Strides p n (counts mode p n 0 0 0 0) from ts c m
