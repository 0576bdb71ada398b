-- What the functions of this crate ask of their arguments: what the tests before them have shown.
use Rattle.std.specs.Prelude.{ℕ, ◌+◌, ◌≤◌, ◌<◌, List, length, get_or}
use Rattle.columns.specs.Asks.{NotFalling}

-- by 2, 11 and 12: positions among n columns, and a place in the pivot table for each column, new ones counted
pub record Spreads (n : ℕ) (positions pivots : List ℕ) : Type 0 where
  pub sorted : NotFalling positions
  pub low : (k : ℕ) → k < length positions → get_or positions k 0 ≤ n
  pub wide : n + length positions ≤ 1024
  pub table : n + length positions ≤ length pivots
