-- What the tests ask of their arguments, and what they leave.
use Rattle.std.specs.Prelude.{List, ℕ, ◌≤◌, ◌<◌, length, get_or}

-- what a join adds: rows no more than the second part has, and at most one column
pub record Adds (more_rows add_rows add_cols : ℕ) : Type 0 where
  pub rows : add_rows ≤ more_rows
  pub columns : add_cols ≤ 1

-- by 5: a vector's indices rise strictly
pub record Strict (idcs : List ℕ) : Type 0 where
  pub rises : (i k : ℕ) → i < k → k < length idcs → get_or idcs i 0 < get_or idcs k 0
