-- A row with inserted columns. A row is its value at each column.
use Rattle.std.specs.Prelude.{◌≡◌, List, ℕ, ◌+◌, ◌<◌, length, get_or}
use Rattle.columns.specs.Positions.{moved}

-- y is the row x of n columns with inserted columns as zeros
pub record Inserted (n : ℕ) (positions : List ℕ) (x y : ℕ → ℕ) : Type 0 where
  pub old : (c : ℕ) → c < n → y (moved positions c) ≡ x c
  pub new : (k : ℕ) → k < length positions → y (get_or positions k 0 + k) ≡ 0
