-- What the functions of this crate ask of their arguments.
use Rattle.std.specs.Prelude.{ℕ, ◌≤◌, ◌<◌, List, length, get_or}

-- positions that don't fall; equal ones may stand side by side
pub record NotFalling (xs : List ℕ) : Type 0 where
  pub order : (i j : ℕ) → i ≤ j → j < length xs → get_or xs i 0 ≤ get_or xs j 0

-- by 2, 5 and 12: columns to move, and where to insert new ones
pub record Movable (positions cols : List ℕ) : Type 0 where
  pub sorted : NotFalling positions
  pub few : length positions ≤ 1024
  pub low : (k : ℕ) → k < length cols → get_or cols k 0 ≤ 1024
