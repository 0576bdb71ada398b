-- What the functions of the inside ask of their arguments: what the tests before them have shown.
use Rattle.std.specs.Prelude.{◌≡◌, ℕ, ◌+◌, ◌≤◌, ◌<◌, List, length, get_or}

-- by 3: a pointer for each row, and one more
pub record Pointers (rows : ℕ) (ptrs : List ℕ) : Type 0 where
  pub many : length ptrs ≡ rows + 1

-- by 4: each row lies within the entries
pub record Cut (rows entries : ℕ) (ptrs : List ℕ) : Type 0 where
  pub many : length ptrs ≡ rows + 1
  pub rises : (i : ℕ) → i < rows → get_or ptrs i 0 ≤ get_or ptrs (i + 1) 0
  pub within : (i : ℕ) → i < rows → get_or ptrs (i + 1) 0 ≤ entries
