-- What the functions of this crate ask of their arguments: what the tests and the reduction have shown.
use Rattle.std.specs.Prelude.{List, ℕ, ◌+◌, ◌≤◌, ◌<◌, length, get_or}
use Rattle.sparse.specs.Matrix.{row}
use Rattle.signs.specs.Value.{last_of}

-- a place of a short table
pub record PlaceOf (xs : List ℕ) (j : ℕ) : Type 0 where
  pub few : length xs ≤ 1024
  pub within : j < length xs

-- rows that lie within the values, and last entries that are residues
pub record Multiplies (p rows : ℕ) (ptrs vals : List ℕ) : Type 0 where
  pub least : 2 ≤ p
  pub pointers : rows < length ptrs
  pub rises : (i : ℕ) → i < rows → get_or ptrs i 0 ≤ get_or ptrs (i + 1) 0
  pub within : (i : ℕ) → i < rows → get_or ptrs (i + 1) 0 ≤ length vals
  pub small : (i : ℕ) → i < rows → last_of (row ptrs vals i) < p

-- and a pivot table for the columns
pub record Values (p n rows : ℕ) (l_vals l_ptrs pivots : List ℕ) : Type 0 where
  pub narrow : n ≤ 1024
  pub table : n ≤ length pivots
  pub lasts : Multiplies p rows l_ptrs l_vals
