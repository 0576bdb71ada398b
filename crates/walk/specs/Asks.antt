-- What the kernels ask of their arguments: rows, heads and the pivot table, never counts.
use Rattle.std.specs.Prelude.{◌≡◌, ℕ, ◌+◌, ◌≤◌, ◌<◌, List, length, get_or}
use Rattle.lists.specs.Table.{table}
use Rattle.meaning.proofs.Values.{Climbs}
use Rattle.sparse.specs.Matrix.{row}
use Rattle.sparse.specs.Pivots.{mark}

-- a row of n columns, to be put into dense memory that is zero
pub record Loads (n : ℕ) (cols vals dense : List ℕ) : Type 0 where
  pub same : length cols ≡ length vals
  pub climbs : Climbs n cols
  pub zero : dense ≡ table n (λ j. 0)

-- residues modulo p, and a row of their columns
pub record Adds (p : ℕ) (cols vals dense : List ℕ) : Type 0 where
  pub same : length cols ≡ length vals
  pub climbs : Climbs (length dense) cols
  pub small : (j : ℕ) → j < length dense → get_or dense j 0 < p

-- row r of U, with its head of 1 at column c
pub record PivotRow (n c : ℕ) (cols vals ptrs : List ℕ) (r : ℕ) : Type 0 where
  pub pointer : r + 1 < length ptrs
  pub filled : get_or ptrs r 0 < get_or ptrs (r + 1) 0
  pub columns : get_or ptrs (r + 1) 0 ≤ length cols
  pub numbers : get_or ptrs (r + 1) 0 ≤ length vals
  pub climbs : Climbs n (row ptrs cols r)
  pub starts : get_or cols (get_or ptrs r 0) 0 ≡ c
  pub one : get_or vals (get_or ptrs r 0) 0 ≡ 1

-- each pivot's row has its head there
pub record Pivoted (n : ℕ) (cols vals ptrs pivots : List ℕ) : Type 0 where
  pub table : n ≤ length pivots
  pub rows : (c : ℕ) → c < n → (get_or pivots c 0 ≡ mark → ⊥) → PivotRow n c cols vals ptrs (get_or pivots c 0)

-- an entry that a pivot row clears
pub record Clears (p c : ℕ) (cols vals ptrs : List ℕ) (r : ℕ) (dense : List ℕ) : Type 0 where
  pub within : c < length dense
  pub small : (j : ℕ) → j < length dense → get_or dense j 0 < p
  pub pivot : PivotRow (length dense) c cols vals ptrs r

-- a row of residues, nothing before `from`, and U
pub record Walks (p : ℕ) (cols vals ptrs table : List ℕ) (from : ℕ) (dense : List ℕ) : Type 0 where
  pub pivots : Pivoted (length dense) cols vals ptrs table
  pub small : (j : ℕ) → j < length dense → get_or dense j 0 < p
  pub within : from ≤ length dense
  pub before : (j : ℕ) → j < from → get_or dense j 0 ≡ 0
