-- What the judgement of a row asks for: what the tests before it have shown.
use Rattle.std.specs.Prelude.{◌≡◌, List, ℕ, ◌+◌, ◌-◌, ◌≤◌, ◌<◌, length, get_or}
use Rattle.lists.specs.Table.{table}
use Rattle.sparse.specs.Matrix.{Matrix, matrix}
use Rattle.sparse.specs.Rows.{entries}
use Rattle.walk.specs.Asks.{PivotRow}
use Rattle.steps.specs.Rows.{CleanRow}

-- U, the whole lists
abbrev pub upper : ℕ → List ℕ → List ℕ → List ℕ → Matrix
upper n cols vals ptrs = matrix (length ptrs - 1) n ptrs cols vals

-- the column of row r's head
abbrev pub head_in : List ℕ → List ℕ → ℕ → ℕ
head_in cols ptrs r = get_or cols (get_or ptrs r 0) 0

-- row r has a head
pub record HasHead (cols ptrs : List ℕ) (r : ℕ) : Type 0 where
  pub pointer : r < length ptrs
  pub entry : get_or ptrs r 0 < length cols

-- U's rows, each with its head
pub record Rows (n : ℕ) (cols vals ptrs : List ℕ) : Type 0 where
  pub each : (r : ℕ) → r + 1 < length ptrs → PivotRow n (head_in cols ptrs r) cols vals ptrs r

-- an L row's entry, it and those before it naming rows that have heads
pub record Follows (cols ptrs l_cols : List ℕ) (at : ℕ) : Type 0 where
  pub within : at < length l_cols
  pub heads : (i : ℕ) → i ≤ at → HasHead cols ptrs (get_or l_cols i 0)

-- U, of whose rows k are earlier ones
pub record Ranked (n : ℕ) (cols vals ptrs : List ℕ) (k : ℕ) : Type 0 where
  pub rows : Rows n cols vals ptrs
  pub low : k < length ptrs

-- and an L row
pub record Named (n : ℕ) (cols vals ptrs : List ℕ) (k : ℕ) (l_cols l_vals : List ℕ) : Type 0 where
  pub upper : Ranked n cols vals ptrs k
  pub same : length l_cols ≡ length l_vals

-- and an entry, those before it naming earlier rows
pub record Placed (n : ℕ) (cols vals ptrs : List ℕ) (k : ℕ) (l_cols l_vals : List ℕ) (at : ℕ) : Type 0 where
  pub all : Named n cols vals ptrs k l_cols l_vals
  pub within : at < length l_cols
  pub before : (i : ℕ) → i < at → get_or l_cols i 0 < k

-- and so many of its entries
pub record Until (n : ℕ) (cols vals ptrs : List ℕ) (k : ℕ) (l_cols l_vals : List ℕ) (until : ℕ) : Type 0 where
  pub all : Named n cols vals ptrs k l_cols l_vals
  pub within : until ≤ length l_cols

-- residues modulo p, and a row of U
pub record AddsRow (p n : ℕ) (cols vals ptrs : List ℕ) (r : ℕ) (dense : List ℕ) : Type 0 where
  pub pivot : PivotRow n (head_in cols ptrs r) cols vals ptrs r
  pub long : length dense ≡ n
  pub small : (j : ℕ) → j < length dense → get_or dense j 0 < p

-- an L row that names rows of U, and dense memory that is zero
pub record Multiplies (p n : ℕ) (cols vals ptrs l_cols l_vals dense : List ℕ) : Type 0 where
  pub positive : 0 < p
  pub rows : Rows n cols vals ptrs
  pub same : length l_cols ≡ length l_vals
  pub names : (i : ℕ) → i < length l_cols → get_or l_cols i 0 + 1 < length ptrs
  pub zero : dense ≡ table n (λ j. 0)

-- and a clean row
pub record Compares (p n : ℕ) (u_cols u_vals ptrs l_cols l_vals cols vals dense : List ℕ) : Type 0 where
  pub product : Multiplies p n u_cols u_vals ptrs l_cols l_vals dense
  pub same : length cols ≡ length vals
  pub clean : CleanRow p n (entries cols vals)

-- a clean row, U, an L row, and dense memory that is zero
pub record Judges (p n : ℕ) (u_cols u_vals ptrs : List ℕ) (k : ℕ) (l_cols l_vals cols vals dense : List ℕ) : Type 0 where
  pub positive : 0 < p
  pub named : Named n u_cols u_vals ptrs k l_cols l_vals
  pub same : length cols ≡ length vals
  pub clean : CleanRow p n (entries cols vals)
  pub zero : dense ≡ table n (λ j. 0)
