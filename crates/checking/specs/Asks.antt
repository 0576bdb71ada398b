-- What the parts of the account check ask for: what the tests before them have shown.
use Rattle.std.specs.Prelude.{◌≡◌, List, ℕ, ◌-◌, ◌<◌, length, Ok}
use Rattle.lists.specs.Table.{table}
use Rattle.sparse.specs.Asks.{Cut}
use Rattle.sparse.specs.Rows.{entries}
use Rattle.sparse.specs.Tests.{clean}
use Rattle.state.specs.Asks.{Opened}
use Rattle.steps.specs.Rows.{CleanRow}
use Rattle.accounts.specs.Account.{Account}
use Rattle.judging.specs.Asks.{Rows}

-- U's slices, not broken, beside a modulus and a pivot table
pub record Whole (p n : ℕ) (cols vals ptrs pivots : List ℕ) : Type 0 where
  pub opened : Opened p n pivots
  pub same : length cols ≡ length vals
  pub pointers : 0 < length ptrs

-- L's slices, not broken
pub record Lower (cols vals ptrs : List ℕ) : Type 0 where
  pub same : length cols ≡ length vals
  pub cut : Cut (length ptrs - 1) (length vals) ptrs

-- a clean row, k earlier rows of U, L, and dense memory that is zero
pub record RowChecks (p n : ℕ) (u_cols u_vals u_ptrs l_cols l_vals l_ptrs : List ℕ) (k : ℕ) (cols vals dense : List ℕ) : Type 0 where
  pub positive : 0 < p
  pub upper : Rows n u_cols u_vals u_ptrs
  pub low : k < length u_ptrs
  pub lower : Lower l_cols l_vals l_ptrs
  pub same : length cols ≡ length vals
  pub clean : CleanRow p n (entries cols vals)
  pub zero : dense ≡ table n (λ j. 0)

-- clean rows with an answer each, U, L, and dense memory that is zero
pub record Checks (a : Account) (dense : List ℕ) : Type 0 where
  pub positive : 0 < a.modulus
  pub rows : clean 65536 a.modulus a.rows ≡ Ok tt
  pub answers : length a.answers ≡ a.rows.nrows
  pub upper : Rows a.rows.ncols a.memory.u_cols a.memory.u_vals a.memory.u_ptrs
  pub pointers : 0 < length a.memory.u_ptrs
  pub lower : Lower a.memory.l_cols a.memory.l_vals a.memory.l_ptrs
  pub zero : dense ≡ table a.rows.ncols (λ j. 0)
