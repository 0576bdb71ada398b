-- What a row's step asks for.
use Rattle.std.specs.Prelude.{◌≡◌, List, ℕ, ◌+◌, ◌≤◌, length, Ok}
use Rattle.lists.specs.Table.{table}
use Rattle.sparse.specs.Rows.{entries}
use Rattle.state.specs.Asks.{Opened}
use Rattle.state.specs.State.{state_test}
use Rattle.state.specs.declared.Counts.{Counts}
use Rattle.steps.specs.Rows.{CleanRow}
use Rattle.taking.specs.declared.Walked.{Walked}
use Rattle.stepping.specs.Take.{Lists, room_asked}

-- by 1, 2, 11 and 13: a state
pub record Stands (c : Counts) (o : Lists) : Type 0 where
  pub opened : Opened c.modulus c.ncols o.memory.pivots
  pub state : state_test c o.memory ≡ Ok tt

-- by 3 and 5 to 7: a clean row
pub record Offered (c : Counts) (cols vals : List ℕ) : Type 0 where
  pub same : length cols ≡ length vals
  pub clean : CleanRow c.modulus c.ncols (entries cols vals)

-- a state, a clean row, room where it is asked, and dense memory that is zero, a place for each column
pub record Ready (c : Counts) (cols vals : List ℕ) (o : Lists) : Type 0 where
  pub stands : Stands c o
  pub row : Offered c cols vals
  pub room : room_asked c (entries cols vals) o.memory ≡ Ok tt
  pub zero : o.dense ≡ table c.ncols (λ j. 0)

-- sums that stay within the places
pub record Countable (c : Counts) (w : Walked) : Type 0 where
  pub head : w.head ≤ 1024
  pub rank : c.rank ≤ 1024
  pub u : c.u_fill + w.u_len ≤ 1048576
  pub rows : c.l_rows ≤ 1048576
  pub l : c.l_fill + w.l_len ≤ 1048576
