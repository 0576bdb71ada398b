-- What taking a row asks for.
use Rattle.std.specs.Prelude.{◌≡◌, List, ℕ, ◌≤◌, length, Ok}
use Rattle.sparse.specs.Rows.{entries}
use Rattle.state.specs.declared.Counts.{Counts}
use Rattle.stepping.specs.Asks.{Stands, Offered}
use Rattle.stepping.specs.Take.{Lists, room_asked}

-- a state, a clean row, room where it is asked, and dense memory with a place for each column
pub record Takeable (c : Counts) (cols vals : List ℕ) (o : Lists) : Type 0 where
  pub stands : Stands c o
  pub row : Offered c cols vals
  pub room : room_asked c (entries cols vals) o.memory ≡ Ok tt
  pub long : c.ncols ≤ length o.dense
