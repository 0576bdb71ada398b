-- What writing entries asks for, and what it leaves.
use Rattle.std.specs.Prelude.{◌≡◌, List, [], map, ℕ, ◌-◌, ◌≤◌, length, drop, Ok}
use Rattle.lists.specs.Onto.{◌onto◌}
use Rattle.triplets.specs.Triplets.{Triplet, triplet}
use Rattle.market.specs.Parse.{got, lines}
use Rattle.market.specs.Tests.{entries_test}

-- counted from 0
unfoldable pub from_zero : Triplet → Triplet
from_zero t = triplet (t.row - 1) (t.col - 1) t.value

-- the rows, columns and values of entries, counted from 0
unfoldable pub rows_in : List Triplet → List ℕ
rows_in ts = map (λ t. t.row - 1) ts

unfoldable pub cols_in : List Triplet → List ℕ
cols_in ts = map (λ t. t.col - 1) ts

unfoldable pub values_in : List Triplet → List ℕ
values_in ts = map (λ t. t.value) ts

-- entries that have passed the tests stand at a place of the text, and there is room for them
pub record Entries (text : List ℕ) (count place : ℕ) (ts : List Triplet) (rows cols vals : List ℕ) : Type 0 where
  pub nrows : ℕ
  pub ncols : ℕ
  pub good : entries_test nrows ncols ts ≡ Ok tt
  pub read : lines count (drop place text) ≡ got ts []
  pub row_room : count ≤ length rows
  pub col_room : count ≤ length cols
  pub value_room : count ≤ length vals

-- the entries at the front of three lists
pub record Listed (ts : List Triplet) (rows cols vals rows' cols' vals' : List ℕ) : Type 0 where
  pub row : rows' ≡ rows_in ts onto rows
  pub col : cols' ≡ cols_in ts onto cols
  pub value : vals' ≡ values_in ts onto vals
