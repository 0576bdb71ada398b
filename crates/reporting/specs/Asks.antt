-- What writing a report asks for.
use Rattle.std.specs.Prelude.{◌≡◌, List, ℕ, ◌+◌, ◌≤◌, length, get_or, take}
use Rattle.sparse.specs.Asks.{Cut}

-- U's rows and entries are there
pub record Rows (rank fill : ℕ) (cols vals ptrs : List ℕ) : Type 0 where
  pub cut : Cut rank fill (take (rank + 1) ptrs)
  pub starts : get_or (take (rank + 1) ptrs) 0 0 ≡ 0
  pub low : rank ≤ 1024
  pub few : fill ≤ 1048576
  pub pointers : rank + 1 ≤ length ptrs
  pub columns : fill ≤ length cols
  pub numbers : fill ≤ length vals

-- and are written from a place near the start
pub record RowsFrom (rank fill : ℕ) (cols vals ptrs : List ℕ) (place : ℕ) : Type 0 where
  pub rows : Rows rank fill cols vals ptrs
  pub near : place ≤ 1024
