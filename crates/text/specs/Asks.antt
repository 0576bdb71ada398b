-- What the writers ask of their arguments: that places are numbers of 64 bits, and that entries are there.
use Rattle.std.specs.Prelude.{◌≡◌, ℕ, ◌+◌, ◌*◌, ◌-◌, ◌^◌, ◌≤◌, ◌<◌, List, length, get_or}
use Rattle.sparse.specs.Asks.{Cut}

-- so many bytes can be counted from a place on
pub record Reach (at many : ℕ) : Type 0 where
  pub fits : at + many < 2 ^ 64

-- the entries from start up to stop are there; a piece with its comma has at most 66 bytes
pub record LineAt (start stop : ℕ) (cols vals : List ℕ) (at : ℕ) : Type 0 where
  pub rises : start ≤ stop
  pub columns : stop ≤ length cols
  pub numbers : stop ≤ length vals
  pub reach : Reach at (66 * (stop - start))

-- rows one after the other, from the first entry on
pub record RowsAt (rows : ℕ) (ptrs cols vals : List ℕ) (at : ℕ) : Type 0 where
  pub cut : Cut rows (length vals) ptrs
  pub starts : get_or ptrs 0 0 ≡ 0
  pub same : length cols ≡ length vals
  pub reach : Reach at (66 * length vals)
