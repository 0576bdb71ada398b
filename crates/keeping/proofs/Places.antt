-- Counts that are within a list and within the limit are within its places.
-- Assumes nothing.
use mathlib.Core.Path.{◌≡◌}
use mathlib.Core.Bool.{false, cond}
use mathlib.Core.List.{List}
use Prim.Native.Nat.{ℕ, ◌≤◌, ◌<◌}
use native.Mathlib.Decide.{dec_lt}
use native.Mathlib.Omega.{arith}
use borrow.Author.Tests.{lt-leb, lt-ltb, le-ltb}
use lib.Dec.{ltb}
use lib.ListN.{length}
use Rattle.state.specs.Memory.{at_most, places}
use Rattle.state.specs.State.{u_lost}

pub places_most : (k : ℕ) (xs : List ℕ) → k ≤ length xs → k ≤ 1048576 → k ≤ places xs
unfolding places at_most
places_most k xs there few = go (dec_lt 1048576 (length xs))
  where
    go : Dec (1048576 < length xs) → k ≤ cond (ltb 1048576 (length xs)) 1048576 (length xs)
    go (yes h) = rw (lt-ltb 1048576 (length xs) h) few
    go (no h) = rw (le-ltb 1048576 (length xs) (omega arith)) there

-- so U's rows and entries are not lost
pub none_lost : (rank fill : ℕ) (cols vals ptrs : List ℕ) → rank < length ptrs → rank < 1048576 → fill ≤ length cols → fill ≤ length vals → fill ≤ 1048576 → u_lost rank fill cols vals ptrs ≡ false
unfolding u_lost
none_lost rank fill cols vals ptrs pointers low columns numbers few =
    rw (lt-leb (places ptrs) rank (places_most _ ptrs pointers low), le-ltb (places cols) fill (places_most fill cols columns few), le-ltb (places vals) fill (places_most fill vals numbers few))
