-- Free places, with and without a sum.
-- Assumes nothing.
use mathlib.Core.Path.{◌≡◌}
use Prim.Native.Nat.{ℕ, ◌+◌, ◌-◌, ◌<◌}
use native.Mathlib.Decide.{dec_lt}
use native.Mathlib.Omega.{arith}
use borrow.Author.Tests.{le-leb, lt-leb, le-ltb, lt-ltb}
use lib.Dec.{leb, ltb}

-- at most k are left of a
pub leb_left : (a b k : ℕ) → leb (a - b) k ≡ leb a (b + k)
leb_left a b k = go (dec_lt k (a - b))
  where
    go : Dec (k < a - b) → leb (a - b) k ≡ leb a (b + k)
    go (yes h) = rw (lt-leb (a - b) k h, lt-leb a (b + k) (omega arith))
    go (no h) = rw (le-leb (a - b) k (omega arith), le-leb a (b + k) (omega arith))

-- fewer than k+1 are at most k
pub ltb_one : (a k : ℕ) → ltb a (k + 1) ≡ leb a k
ltb_one a k = go (dec_lt k a)
  where
    go : Dec (k < a) → ltb a (k + 1) ≡ leb a k
    go (yes h) = rw (lt-leb a k h, le-ltb a (k + 1) (omega arith))
    go (no h) = rw (le-leb a k (omega arith), lt-ltb a (k + 1) (omega arith))
