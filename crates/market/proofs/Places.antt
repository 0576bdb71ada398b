-- A place in the text: the byte there and what is left after it, or nothing.
-- Assumes nothing.
use mathlib.Core.Path.{◌≡◌}
use mathlib.Core.List.{List, [], ◌∷◌}
use Prim.Native.Nat.{ℕ, zero, suc, ◌+◌, ◌≤◌, ◌<◌}
use native.Mathlib.Numerals.{add-one}
use native.Mathlib.Omega.{arith}
use lib.ListN.{length, drop, get_or}
use lib.Seq.{drop-cons, drop-nil}

pub byte_at : (text : List ℕ) (i : ℕ) → i < length text → drop i text ≡ get_or text i 0 ∷ drop (i + 1) text
byte_at text i h = rw (add-one, drop-cons text i 0)

pub none_left : (text : List ℕ) (i : ℕ) → length text ≤ i → drop i text ≡ []
none_left [] i h = drop-nil i
none_left (b ∷ text) zero h = absurd (omega arith)
none_left (b ∷ text) (suc i) h = none_left text i (omega arith)
