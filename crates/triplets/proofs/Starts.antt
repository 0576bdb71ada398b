-- Where a row starts among rows that don't fall: the first place whose row is not below it.
-- Assumes nothing.
use mathlib.Core.Path.{◌≡◌, refl, sym}
use mathlib.Core.Bool.{false}
use mathlib.Core.List.{List, [], ◌∷◌}
use Prim.Native.Nat.{ℕ, zero, suc, ◌+◌, ◌≤◌, ◌<◌}
use native.Mathlib.Nat.{not-suc-le-zero}
use native.Mathlib.Decide.{dec_lt}
use native.Mathlib.Omega.{arith}
use lib.Dec.{ltb}
use lib.ListN.{length, get_or}
use borrow.Author.Tests.{lt-ltb, le-ltb}
use Rattle.lists.specs.Find.{count}
use Rattle.lists.proofs.Counts.{count_le}
use Rattle.triplets.specs.Asks.{Rising}
use Rattle.triplets.specs.Triplets.{start_of}

-- what follows the first row
pub rising_tail : (r : ℕ) (rows : List ℕ) → Rising (r ∷ rows) → Rising rows
rising_tail r rows up = record { rises = λ i k below h. up.rises (suc i) (suc k) (omega arith) (omega arith) }

-- no row is below i
none_below : (rows : List ℕ) (i : ℕ) → ((k : ℕ) → k < length rows → i ≤ get_or rows k 0) → start_of rows i ≡ 0
unfolding start_of count
none_below [] i h = refl
none_below (r ∷ rows) i h =
    let rest : start_of rows i ≡ 0 = none_below rows i (λ k below. h (suc k) (omega arith)) in
    let first : ltb r i ≡ false = le-ltb r i (h 0 (omega arith)) in
    rw first (omega arith)

-- a row that is below i is counted
pub one_below : (r : ℕ) (rows : List ℕ) (i : ℕ) → r < i → start_of (r ∷ rows) i ≡ suc (start_of rows i)
unfolding start_of count
one_below r rows i h = rw (lt-ltb r i h) (omega arith)

-- where the first row is not below i, none after it is, and so no row is
pub tail_above : (r : ℕ) (rows : List ℕ) (i : ℕ) → Rising (r ∷ rows) → i ≤ r → start_of rows i ≡ 0
tail_above r rows i up h = none_below rows i (λ k below. let first : r ≤ get_or rows k 0 = up.rises 0 (suc k) (omega arith) (omega arith) in omega arith)

pub all_above : (r : ℕ) (rows : List ℕ) (i : ℕ) → Rising (r ∷ rows) → i ≤ r → start_of (r ∷ rows) i ≡ 0
all_above r rows i up h = none_below (r ∷ rows) i (λ k below. let first : r ≤ get_or (r ∷ rows) k 0 = up.rises 0 k (omega arith) below in omega arith)

pub start_below : (rows : List ℕ) (i : ℕ) → Rising rows → (k : ℕ) → k < start_of rows i → get_or rows k 0 < i
start_below [] i up k h = absurd (not-suc-le-zero (rw (none_below [] i (λ k below. absurd (not-suc-le-zero below))) at h))
start_below (r ∷ rows) i up k h = go k h (dec_lt r i) (start_below rows i (rising_tail r rows up))
  where
    go : (k : ℕ) → k < start_of (r ∷ rows) i → Dec (r < i) → ((k : ℕ) → k < start_of rows i → get_or rows k 0 < i) → get_or (r ∷ rows) k 0 < i
    go zero h (yes low) ih = low
    go (suc k) h (yes low) ih = ih k (omega (arith, one_below r rows i low))
    go k h (no high) ih = absurd (omega (arith, all_above r rows i up (omega arith)))

pub start_above : (rows : List ℕ) (i : ℕ) → Rising rows → (k : ℕ) → start_of rows i ≤ k → k < length rows → i ≤ get_or rows k 0
start_above [] i up k past h = absurd (not-suc-le-zero h)
start_above (r ∷ rows) i up k past h = go k past h (dec_lt r i) (start_above rows i (rising_tail r rows up))
  where
    go : (k : ℕ) → start_of (r ∷ rows) i ≤ k → k < length (r ∷ rows) → Dec (r < i) → ((k : ℕ) → start_of rows i ≤ k → k < length rows → i ≤ get_or rows k 0) → i ≤ get_or (r ∷ rows) k 0
    go zero past h (yes low) ih = absurd (omega (arith, one_below r rows i low))
    go (suc k) past h (yes low) ih = ih k (omega (arith, one_below r rows i low)) (omega arith)
    go k past h (no high) ih = let first : r ≤ get_or (r ∷ rows) k 0 = up.rises 0 k (omega arith) h in omega arith

pub start_within : (rows : List ℕ) (i : ℕ) → start_of rows i ≤ length rows
unfolding start_of
start_within rows i = count_le (λ r. ltb r i) rows

-- row 0 starts at 0
pub start_zero : (rows : List ℕ) → start_of rows 0 ≡ 0
start_zero rows = none_below rows 0 (λ k below. omega arith)

-- the place that parts the rows below i from the others is where i starts
pub start_is : (rows : List ℕ) (i s : ℕ) → Rising rows → s ≤ length rows → ((k : ℕ) → k < s → get_or rows k 0 < i) → (s < length rows → i ≤ get_or rows s 0) → s ≡ start_of rows i
start_is rows i s up within low high = go (dec_lt s (start_of rows i)) (dec_lt (start_of rows i) s)
  where
    go : Dec (s < start_of rows i) → Dec (start_of rows i < s) → s ≡ start_of rows i
    go (yes early) d =
        let inside : s < length rows = omega (arith, start_within rows i) in
        absurd (omega (arith, start_below rows i up s early, high inside))
    go (no late) (yes past) =
        let inside : start_of rows i < length rows = omega arith in
        absurd (omega (arith, low (start_of rows i) past, start_above rows i up (start_of rows i) (omega arith) inside))
    go (no late) (no past) = omega arith

-- rows start in their order
pub start_rises : (rows : List ℕ) (i k : ℕ) → Rising rows → i ≤ k → start_of rows i ≤ start_of rows k
start_rises rows i k up h = go (dec_lt (start_of rows k) (start_of rows i))
  where
    go : Dec (start_of rows k < start_of rows i) → start_of rows i ≤ start_of rows k
    go (no ordered) = omega arith
    go (yes early) =
        let inside : start_of rows k < length rows = omega (arith, start_within rows i) in
        absurd (omega (arith, start_below rows i up (start_of rows k) early, start_above rows k up (start_of rows k) (omega arith) inside))

-- where every row is below n, n starts at the end
pub start_all : (rows : List ℕ) (n : ℕ) → Rising rows → ((k : ℕ) → k < length rows → get_or rows k 0 < n) → start_of rows n ≡ length rows
start_all rows n up low = sym (start_is rows n (length rows) up (omega arith) low (λ h. omega arith))

-- from the start of row i up to the start of the next each row is i
pub row_at_lem : (rows : List ℕ) (i k : ℕ) → Rising rows → start_of rows i ≤ k → k < start_of rows (i + 1) → get_or rows k 0 ≡ i
row_at_lem rows i k up past below =
    let inside : k < length rows = omega (arith, start_within rows (i + 1)) in
    omega (arith, start_below rows (i + 1) up k below, start_above rows i up k past inside)
