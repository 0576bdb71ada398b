-- Counting in a list whose front passes a test and whose rest doesn't, and what a search for the seam knows.
-- Assumes nothing.
use mathlib.Core.Path.{◌≡◌, refl, sym}
use mathlib.Core.Bool.{Bool, true, false, cond, true≢false}
use mathlib.Core.List.{List, [], ◌∷◌}
use Prim.Native.Nat.{ℕ, zero, suc, ◌+◌, ◌≤◌, ◌<◌}
use native.Mathlib.Nat.{not-suc-le-zero}
use native.Mathlib.Omega.{arith}
use lib.Dec.{leb}
use lib.ListN.{length, get_or}
use borrow.Author.Tests.{le-leb, lt-leb}
use Rattle.lists.specs.Find.{count}

module _ {ℓ} {A : Type ℓ} (f : A → Bool) (d : A) where
  -- the first n pass
  pub count_front : (xs : List A) (n : ℕ) → n ≤ length xs → ((k : ℕ) → k < n → f (get_or xs k d) ≡ true) → n ≤ count f xs
  unfolding count
  count_front xs zero h all = omega arith
  count_front [] (suc n) h all = absurd (not-suc-le-zero h)
  count_front (x ∷ xs) (suc n) h all =
      let rest : n ≤ count f xs = count_front xs n (omega arith) (λ k l. all (suc k) (omega arith)) in
      rw (all 0 (omega arith)) (omega arith)

  -- none after the first n passes
  pub count_back : (xs : List A) (n : ℕ) → ((k : ℕ) → n ≤ k → k < length xs → f (get_or xs k d) ≡ false) → count f xs ≤ n
  unfolding count
  count_back [] n none = omega arith
  count_back (x ∷ xs) zero none =
      let rest : count f xs ≤ 0 = count_back xs zero (λ k h l. none (suc k) (omega arith) (omega arith)) in
      rw (none 0 (omega arith) (omega arith)) (omega arith)
  count_back (x ∷ xs) (suc n) none = go (f x) (count_back xs n (λ k h l. none (suc k) (omega arith) (omega arith)))
    where
      go : (b : Bool) → count f xs ≤ n → cond b 1 0 + count f xs ≤ suc n
      go true h = omega arith
      go false h = omega arith

-- a wider test counts no fewer
pub count_wider {ℓ} : {A : Type ℓ} (f g : A → Bool) (xs : List A) → ((x : A) → f x ≡ true → g x ≡ true) → count f xs ≤ count g xs
unfolding count
count_wider f g [] h = omega arith
count_wider f g (x ∷ xs) h = go (f x) (g x) (h x) (count_wider f g xs h)
  where
    go : (a b : Bool) → (a ≡ true → b ≡ true) → count f xs ≤ count g xs → cond a 1 0 + count f xs ≤ cond b 1 0 + count g xs
    go true true k r = omega arith
    go true false k r = absurd (true≢false (sym (k refl)))
    go false true k r = omega arith
    go false false k r = omega arith

-- the seam lies from `low` up to `high`
pub record Between (xs : List ℕ) (c low high : ℕ) : Type 0 where
  pub rises : low ≤ high
  pub within : high ≤ length xs
  pub front : (k : ℕ) → k < low → get_or xs k 0 ≤ c
  pub back : (k : ℕ) → high ≤ k → k < length xs → c < get_or xs k 0

-- the seam is found: as many are not above c
pub between_met : {xs : List ℕ} {c low high : ℕ} → Between xs c low high → high ≤ low → low ≡ count (λ q. leb q c) xs
between_met {xs} {c} {low} {high} b h =
    let more : low ≤ count (λ q. leb q c) xs = count_front (λ q. leb q c) 0 xs low (omega (arith, b.rises, b.within)) (λ k l. le-leb _ _ (b.front k l)) in
    let less : count (λ q. leb q c) xs ≤ low = count_back (λ q. leb q c) 0 xs low (λ k l m. lt-leb (get_or xs k 0) c (b.back k (omega arith) m)) in
    omega arith
