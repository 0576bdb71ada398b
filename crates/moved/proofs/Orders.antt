-- A list that has each number below n exactly once is a permutation.
-- Assumes nothing.
use mathlib.Core.Path.{◌≡◌, refl, sym}
use mathlib.Core.List.{List, [], ◌∷◌}
use Prim.Native.Nat.{ℕ, zero, suc, ◌≤◌, ◌<◌}
use native.Mathlib.Nat.{not-suc-le-zero}
use native.Mathlib.Decide.{dec_lt}
use native.Mathlib.Omega.{arith}
use lib.Dec.{eqb}
use lib.ListN.{length, get_or}
use borrow.Author.Tests.{eq-eqb}
use Rattle.lists.specs.Find.{count}
use Rattle.lists.proofs.Pigeons.{Distinct, distinct_all}
use Rattle.moves.proofs.Totals.{Once, once_many}
use Rattle.moved.specs.Permutes.{Permutes}

-- a number that stands there is counted,
count_some : (r : ℕ) (xs : List ℕ) (k : ℕ) → k < length xs → get_or xs k 0 ≡ r → 1 ≤ count (eqb r) xs
unfolding count
count_some r [] k h e = absurd (not-suc-le-zero h)
count_some r (x ∷ xs) zero h e = rw (eq-eqb r x (sym e)) (omega arith)
count_some r (x ∷ xs) (suc k) h e = let rest : 1 ≤ count (eqb r) xs = count_some r xs k (omega arith) e in omega arith

-- and twice where it stands twice
count_two : (r : ℕ) (xs : List ℕ) (i k : ℕ) → i < k → k < length xs → get_or xs i 0 ≡ r → get_or xs k 0 ≡ r → 2 ≤ count (eqb r) xs
unfolding count
count_two r [] i k l h e f = absurd (not-suc-le-zero h)
count_two r (x ∷ xs) i zero l h e f = absurd (not-suc-le-zero l)
count_two r (x ∷ xs) zero (suc k) l h e f = let rest : 1 ≤ count (eqb r) xs = count_some r xs k (omega arith) f in rw (eq-eqb r x (sym e)) (omega arith)
count_two r (x ∷ xs) (suc i) (suc k) l h e f = let rest : 2 ≤ count (eqb r) xs = count_two r xs i k (omega arith) (omega arith) e f in omega arith

pub once_permutes : (n : ℕ) (xs : List ℕ) → Once n xs → Permutes n (λ i. get_or xs i 0)
once_permutes n xs o = record { below = low; apart = distinct.same; each = distinct_all n (λ i. get_or xs i 0) distinct low }
  where
    many : length xs ≡ n
    many = once_many n xs o

    low : (i : ℕ) → i < n → get_or xs i 0 < n
    low i l = o.below i (omega (arith, many))

    never : (i k : ℕ) → i < k → k < n → get_or xs i 0 ≡ get_or xs k 0 → ⊥
    never i k l h e = let two : 2 ≤ count (eqb (get_or xs k 0)) xs = count_two (get_or xs k 0) xs i k l (omega (arith, many)) e refl in omega (arith, o.each (get_or xs k 0) (low k h))

    distinct : Distinct n (λ i. get_or xs i 0)
    distinct = record { same = λ i k a b e. go i k a b e (dec_lt i k) (dec_lt k i) }
      where
        go : (i k : ℕ) → i < n → k < n → get_or xs i 0 ≡ get_or xs k 0 → Dec (i < k) → Dec (k < i) → i ≡ k
        go i k a b e (yes l) q = absurd (never i k l b e)
        go i k a b e (no l) (yes g) = absurd (never k i g a (sym e))
        go i k a b e (no l) (no g) = omega arith
