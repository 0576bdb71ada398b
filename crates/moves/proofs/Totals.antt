-- Sums over a list: a list that has each number below n exactly once sums to the same as the numbers below n.
-- Assumes nothing.
use mathlib.Core.Path.{◌≡◌, refl, sym, ap, ap₂, ◌∙◌}
use mathlib.Core.Bool.{cond}
use mathlib.Core.List.{List, [], ◌∷◌, map, flatten}
use Prim.Native.Nat.{ℕ, zero, suc, ◌+◌, ◌*◌, ◌<◌}
use native.Mathlib.Nat.{zero-mul, one-mul, add-mul}
use native.Mathlib.Omega.{arith}
use lib.Dec.{eqb}
use lib.ListN.{length, get_or, length-append}
use borrow.Author.Tests.{eq-eqb, ne_eqb}
use Rattle.lists.specs.Find.{count}
use Rattle.lists.specs.Sum.{Σ}
use Rattle.lists.specs.Table.{table}
use Rattle.lists.proofs.Sums.{sum-ext, sum-zero, sum-add, sum_one}
use Rattle.meaning.proofs.RowLists.{flatten_snoc}

total : (ℕ → ℕ) → List ℕ → ℕ
total f [] = 0
total f (x ∷ xs) = f x + total f xs

-- each number counts as often as it stands there
total_each : (n : ℕ) (f : ℕ → ℕ) (xs : List ℕ) → ((k : ℕ) → k < length xs → get_or xs k 0 < n) → total f xs ≡ Σ n (λ r. count (eqb r) xs * f r)
unfolding total count
total_each n f [] h = sym (sum-zero n (λ r. 0 * f r) (λ r l. zero-mul (f r)))
total_each n f (x ∷ xs) h =
    ap₂ (λ (a b : ℕ). a + b) (sym (sum_one n x (λ r. cond (eqb r x) 1 0 * f r) (h 0 (omega arith)) (λ r l e. rw (ne_eqb r x e) (zero-mul (f r))) ∙ rw (eq-eqb x x refl) (one-mul (f x)))) (total_each n f xs (λ k l. h (suc k) (omega arith)))
    ∙ sym (sum-add n (λ r. cond (eqb r x) 1 0 * f r) (λ r. count (eqb r) xs * f r))
    ∙ sum-ext n _ _ (λ r l. sym (add-mul (cond (eqb r x) 1 0) (count (eqb r) xs) (f r)))

-- once each
pub record Once (n : ℕ) (xs : List ℕ) : Type 0 where
  pub below : (k : ℕ) → k < length xs → get_or xs k 0 < n
  pub each : (r : ℕ) → r < n → count (eqb r) xs ≡ 1

total_once : (n : ℕ) (f : ℕ → ℕ) (xs : List ℕ) → Once n xs → total f xs ≡ Σ n f
total_once n f xs o = total_each n f xs o.below ∙ sum-ext n _ _ (λ r l. ap (λ (k : ℕ). k * f r) (o.each r l) ∙ one-mul (f r))

total_ones : (xs : List ℕ) → total (λ r. 1) xs ≡ length xs
unfolding total
total_ones [] = refl
total_ones (x ∷ xs) = let rest : total (λ r. 1) xs ≡ length xs = total_ones xs in omega arith

sum_ones : (n : ℕ) → Σ n (λ r. 1) ≡ n
unfolding Σ
sum_ones zero = refl
sum_ones (suc n) = let rest : Σ n (λ r. 1) ≡ n = sum_ones n in omega arith

-- there are n
pub once_many : (n : ℕ) (xs : List ℕ) → Once n xs → length xs ≡ n
once_many n xs o = sym (total_ones xs) ∙ total_once n (λ r. 1) xs o ∙ sum_ones n

module _ {A : Type 0} (g : ℕ → List A) where
  length-picked : (xs : List ℕ) → length (flatten (map g xs)) ≡ total (λ r. length (g r)) xs
  unfolding total flatten
  length-picked [] = refl
  length-picked (x ∷ xs) = length-append (g x) (flatten (map g xs)) ∙ ap (λ (k : ℕ). length (g x) + k) (length-picked xs)

  -- the entries of n rows
  pub length-rows : (n : ℕ) → length (flatten (table n g)) ≡ Σ n (λ r. length (g r))
  unfolding table flatten Σ
  length-rows zero = refl
  length-rows (suc n) = ap length (flatten_snoc (table n g) (g n)) ∙ length-append (flatten (table n g)) (g n) ∙ ap (λ (k : ℕ). k + length (g n)) (length-rows n)

  -- are those of the rows picked once each
  pub length-once : (n : ℕ) (xs : List ℕ) → Once n xs → length (flatten (map g xs)) ≡ length (flatten (table n g))
  length-once n xs o = length-picked xs ∙ total_once n (λ r. length (g r)) xs o ∙ sym (length-rows n)
