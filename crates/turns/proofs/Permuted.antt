-- A sum over permuted places, and over the places below one.
-- Assumes nothing.
use mathlib.Core.Path.{◌≡◌, refl, sym, ap, ◌∙◌}
use mathlib.Core.Bool.{cond}
use Prim.Native.Nat.{ℕ, ◌+◌, ◌-◌, ◌≤◌, ◌<◌}
use native.Mathlib.Nat.{add-zero}
use native.Mathlib.Omega.{arith}
use borrow.Author.Tests.{lt-ltb, le-ltb, eq-eqb, ne_eqb}
use lib.Dec.{eqb, ltb}
use Rattle.lists.specs.Sum.{Σ}
use Rattle.lists.proofs.Sums.{sum-ext, sum-zero, sum-split, sum-swap, sum_one}

-- f and g take the places below n to each other
pub record Turned (n : ℕ) (f g : ℕ → ℕ) : Type 0 where
  pub below : (i : ℕ) → i < n → f i < n
  pub back : (i : ℕ) → i < n → g (f i) ≡ i
  pub from : (i : ℕ) → i < n → g i < n
  pub forth : (i : ℕ) → i < n → f (g i) ≡ i

module _ {n : ℕ} {f g : ℕ → ℕ} (t : Turned n f g) (a : ℕ → ℕ) where
  -- a e where e is the place of i, else 0
  here : ℕ → ℕ → ℕ
  here i e = cond (eqb e (f i)) (a e) 0

  one_place : (i : ℕ) → i < n → Σ n (here i) ≡ a (f i)
  unfolding here
  one_place i l = sum_one n (f i) (here i) (t.below i l) (λ e b no. rw (ne_eqb e (f i) no)) ∙ rw (eq-eqb (f i) (f i) refl)

  one_source : (e : ℕ) → e < n → Σ n (λ i. here i e) ≡ a e
  unfolding here
  one_source e l =
      sum_one n (g e) (λ i. here i e) (t.from e l) (λ i b no. rw (ne_eqb e (f i) (λ q. no (sym (ap g q ∙ t.back i b)))))
      ∙ rw (eq-eqb e (f (g e)) (sym (t.forth e l)))

  pub sum-turned : Σ n (λ i. a (f i)) ≡ Σ n a
  sum-turned =
      sym (sum-ext n (λ i. Σ n (here i)) (λ i. a (f i)) one_place)
      ∙ sum-swap n n here
      ∙ sum-ext n (λ e. Σ n (λ i. here i e)) a one_source

-- a sum over the places below j is one over all, 0 elsewhere
pub sum_below : (n j : ℕ) (a : ℕ → ℕ) → j ≤ n → Σ j a ≡ Σ n (λ i. cond (ltb i j) (a i) 0)
sum_below n j a h =
    sum-ext j a (λ i. cond (ltb i j) (a i) 0) (λ i l. rw (lt-ltb i j l))
    ∙ sym (add-zero (Σ j (λ i. cond (ltb i j) (a i) 0)))
    ∙ ap (λ (x : ℕ). Σ j (λ i. cond (ltb i j) (a i) 0) + x) (sym (sum-zero (n - j) (λ i. cond (ltb (j + i) j) (a (j + i)) 0) (λ i l. rw (le-ltb (j + i) j (omega arith)))))
    ∙ sym (sum-split j (n - j) (λ i. cond (ltb i j) (a i) 0))
    ∙ ap (λ (k : ℕ). Σ k (λ i. cond (ltb i j) (a i) 0)) whole
  where
    whole : j + (n - j) ≡ n
    whole = omega arith
