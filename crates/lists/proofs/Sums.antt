-- Finite sums: termwise, a common factor, two sums exchanged, single terms, remainders.
-- Assumes nothing.
use mathlib.Core.Path.{◌≡◌, refl, sym, ap, ◌∙◌}
use Prim.Native.Nat.{ℕ, zero, suc, ◌+◌, ◌*◌, ◌%◌, ◌<◌}
use native.Mathlib.Nat.{le_refl, not-suc-le-zero, add-zero, zero-add, mul-add, mul-zero, add_assoc, add_comm, add-suc, add-mod, mod-mod}
use native.Mathlib.Decide.{dec_lt, ℕ_discrete}
use native.Mathlib.Omega.{arith}
use mathlib.Core.Bool.{cond}
use lib.Dec.{eqb}
use borrow.Author.Tests.{eq-eqb, ne_eqb}
use Rattle.lists.specs.Sum.{Σ}

-- equal terms, equal sums
pub sum-ext : (n : ℕ) (f g : ℕ → ℕ) → ((i : ℕ) → i < n → f i ≡ g i) → Σ n f ≡ Σ n g
unfolding Σ
sum-ext zero f g h = refl
sum-ext (suc n) f g h = (λ i. sum-ext n f g (λ k below. h k (omega arith)) i + h n (le_refl (suc n)) i)

-- terms that are 0
pub sum-zero : (n : ℕ) (f : ℕ → ℕ) → ((i : ℕ) → i < n → f i ≡ 0) → Σ n f ≡ 0
unfolding Σ
sum-zero zero f h = refl
sum-zero (suc n) f h = let rest : Σ n f ≡ 0 = sum-zero n f (λ k below. h k (omega arith)) in omega (arith, h n (le_refl (suc n)))

-- two sums, term by term
pub sum-add : (n : ℕ) (f g : ℕ → ℕ) → Σ n (λ i. f i + g i) ≡ Σ n f + Σ n g
unfolding Σ
sum-add zero f g = refl
sum-add (suc n) f g = let rest : Σ n (λ i. f i + g i) ≡ Σ n f + Σ n g = sum-add n f g in omega arith

-- a common factor
pub sum-mul : (n c : ℕ) (f : ℕ → ℕ) → Σ n (λ i. c * f i) ≡ c * Σ n f
unfolding Σ
sum-mul zero c f = sym (mul-zero c)
sum-mul (suc n) c f = ap (λ (x : ℕ). x + c * f n) (sum-mul n c f) ∙ sym (mul-add c (Σ n f) (f n))

-- the first m terms, then the rest
pub sum-split : (m n : ℕ) (f : ℕ → ℕ) → Σ (m + n) f ≡ Σ m f + Σ n (λ i. f (m + i))
unfolding Σ
sum-split m zero f = ap (λ (k : ℕ). Σ k f) (add-zero m) ∙ sym (add-zero (Σ m f))
sum-split m (suc n) f = ap (λ (k : ℕ). Σ k f) (add-suc m n) ∙ ap (λ (x : ℕ). x + f (m + n)) (sum-split m n f) ∙ add_assoc (Σ m f) (Σ n (λ i. f (m + i))) (f (m + n))

-- the order of two sums
pub sum-swap : (m n : ℕ) (f : ℕ → ℕ → ℕ) → Σ m (λ i. Σ n (λ j. f i j)) ≡ Σ n (λ j. Σ m (λ i. f i j))
unfolding Σ
sum-swap zero n f = sym (sum-zero n (λ j. Σ 0 (λ i. f i j)) (λ j below. refl))
sum-swap (suc m) n f = ap (λ (x : ℕ). x + Σ n (λ j. f m j)) (sum-swap m n f) ∙ sym (sum-add n (λ j. Σ m (λ i. f i j)) (λ j. f m j))

-- one term alone
pub sum_one : (n k : ℕ) (f : ℕ → ℕ) → k < n → ((i : ℕ) → i < n → (i ≡ k → ⊥) → f i ≡ 0) → Σ n f ≡ f k
unfolding Σ
sum_one zero k f h others = absurd (not-suc-le-zero h)
sum_one (suc n) k f h others = go (dec_lt k n) (sum_one n k f)
  where
    go : Dec (k < n) → (k < n → ((i : ℕ) → i < n → (i ≡ k → ⊥) → f i ≡ 0) → Σ n f ≡ f k) → Σ (suc n) f ≡ f k
    go (yes below) ih =
        let front : Σ n f ≡ f k = ih below (λ i b. others i (omega arith)) in
        let last : f n ≡ 0 = others n (le_refl (suc n)) (λ e. omega arith) in
        omega arith
    go (no above) ih =
        let here : n ≡ k = omega arith in
        let front : Σ n f ≡ 0 = sum-zero n f (λ i b. others i (omega arith) (λ e. omega arith)) in
        ap (λ (x : ℕ). x + f n) front ∙ zero-add (f n) ∙ ap f here

-- the first term apart
pub sum_first : (n : ℕ) (f : ℕ → ℕ) → Σ (suc n) f ≡ f 0 + Σ n (λ i. f (suc i))
unfolding Σ
sum_first zero f = add_comm 0 (f 0)
sum_first (suc n) f = ap (λ (x : ℕ). x + f (suc n)) (sum_first n f) ∙ add_assoc (f 0) (Σ n (λ i. f (suc i))) (f (suc n))

-- inner remainders of the terms
pub sum-mod : (n p : ℕ) (f : ℕ → ℕ) → Σ n (λ i. f i % p) % p ≡ Σ n f % p
unfolding Σ
sum-mod zero p f = refl
sum-mod (suc n) p f =
    add-mod (Σ n (λ i. f i % p)) (f n % p) p
    ∙ ap (λ (x : ℕ). (x + f n % p % p) % p) (sum-mod n p f)
    ∙ ap (λ (x : ℕ). (Σ n f % p + x) % p) (mod-mod (f n) p)
    ∙ sym (add-mod (Σ n f) (f n) p)

-- terms that leave the same leave the same in sum
pub sum_same : (n p : ℕ) (f g : ℕ → ℕ) → ((i : ℕ) → i < n → f i % p ≡ g i % p) → Σ n f % p ≡ Σ n g % p
sum_same n p f g h = sym (sum-mod n p f) ∙ ap (λ (x : ℕ). x % p) (sum-ext n (λ i. f i % p) (λ i. g i % p) h) ∙ sum-mod n p g

-- one term alone, the others leaving 0
pub sum_one_mod : (n k p : ℕ) (f : ℕ → ℕ) → k < n → ((i : ℕ) → i < n → (i ≡ k → ⊥) → f i % p ≡ 0 % p) → Σ n f % p ≡ f k % p
sum_one_mod n k p f h others =
    sum_same n p f g same ∙ ap (λ (x : ℕ). x % p) (sum_one n k g h (λ i l ne. rw (ne_eqb i k ne)) ∙ rw (eq-eqb k k refl))
  where
    g : ℕ → ℕ
    g i = cond (eqb i k) (f i) 0

    same : (i : ℕ) → i < n → f i % p ≡ cond (eqb i k) (f i) 0 % p
    same i l = go (ℕ_discrete i k)
      where
        go : Dec (i ≡ k) → f i % p ≡ cond (eqb i k) (f i) 0 % p
        go (yes e) = rw (eq-eqb i k e)
        go (no ne) = rw (ne_eqb i k ne) (others i l ne)
