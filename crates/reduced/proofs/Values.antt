-- A row of the span of reduced rows is told by its values at their heads.
-- Assumes nothing.
use mathlib.Core.Path.{◌≡◌, sym, ap, ◌∙◌}
use Prim.Native.Nat.{ℕ, ◌*◌, ◌%◌, ◌<◌}
use native.Mathlib.Nat.{mul-one}
use Rattle.lists.specs.Sum.{Σ}
use Rattle.lists.proofs.Mods.{mod_mul_mod, mul_mod_mod}
use Rattle.lists.proofs.Sums.{sum_same, sum_one_mod}
use Rattle.linear.proofs.Heads.{none_right}
use Rattle.linear.proofs.Span.{Span}
use Rattle.reduced.specs.Reduced.{Reduced}

-- factors that leave the same leave the same in the product
same_times : (p a b c : ℕ) → a % p ≡ b % p → a * c % p ≡ b * c % p
same_times p a b c e = sym (mod_mul_mod a c p) ∙ ap (λ (z : ℕ). z * c % p) e ∙ mod_mul_mod b c p

module _ {p n k : ℕ} {r : ℕ → ℕ → ℕ} {h : ℕ → ℕ} (reduced : Reduced p n k r h) where
  -- a sum of multiples has at row i's head the factor of row i
  pub factor_at : (f : ℕ → ℕ) (i : ℕ) → i < k → Σ k (λ e. f e * r e (h i)) % p ≡ f i % p
  factor_at f i l =
      sum_one_mod k i p (λ e. f e * r e (h i)) l (λ e b other. none_right p (f e) (r e (h i)) (ap (λ (z : ℕ). z % p) (reduced.clear e i b l other)))
      ∙ sym (mul_mod_mod (f i) (r i (h i)) p)
      ∙ ap (λ (z : ℕ). f i * z % p) (reduced.heads.one i l)
      ∙ mul_mod_mod (f i) 1 p
      ∙ ap (λ (z : ℕ). z % p) (mul-one (f i))

  module _ {x : ℕ → ℕ} (s : Span p n k r x) where
    factor_there : (i : ℕ) → i < k → x (h i) % p ≡ s.factor i % p
    factor_there i l = s.sums (h i) (reduced.heads.within i l) ∙ factor_at s.factor i l

    -- the row is the sum of its values at the heads times the rows
    pub row_by_heads : (j : ℕ) → j < n → x j % p ≡ Σ k (λ i. x (h i) * r i j) % p
    row_by_heads j l =
        s.sums j l
        ∙ sum_same k p (λ i. s.factor i * r i j) (λ i. x (h i) * r i j) (λ i b. same_times p (s.factor i) (x (h i)) (r i j) (sym (factor_there i b)))

  -- rows of the span that agree at the heads agree everywhere
  pub heads_decide : {x y : ℕ → ℕ} → Span p n k r x → Span p n k r y → ((i : ℕ) → i < k → x (h i) % p ≡ y (h i) % p) → (j : ℕ) → j < n → x j % p ≡ y j % p
  heads_decide {x} {y} s t agree j l =
      row_by_heads s j l
      ∙ sum_same k p (λ i. x (h i) * r i j) (λ i. y (h i) * r i j) (λ i b. same_times p (x (h i)) (y (h i)) (r i j) (agree i b))
      ∙ sym (row_by_heads t j l)
