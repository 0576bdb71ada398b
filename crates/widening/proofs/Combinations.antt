-- Rows with inserted columns as zeros: a combination of the old rows is one of the new rows, and the other way.
-- Assumes nothing.
use mathlib.Core.Path.{◌≡◌, sym, ap, ◌∙◌}
use mathlib.Core.Logic.{◌⊎◌, inl, inr}
use mathlib.Core.List.{List}
use Prim.Native.Nat.{ℕ, ◌+◌, ◌*◌, ◌%◌, ◌≤◌, ◌<◌}
use native.Mathlib.Nat.{mul-zero, zero-mod}
use lib.ListN.{length, get_or}
use Rattle.lists.specs.Sum.{Σ}
use Rattle.lists.proofs.Sums.{sum-ext, sum-zero}
use Rattle.linear.specs.Combination.{Combination}
use Rattle.columns.specs.Asks.{NotFalling}
use Rattle.columns.specs.Positions.{moved}
use Rattle.columns.proofs.Insertions.{moved_below}
use Rattle.widening.specs.Inserted.{Inserted}
use Rattle.widening.proofs.Stretches.{OldBelow, new_or_below}

module _ (p : ℕ) {n k : ℕ} {ps : List ℕ} {r s : ℕ → ℕ → ℕ} {x y : ℕ → ℕ} (rows : (i : ℕ) → i < k → Inserted n ps (r i) (s i)) (row : Inserted n ps x y) where
  -- the same sums at a column and where it moves to
  same_sum : (f : ℕ → ℕ) (c : ℕ) → c < n → Σ k (λ i. f i * s i (moved ps c)) % p ≡ Σ k (λ i. f i * r i c) % p
  same_sum f c h = ap (λ (z : ℕ). z % p) (sum-ext k (λ i. f i * s i (moved ps c)) (λ i. f i * r i c) (λ i l. ap (λ (z : ℕ). f i * z) ((rows i l).old c h)))

  pub combination_old : Combination p (n + length ps) k s y → Combination p n k r x
  combination_old w = record {
    factor = w.factor;
    small = w.small;
    sums = λ c h. sym (row.old c h) ∙ w.sums (moved ps c) (moved_below ps n c h) ∙ same_sum w.factor c h;
  }

  pub combination_new : NotFalling ps → ((i : ℕ) → i < length ps → get_or ps i 0 ≤ n) → Combination p n k r x → Combination p (n + length ps) k s y
  combination_new sorted low w = record { factor = w.factor; small = w.small; sums = λ j h. at j (new_or_below n ps sorted low j h) }
    where
      at : (j : ℕ) → ((i : ℕ) × (i < length ps) × (j ≡ get_or ps i 0 + i)) ⊎ OldBelow n ps j → y j ≡ Σ k (λ i. w.factor i * s i j) % p
      at j (inl a) =
          rw a.2
          (row.new a.0 a.1
          ∙ sym (ap (λ (z : ℕ). z % p) (sum-zero k (λ i. w.factor i * s i (get_or ps a.0 0 + a.0)) (λ i l. ap (λ (z : ℕ). w.factor i * z) ((rows i l).new a.0 a.1) ∙ mul-zero (w.factor i))) ∙ zero-mod p))
      at j (inr a) = rw (← a.there) (row.old a.col a.within ∙ w.sums a.col a.within ∙ sym (same_sum w.factor a.col a.within))
