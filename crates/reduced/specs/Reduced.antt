-- What reduced rows are, and when rows span the same.
use Rattle.std.specs.Prelude.{◌≡◌, ◌↔◌, ℕ, ◌<◌}
use Rattle.linear.proofs.Heads.{Heads}
use Rattle.linear.proofs.Span.{Span}

-- k rows r of residues in n columns, row i with its head at column h i, and 0 over the heads of the others
pub record Reduced (p n k : ℕ) (r : ℕ → ℕ → ℕ) (h : ℕ → ℕ) : Type 0 where
  pub heads : Heads p n k r h
  pub small : (i : ℕ) → i < k → (j : ℕ) → j < n → r i j < p
  pub clear : (i e : ℕ) → i < k → e < k → (i ≡ e → ⊥) → r i (h e) ≡ 0

-- k rows r and l rows s have the same combinations
pub record SameSpan (p n k : ℕ) (r : ℕ → ℕ → ℕ) (l : ℕ) (s : ℕ → ℕ → ℕ) : Type 0 where
  pub same : (y : ℕ → ℕ) → Span p n k r y ↔ Span p n l s y

-- the row x, with its head at column c, is among the l rows s with heads g
pub record Among (n : ℕ) (x : ℕ → ℕ) (c l : ℕ) (s : ℕ → ℕ → ℕ) (g : ℕ → ℕ) : Type 0 where
  pub place : ℕ
  pub within : place < l
  pub head : g place ≡ c
  pub values : (j : ℕ) → j < n → s place j ≡ x j
