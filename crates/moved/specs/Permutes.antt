-- A permutation of the numbers below n.
use Rattle.std.specs.Prelude.{◌≡◌, ℕ, ◌<◌}

-- each number below n is f of exactly one number below n, and f gives no other
pub record Permutes (n : ℕ) (f : ℕ → ℕ) : Type 0 where
  pub below : (i : ℕ) → i < n → f i < n
  pub apart : (i k : ℕ) → i < n → k < n → f i ≡ f k → i ≡ k
  pub each : (r : ℕ) → r < n → (i : ℕ) × (i < n) × (f i ≡ r)
