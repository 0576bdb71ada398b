-- Finite sums of natural numbers.
use Rattle.std.specs.Prelude.{ℕ, zero, suc, ◌+◌}

-- f 0 + … + f (n - 1)
unfoldable pub Σ : ℕ → (ℕ → ℕ) → ℕ
Σ zero f = 0
Σ (suc n) f = Σ n f + f n
