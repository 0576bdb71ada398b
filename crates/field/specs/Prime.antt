-- The modulus: a prime in 2..2,147,483,647.
use Rattle.std.specs.Prelude.{◌≡◌, ◌⊎◌, Bool, not, ◌&&◌, ℕ, ◌%◌, ◌≤◌, leb, eqb}
use Rattle.std.specs.Int.{◌∣◌}
use Rattle.lists.specs.Find.{any}

-- n is a prime: at least 2, and divided by 1 and itself alone
pub record Prime (n : ℕ) : Type 0 where
  pub least : 2 ≤ n
  pub divisors : (d : ℕ) → d ∣ n → (d ≡ 1) ⊎ (d ≡ n)

-- the same as a test: at least 2, and no number from 2 on and below n divides n
unfoldable pub is_prime : ℕ → Bool
is_prime n = leb 2 n && not (any n (λ d. leb 2 d && eqb (n % d) 0))

-- the largest modulus, a prime itself
unfoldable pub largest : ℕ
largest = 2147483647

-- p is a prime in 2..2,147,483,647
unfoldable pub is_modulus : ℕ → Bool
is_modulus p = is_prime p && leb p largest
