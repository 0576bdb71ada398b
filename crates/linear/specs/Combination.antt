-- What a combination of rows is. A row is its value at each column.
use Rattle.std.specs.Prelude.{◌≡◌, ℕ, ◌*◌, ◌%◌, ◌<◌}
use Rattle.lists.specs.Sum.{Σ}

-- x is a combination, modulo p, of the k rows r in n columns: there are factors 0 to p-1, one per row, such that
-- in every column the value of x is the sum of the factors times the rows' values, modulo p
pub record Combination (p n k : ℕ) (r : ℕ → ℕ → ℕ) (x : ℕ → ℕ) : Type 0 where
  pub factor : ℕ → ℕ
  pub small : (i : ℕ) → i < k → factor i < p
  pub sums : (j : ℕ) → j < n → x j ≡ Σ k (λ i. factor i * r i j) % p
