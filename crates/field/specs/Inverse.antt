-- The inverse of a residue.
use Rattle.std.specs.Prelude.{◌≡◌, ℕ, ◌*◌, ◌%◌, ◌<◌, eqb}
use Rattle.std.specs.Int.{◌∣◌}
use Rattle.lists.specs.Find.{least}

-- the least r below p such that a times r leaves 1; p where there is none
unfoldable pub inverse : ℕ → ℕ → ℕ
inverse p a = least p (λ r. eqb (a * r % p) 1)

-- a is in 1..p-1 and shares no divisor with p but 1
pub record Invertible (p a : ℕ) : Type 0 where
  pub pos : 0 < a
  pub below : a < p
  pub apart : (d : ℕ) → d ∣ p → d ∣ a → d ≡ 1
