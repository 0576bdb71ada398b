-- What the field's functions ask of their arguments.
use Rattle.std.specs.Prelude.{◌≡◌, ℕ, ◌%◌, ◌≤◌, ◌<◌}
use Rattle.field.specs.Prime.{largest}

-- an odd number of 3..2,147,483,647
pub record Odd (n : ℕ) : Type 0 where
  pub least : 3 ≤ n
  pub most : n ≤ largest
  pub odd : n % 2 ≡ 1

-- two residues modulo p
pub record Residues (p a b : ℕ) : Type 0 where
  pub left : a < p
  pub right : b < p
