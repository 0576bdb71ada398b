-- The number that lent answer memory gets for a row's answer.
use Rattle.walk.specs.Step.{Answer}
use Rattle.std.specs.Prelude.{ℕ, None, Some}

-- None's number
unfoldable pub none : ℕ
none = 4294967295

-- the pivot column, or None's number
unfoldable pub number : Answer → ℕ
number (Some c) = c
number None = none
