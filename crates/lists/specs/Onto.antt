-- A result written to the front of lent memory.
use Rattle.std.specs.Prelude.{List, ◌++◌, length, drop}

infixr 25 ◌onto◌
-- new at the front of old; elements past it keep what they held
unfoldable pub ◌onto◌ {ℓ} : {A : Type ℓ} → List A → List A → List A
new onto old = new ++ drop (length new) old
