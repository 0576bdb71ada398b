-- `one_if` meets its contract: std's number of a bool.
-- Assumes nothing.
use mathlib.Core.Path.{◌≡◌, refl, ◌∙◌}
use mathlib.Core.Bool.{Bool, true, false}
use mir.Val.{bool_byte}
use Rattle.stepping.specs.After.{one_if}
use Rattle.stepping.proofs.rows.one_if.Goals as goal

numbered : (b : Bool) → bool_byte b ≡ one_if b
unfolding one_if
numbered true = refl
numbered false = refl

pub returns : goal.returns
returns c = c.from.ensures ∙ numbered c.args.counted
