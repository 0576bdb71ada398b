-- `row_off` meets its contract: no 1 at its own column, or a value stored elsewhere.
-- Assumes nothing.
use mathlib.Core.Path.{sym, ◌∙◌}
use Rattle.meaning.proofs.Values.{columns_climb}
use Rattle.readers.proofs.Identities.{no_one, off_other}
use Rattle.readers.proofs.identity.row_off.Goals as goal

pub returns-then-value_in-ne1 : goal.returns-then-value_in-ne1
returns-then-value_in-ne1 c = no_one _ _ _ _ c.requires.within (λ e. c.if-value_in-ne1.true (c.value_in.ensures ∙ e))

pub returns : goal.returns
returns c = c.holds_other.ensures ∙ off_other _ _ _ _ (columns_climb _ _ c.requires.climbs.good) (sym c.value_in.ensures ∙ c.if-value_in-ne1.false)
