-- `step_row` meets its contract: None at once, or the walk's end.
-- Assumes nothing.
use mathlib.Core.Path.{sym, ◌∙◌}
use Rattle.stepping.proofs.Walks.{ready_takes, ready_countable, ready_returns, ready_at_once}
use Rattle.stepping.proofs.rows.step_row.Goals as goal

pub returns-then-is_at_once : goal.returns-then-is_at_once
returns-then-is_at_once c = ready_at_once _ c.requires (sym c.is_at_once.ensures ∙ c.if-is_at_once.true)

pub walk_row-walked-requires : goal.walk_row-walked-requires
walk_row-walked-requires c = ready_takes c.requires (sym c.is_at_once.ensures ∙ c.if-is_at_once.false) _

pub after-requires : goal.after-requires
after-requires c = ready_countable c.requires (sym c.is_at_once.ensures ∙ c.if-is_at_once.false) _ c.walk_row-walked.ensures

pub returns : goal.returns
returns c = ready_returns c.requires (sym c.is_at_once.ensures ∙ c.if-is_at_once.false) _ c.walk_row-walked.ensures c.after.ensures
