-- `start` meets its contract, by whether an L is kept.
-- Assumes nothing.
use mathlib.Core.Path.{sym, ◌∙◌}
use Rattle.state.proofs.Starts.{first_pointer, first_of_kept, started_kept, started_bare}
use Rattle.state.proofs.start.start.Goals as goal

pub bounds-u_ptrs-0 : goal.bounds-u_ptrs-0
bounds-u_ptrs-0 c = first_pointer _ _ _ c.requires.room

pub bounds-l_ptrs-0 : goal.bounds-l_ptrs-0
bounds-l_ptrs-0 c = first_of_kept _ _ _ c.requires.room (sym c.keeps_l.ensures ∙ c.if-keeps_l.true)

pub returns-then-keeps_l : goal.returns-then-keeps_l
returns-then-keeps_l c = started_kept _ _ _ _ _ c.requires c.mark_columns.ensures (sym c.keeps_l.ensures ∙ c.if-keeps_l.true)

pub returns : goal.returns
returns c = started_bare _ _ _ _ _ c.requires c.mark_columns.ensures (sym c.keeps_l.ensures ∙ c.if-keeps_l.false)
