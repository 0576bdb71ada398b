-- `l_full` meets its contract, variant by variant.
-- Assumes nothing.
use mathlib.Core.Path.{sym, ◌∙◌}
use Rattle.state.specs.Memory.{places}
use Rattle.state.specs.Room.{l_full}
use Rattle.state.proofs.Rooms.{ltb_one}
use Rattle.state.proofs.inside.l_full.Goals as goal

pub returns-then-pattern_full : goal.returns-then-pattern_full
unfolding l_full places
returns-then-pattern_full c = rw (c.in-Full.is, sym c.pattern_full.ensures ∙ c.if-pattern_full.true)

pub returns-else-pattern_full : goal.returns-else-pattern_full
unfolding l_full places
returns-else-pattern_full c = rw (c.in-Full.is, sym c.pattern_full.ensures ∙ c.if-pattern_full.false, ltb_one, c.free.ensures)

pub returns-in-Pattern : goal.returns-in-Pattern
unfolding l_full places
returns-in-Pattern c = rw c.in-Pattern.is c.pattern_full-in-Pattern.ensures

pub returns-in-None : goal.returns-in-None
unfolding l_full places
returns-in-None c = rw c.in-None.is
