-- `room_test` meets its contract: each `return` goes by the parts of the clause before it.
-- Assumes nothing.
use mathlib.Core.Path.{sym, ◌∙◌}
use Rattle.sparse.specs.Refusals.{refuse}
use Rattle.state.specs.Room.{room_test}
use Rattle.state.proofs.inside.room_test.Goals as goal

pub returns-then-u_full : goal.returns-then-u_full
unfolding room_test refuse
returns-then-u_full c = rw (sym c.u_full.ensures ∙ c.if-u_full.true)

pub returns-then-l_full : goal.returns-then-l_full
unfolding room_test refuse
returns-then-l_full c = rw (sym c.u_full.ensures ∙ c.if-u_full.false, sym c.l_full.ensures ∙ c.if-l_full.true)

pub returns : goal.returns
unfolding room_test refuse
returns c = rw (sym c.u_full.ensures ∙ c.if-u_full.false, sym c.l_full.ensures ∙ c.if-l_full.false)
