-- `state_test` meets its contract: each `return` goes by the parts of the clause before it.
-- Assumes nothing.
use mathlib.Core.Path.{sym, ◌∙◌}
use Rattle.sparse.specs.Refusals.{refuse}
use Rattle.state.specs.State.{u_of, state_test}
use Rattle.state.proofs.inside.state_test.Goals as goal

pub returns-then-u_unsound : goal.returns-then-u_unsound
unfolding state_test u_of refuse
returns-then-u_unsound c = rw (sym c.u_unsound.ensures ∙ c.if-u_unsound.true)

pub returns-then-l_fault : goal.returns-then-l_fault
unfolding state_test u_of refuse
returns-then-l_fault c = rw (sym c.u_unsound.ensures ∙ c.if-u_unsound.false, sym c.l_fault.ensures ∙ c.if-l_fault.true)

pub returns : goal.returns
unfolding state_test u_of refuse
returns c = rw (sym c.u_unsound.ensures ∙ c.if-u_unsound.false, sym c.l_fault.ensures ∙ c.if-l_fault.false)
