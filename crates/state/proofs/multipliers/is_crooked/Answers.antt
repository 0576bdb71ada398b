-- `is_crooked` meets its contract: each `return` goes by the parts of the clause before it.
-- Assumes nothing.
use mathlib.Core.Path.{sym, ◌∙◌}
use borrow.Author.Tests.{eq-eqb, ne_eqb}
use Rattle.state.specs.State.{crooked}
use Rattle.state.proofs.multipliers.is_crooked.Goals as goal

pub returns-then-ptrs-ne0 : goal.returns-then-ptrs-ne0
unfolding crooked
returns-then-ptrs-ne0 c = rw (ne_eqb _ _ c.if-ptrs-ne0.true)

pub returns-then-some_fall : goal.returns-then-some_fall
unfolding crooked
returns-then-some_fall c = rw (eq-eqb _ _ c.if-ptrs-ne0.false, sym c.some_fall.ensures ∙ c.if-some_fall.true)

pub returns : goal.returns
unfolding crooked
returns c = rw (eq-eqb _ _ c.if-ptrs-ne0.false, sym c.some_fall.ensures ∙ c.if-some_fall.false)
