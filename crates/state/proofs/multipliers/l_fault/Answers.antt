-- `l_fault` meets its contract, variant by variant.
-- Assumes nothing.
use mathlib.Core.Path.{sym, ◌∙◌}
use borrow.Author.Tests.{eq-eqb, ne_eqb}
use Rattle.state.specs.State.{l_fault}
use Rattle.state.proofs.multipliers.l_fault.Goals as goal

pub returns-then-pattern_fault : goal.returns-then-pattern_fault
unfolding l_fault
returns-then-pattern_fault c = rw (c.in-Full.is, sym c.pattern_fault.ensures ∙ c.if-pattern_fault.true)

pub returns-then-rows-ne0 : goal.returns-then-rows-ne0
unfolding l_fault
returns-then-rows-ne0 c = rw (c.in-None.is, ne_eqb _ _ c.if-rows-ne0.true)

pub returns-else-pattern_fault : goal.returns-else-pattern_fault
unfolding l_fault
returns-else-pattern_fault c = rw (c.in-Full.is, sym c.pattern_fault.ensures ∙ c.if-pattern_fault.false) c.values_fault.ensures

pub returns-in-Pattern : goal.returns-in-Pattern
unfolding l_fault
returns-in-Pattern c = rw c.in-Pattern.is c.pattern_fault-in-Pattern.ensures

pub returns-else-rows-ne0 : goal.returns-else-rows-ne0
unfolding l_fault
returns-else-rows-ne0 c = rw (c.in-None.is, eq-eqb _ _ c.if-rows-ne0.false)
