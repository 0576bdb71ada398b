-- `slices_test` meets its contract: U's slices, then L's.
-- Assumes nothing.
use mathlib.Core.Path.{sym, ◌∙◌}
use Rattle.sparse.specs.Refusals.{refuse}
use Rattle.checking.proofs.tests.slices_test.Goals as goal

pub returns-then-is_broken : goal.returns-then-is_broken
unfolding refuse
returns-then-is_broken c = rw (sym c.is_broken.ensures ∙ c.if-is_broken.true)

pub returns-then-is_broken-2 : goal.returns-then-is_broken-2
unfolding refuse
returns-then-is_broken-2 c = rw (sym c.is_broken.ensures ∙ c.if-is_broken.false, sym c.is_broken-2.ensures ∙ c.if-is_broken-2.true)

pub returns : goal.returns
unfolding refuse
returns c = rw (sym c.is_broken.ensures ∙ c.if-is_broken.false, sym c.is_broken-2.ensures ∙ c.if-is_broken-2.false)
