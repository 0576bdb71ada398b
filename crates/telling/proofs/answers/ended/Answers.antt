-- `ended` meets its contract.
-- Assumes nothing.
use Rattle.walk.specs.Step.{is_none}
use Rattle.telling.specs.Runs.{ended}
use Rattle.telling.proofs.Endings.{never_ends}
use Rattle.telling.proofs.answers.ended.Goals as goal

pub returns-then-check : goal.returns-then-check
unfolding ended is_none
returns-then-check c = rw (c.in-None.is, c.if-check.true)

pub returns-else-check : goal.returns-else-check
unfolding ended is_none
returns-else-check c = rw (c.in-None.is, c.if-check.false)

pub returns-in-Some : goal.returns-in-Some
returns-in-Some c = never_ends _ c.in-Some.is _
