-- `some_headless` meets its contract. The loop's invariant: no row before `row` lacks its head.
-- Assumes nothing.
use mathlib.Core.Path.{sym, ◌∙◌}
use Rattle.lists.proofs.Scans.{clear_none, clear_next, clear_stop, clear_all}
use Rattle.state.proofs.rows.some_headless.Goals as goal

pub loop-row-init : goal.loop-row-init
loop-row-init c = clear_none _ _

pub is_headless-requires : goal.is_headless-requires
is_headless-requires c = record { all = c.requires; within = c.loop-row-test.true }

pub returns-then-is_headless : goal.returns-then-is_headless
returns-then-is_headless c = clear_stop c.loop-row.invariant c.loop-row-test.true (sym c.is_headless.ensures ∙ c.if-is_headless.true)

pub loop-row-preserved : goal.loop-row-preserved
loop-row-preserved c = clear_next c.loop-row.invariant c.loop-row-test.true (sym c.is_headless.ensures ∙ c.if-is_headless.false)

pub returns : goal.returns
returns c = clear_all c.loop-row.invariant c.loop-row-test.false
