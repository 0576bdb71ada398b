-- `some_misplaced` meets its contract. The loop's invariant: no column before `col` is misplaced.
-- Assumes nothing.
use mathlib.Core.Path.{sym, ◌∙◌}
use Rattle.lists.proofs.Scans.{clear_none, clear_next, clear_stop, clear_all}
use Rattle.state.proofs.rows.some_misplaced.Goals as goal

pub loop-col-init : goal.loop-col-init
loop-col-init c = clear_none _ _

pub is_misplaced-requires : goal.is_misplaced-requires
is_misplaced-requires c = record { all = c.requires; within = c.loop-col-test.true }

pub returns-then-is_misplaced : goal.returns-then-is_misplaced
returns-then-is_misplaced c = clear_stop c.loop-col.invariant c.loop-col-test.true (sym c.is_misplaced.ensures ∙ c.if-is_misplaced.true)

pub loop-col-preserved : goal.loop-col-preserved
loop-col-preserved c = clear_next c.loop-col.invariant c.loop-col-test.true (sym c.is_misplaced.ensures ∙ c.if-is_misplaced.false)

pub returns : goal.returns
returns c = clear_all c.loop-col.invariant c.loop-col-test.false
