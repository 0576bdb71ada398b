-- `past_row` meets its contract: the cursor moves on where an index of this row stands at it.
-- Assumes nothing.
use native.Mathlib.Omega.{arith}
use Rattle.beside.proofs.Columns.{cursor_met, cursor_missed, cursor_ended}
use Rattle.beside.proofs.column.past_row.Goals as goal

pub returns-then-idcs-next : goal.returns-then-idcs-next
returns-then-idcs-next c = cursor_met c.requires c.if-next-idcs.true (omega (arith, c.if-idcs-next.true))

pub returns-else-idcs-next : goal.returns-else-idcs-next
returns-else-idcs-next c = cursor_missed c.requires c.if-next-idcs.true c.if-idcs-next.false

pub returns-else-next-idcs : goal.returns-else-next-idcs
returns-else-next-idcs c = cursor_ended c.requires c.if-next-idcs.false
