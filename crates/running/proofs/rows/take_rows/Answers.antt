-- `take_rows` meets its contract. The loop's invariant: as many rows are taken as turns were made, and what is left of the fold, from a state.
-- Assumes nothing.
use mathlib.Core.Path.{refl}
use native.Mathlib.Omega.{arith}
use Rattle.running.proofs.Folds.{over_told, going_start, going_on, going_end, going_over, going_taken, going_more}
use Rattle.running.proofs.rows.take_rows.Goals as goal

pub loop-init : goal.loop-init
loop-init c = (refl, going_start _ _ c.requires)

pub next_row-next-requires : goal.next_row-next-requires
next_row-next-requires c = going_on c.loop.invariant.1 (omega (arith, c.loop-test.true))

pub returns-in_default : goal.returns-in_default
returns-in_default c = going_over c.loop.invariant.1 (omega (arith, c.loop-test.true)) c.next_row-next.ensures (over_told _ c.in_default.not-Taken)

pub loop-preserved : goal.loop-preserved
loop-preserved c =
    let next = going_taken c.loop.invariant.1 (omega (arith, c.loop-test.true)) c.next_row-next.ensures c.in-Taken.is in
    (omega arith, going_more c.loop.invariant.1 (omega (arith, c.loop-test.true)) c.next_row-next.ensures c.in-Taken.is)

pub returns : goal.returns
returns c = going_end c.loop.invariant.1 (omega (arith, c.loop-test.false))
