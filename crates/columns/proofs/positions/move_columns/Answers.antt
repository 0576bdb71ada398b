-- `move_columns` meets its contract. The loop's invariant: the columns before are moved, the rest are as they came.
-- Assumes nothing.
use Prim.Native.Nat.{◌≤◌}
use native.Mathlib.Omega.{arith}
use lib.Dec.{leb}
use lib.ListN.{get_or}
use Rattle.lists.proofs.Counts.{count_le}
use Rattle.columns.proofs.Moving.{moving_none, next_low, moving_more, moving_all}
use Rattle.columns.proofs.positions.move_columns.Goals as goal
use Rattle.columns.proofs.positions.move_columns.Goals.{After-not_above-up}

-- no column moves by more than the new ones
few_up : (c : After-not_above-up) → c.not_above-up.result ≤ 1024
few_up c = omega (arith, c.not_above-up.ensures, count_le (λ q. leb q (get_or c.loop-col.cols c.loop-col.col-index 0)) c.args.positions.now, c.requires.few)

pub loop-col-init : goal.loop-col-init
loop-col-init c = moving_none _ _

pub overflow_cast-col : goal.overflow_cast-col
overflow_cast-col c = omega (arith, few_up (goal.at.overflow_cast-col c).After-not_above-up)

pub overflow_add-col : goal.overflow_add-col
overflow_add-col c = omega (arith, few_up (goal.at.overflow_add-col c).After-not_above-up, next_low c.loop-col.invariant c.requires c.loop-col-test.true)

pub loop-col-preserved : goal.loop-col-preserved
loop-col-preserved c = moving_more c.loop-col.invariant c.loop-col-test.true _ c.not_above-up.ensures

pub returns : goal.returns
returns c = moving_all c.loop-col.invariant c.loop-col-test.false
