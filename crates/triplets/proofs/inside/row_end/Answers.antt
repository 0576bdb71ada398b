-- `row_end` meets its contract. The loop's invariant: each row before `stop` is at most `row`.
-- Assumes nothing.
use native.Mathlib.Omega.{arith}
use Rattle.triplets.proofs.Starts.{start_below, start_is}
use Rattle.triplets.proofs.inside.row_end.Goals as goal

pub returns-then-start-rows : goal.returns-then-start-rows
returns-then-start-rows c = start_is _ _ _ c.requires.rising (omega arith) (λ k h. omega (arith, start_below c.args.rows.now c.args.row c.requires.rising k (omega (arith, c.requires.starts)))) (λ h. omega arith)

pub loop-stop-init : goal.loop-stop-init
loop-stop-init c k h = omega (arith, start_below c.args.rows.now c.args.row c.requires.rising k (omega (arith, c.requires.starts)))

pub returns-then-rows-stop : goal.returns-then-rows-stop
returns-then-rows-stop c = start_is _ _ _ c.requires.rising (omega arith) c.loop-stop.invariant (λ h. omega arith)

pub returns : goal.returns
returns c = start_is _ _ _ c.requires.rising (omega arith) (λ k h. c.loop-stop.invariant k (omega arith)) (λ h. omega arith)
