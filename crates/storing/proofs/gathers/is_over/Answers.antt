-- `is_over` meets its contract: each `return` goes by the test before it.
-- Assumes nothing.
use native.Mathlib.Omega.{arith}
use borrow.Author.Tests.{le-ltb, lt-ltb}
use Rattle.sparse.specs.Pivots.{mark}
use Rattle.walk.specs.Left.{over}
use Rattle.walk.specs.Step.{pivot_at}
use Rattle.storing.proofs.gathers.is_over.Goals as goal

pub returns-then-col-limit : goal.returns-then-col-limit
unfolding over pivot_at mark
returns-then-col-limit c = rw (le-ltb c.args.col c.args.limit (omega (arith, c.if-col-limit.true)))

pub returns : goal.returns
unfolding over pivot_at mark
returns c = rw (lt-ltb c.args.col c.args.limit (omega (arith, c.if-col-limit.false)))
