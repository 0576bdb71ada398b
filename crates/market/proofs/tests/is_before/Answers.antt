-- `tests::is_before` meets its contract.
-- Assumes nothing.
use native.Mathlib.Omega.{arith}
use borrow.Author.Tests.{lt-ltb, le-ltb, eq-eqb, ne_eqb}
use Rattle.triplets.specs.Triplets.{before}
use Rattle.market.proofs.tests.is_before.Goals as goal

pub returns-then-faults-entry : goal.returns-then-faults-entry
unfolding before
returns-then-faults-entry c = rw (lt-ltb _ _ c.if-faults-entry.true)

pub returns-then-faults-entry-2 : goal.returns-then-faults-entry-2
unfolding before
returns-then-faults-entry-2 c = rw (le-ltb _ _ c.if-faults-entry.false, ne_eqb c.args.faults.row c.args.entry.row (λ e. omega arith))

pub returns : goal.returns
unfolding before
returns c = rw (le-ltb _ _ c.if-faults-entry.false, eq-eqb c.args.faults.row c.args.entry.row (omega arith))
