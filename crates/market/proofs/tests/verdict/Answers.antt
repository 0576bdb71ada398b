-- `tests::verdict` meets its contract.
-- Assumes nothing.
use Rattle.sparse.specs.Refusals.{refuse, lowest, ◌else◌}
use Rattle.market.specs.Faults.{verdict_of}
use Rattle.market.proofs.tests.verdict.Goals as goal

pub returns-then-is_large : goal.returns-then-is_large
unfolding verdict_of lowest ◌else◌ refuse
returns-then-is_large c = rw (← c.is_large.ensures, c.if-is_large.true)

pub returns-then-faults : goal.returns-then-faults
unfolding verdict_of lowest ◌else◌ refuse
returns-then-faults c = rw (← c.is_large.ensures, c.if-is_large.false, c.if-faults.true)

pub returns-then-faults-2 : goal.returns-then-faults-2
unfolding verdict_of lowest ◌else◌ refuse
returns-then-faults-2 c = rw (← c.is_large.ensures, c.if-is_large.false, c.if-faults.false, c.if-faults-2.true)

pub returns-then-faults-3 : goal.returns-then-faults-3
unfolding verdict_of lowest ◌else◌ refuse
returns-then-faults-3 c = rw (← c.is_large.ensures, c.if-is_large.false, c.if-faults.false, c.if-faults-2.false, c.if-faults-3.true)

pub returns-then-faults-4 : goal.returns-then-faults-4
unfolding verdict_of lowest ◌else◌ refuse
returns-then-faults-4 c = rw (← c.is_large.ensures, c.if-is_large.false, c.if-faults.false, c.if-faults-2.false, c.if-faults-3.false, c.if-faults-4.true)

pub returns : goal.returns
unfolding verdict_of lowest ◌else◌ refuse
returns c = rw (← c.is_large.ensures, c.if-is_large.false, c.if-faults.false, c.if-faults-2.false, c.if-faults-3.false, c.if-faults-4.false)
