-- `tests::noted` meets its contract.
-- Assumes nothing.
use Rattle.market.specs.Faults.{note}
use Rattle.market.specs.Tests.{modulus}
use Rattle.market.proofs.tests.noted.Goals as goal

pub returns : goal.returns
unfolding note modulus
returns c = rw (c.is_outside.ensures, c.is_before.ensures)
