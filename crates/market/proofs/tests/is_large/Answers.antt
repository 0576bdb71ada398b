-- `tests::is_large` meets its contract.
-- Assumes nothing.
use borrow.Author.Tests.{lt-ltb, le-ltb}
use Rattle.market.specs.Faults.{oversize}
use Rattle.market.proofs.tests.is_large.Goals as goal

pub returns-then-size-gt-MAX_SIDE : goal.returns-then-size-gt-MAX_SIDE
unfolding oversize
returns-then-size-gt-MAX_SIDE c = rw (lt-ltb _ _ c.if-size-gt-MAX_SIDE.true)

pub returns-then-size-gt-MAX_SIDE-2 : goal.returns-then-size-gt-MAX_SIDE-2
unfolding oversize
returns-then-size-gt-MAX_SIDE-2 c = rw (le-ltb _ _ c.if-size-gt-MAX_SIDE.false, lt-ltb _ _ c.if-size-gt-MAX_SIDE-2.true)

pub returns : goal.returns
unfolding oversize
returns c = rw (le-ltb _ _ c.if-size-gt-MAX_SIDE.false, le-ltb _ _ c.if-size-gt-MAX_SIDE-2.false)
