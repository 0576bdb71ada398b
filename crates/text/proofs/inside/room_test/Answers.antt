-- `inside::room_test` meets its contract.
-- Assumes nothing.
use borrow.Author.Tests.{lt-ltb, le-ltb}
use Rattle.sparse.specs.Refusals.{refuse}
use Rattle.text.proofs.inside.room_test.Goals as goal

pub returns-then-places-bytes : goal.returns-then-places-bytes
unfolding refuse
returns-then-places-bytes c = rw (lt-ltb _ _ c.if-places-bytes.true)

pub returns : goal.returns
unfolding refuse
returns c = rw (le-ltb _ _ c.if-places-bytes.false)
