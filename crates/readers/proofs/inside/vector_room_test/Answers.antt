-- `vector_room_test` meets its contract: each `return` goes by the tests before it.
-- Assumes nothing.
use borrow.Author.Tests.{lt-ltb, le-ltb}
use Rattle.sparse.specs.Lent.{vector_room_test}
use Rattle.sparse.specs.Refusals.{refuse}
use Rattle.readers.proofs.inside.vector_room_test.Goals as goal

pub returns-then-idcs-entries : goal.returns-then-idcs-entries
unfolding vector_room_test refuse
returns-then-idcs-entries c = rw (lt-ltb _ _ c.if-idcs-entries.true)

pub returns-then-values-entries : goal.returns-then-values-entries
unfolding vector_room_test refuse
returns-then-values-entries c = rw (le-ltb _ _ c.if-idcs-entries.false, lt-ltb _ _ c.if-values-entries.true)

pub returns : goal.returns
unfolding vector_room_test refuse
returns c = rw (le-ltb _ _ c.if-idcs-entries.false, le-ltb _ _ c.if-values-entries.false)
