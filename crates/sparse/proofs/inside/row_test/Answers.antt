-- `row_test` meets its contract: each `return` goes by the tests before it.
-- Assumes nothing.
use native.Mathlib.Omega.{arith}
use lib.ListN.{length}
use borrow.Author.Tests.{lt-ltb, le-ltb}
use Rattle.sparse.specs.Matrix.{part}
use Rattle.sparse.specs.Refusals.{refuse, ◌else◌}
use Rattle.sparse.specs.Tests.{row_test}
use Rattle.sparse.proofs.inside.row_test.Goals as goal

pub returns-then-stop-start : goal.returns-then-stop-start
unfolding row_test refuse ◌else◌
returns-then-stop-start c = let a = c.args in
    simp (lt-ltb a.stop a.start (omega arith))

pub returns-then-col_idcs-stop : goal.returns-then-col_idcs-stop
unfolding row_test refuse ◌else◌
returns-then-col_idcs-stop c = let a = c.args in
    simp (le-ltb a.stop a.start (omega arith), lt-ltb (length a.col_idcs.now) a.stop (omega arith))

pub returns : goal.returns
unfolding row_test refuse ◌else◌ part
returns c = let a = c.args in
    simp (le-ltb a.stop a.start (omega arith), le-ltb (length a.col_idcs.now) a.stop (omega arith)) c.columns_test.ensures
