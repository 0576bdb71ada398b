-- `length_test` meets its contract: of no rows and no entries only the length counts.
-- Assumes nothing.
use native.Mathlib.Omega.{arith}
use borrow.Author.Tests.{lt-ltb, le-ltb}
use Rattle.sparse.specs.Refusals.{refuse}
use Rattle.sparse.specs.Tests.{size_test}
use Rattle.pivots.proofs.inside.length_test.Goals as goal

pub returns-then-len : goal.returns-then-len
unfolding size_test refuse
returns-then-len c = rw (le-ltb 1024 0 (omega arith), lt-ltb 1024 c.args.len (omega arith))

pub returns : goal.returns
unfolding size_test refuse
returns c = simp (le-ltb 1024 0 (omega arith), le-ltb 1024 c.args.len (omega arith))
