-- `size_test` meets its contract: each `return` goes by the tests before it.
-- Assumes nothing.
use native.Mathlib.Omega.{arith}
use borrow.Author.Tests.{lt-ltb, le-ltb}
use Rattle.sparse.specs.Refusals.{refuse}
use Rattle.sparse.specs.Tests.{size_test}
use Rattle.sparse.proofs.inside.size_test.Goals as goal

pub returns-then-nrows-gt-MAX_SIDE : goal.returns-then-nrows-gt-MAX_SIDE
unfolding size_test refuse
returns-then-nrows-gt-MAX_SIDE c = let a = c.args in
    simp (lt-ltb 1024 a.nrows (omega arith))

pub returns-then-ncols-gt-MAX_SIDE : goal.returns-then-ncols-gt-MAX_SIDE
unfolding size_test refuse
returns-then-ncols-gt-MAX_SIDE c = let a = c.args in
    simp (le-ltb 1024 a.nrows (omega arith), lt-ltb 1024 a.ncols (omega arith))

pub returns-then-entries-limit : goal.returns-then-entries-limit
unfolding size_test refuse
returns-then-entries-limit c = let a = c.args in
    simp (le-ltb 1024 a.nrows (omega arith), le-ltb 1024 a.ncols (omega arith), lt-ltb a.limit a.entries (omega arith))

pub returns : goal.returns
unfolding size_test refuse
returns c = let a = c.args in
    simp (le-ltb 1024 a.nrows (omega arith), le-ltb 1024 a.ncols (omega arith), le-ltb a.limit a.entries (omega arith))
