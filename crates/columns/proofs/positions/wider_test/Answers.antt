-- `wider_test` meets its contract: too many new columns alone are refused before the sum.
-- Assumes nothing.
use mathlib.Core.Bool.{or-true}
use Prim.Native.Nat.{◌+◌}
use native.Mathlib.Omega.{arith}
use borrow.Author.Tests.{lt-ltb}
use Rattle.sparse.specs.Refusals.{refuse}
use Rattle.sparse.specs.Tests.{size_test}
use Rattle.columns.proofs.positions.wider_test.Goals as goal

pub returns-then-more : goal.returns-then-more
unfolding size_test refuse
returns-then-more c = let a = c.args in
    simp (lt-ltb 1024 (a.ncols + a.more) (omega arith), or-true)
