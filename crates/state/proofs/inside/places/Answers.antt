-- `places` meets its contract: std's minimum, as a test.
-- Assumes nothing.
use mathlib.Core.Path.{◌≡◌, refl, ◌∙◌}
use mathlib.Core.Bool.{Bool, true, false, cond}
use Prim.Native.Nat.{ℕ, min}
use lib.Dec.{ltb}
use native.Mathlib.Omega.{arith}
use borrow.Author.Tests.{ltb-true, ltb-false}
use Rattle.state.specs.Memory.{at_most}
use Rattle.state.proofs.inside.places.Goals as goal

least : (n : ℕ) → min n 1048576 ≡ at_most n
unfolding at_most
least n = go (ltb 1048576 n) refl
  where
    go : (b : Bool) → ltb 1048576 n ≡ b → min n 1048576 ≡ cond b 1048576 n
    go true e = omega (arith, ltb-true 1048576 n e)
    go false e = omega (arith, ltb-false 1048576 n e)

pub returns : goal.returns
returns c = c.min.ensures ∙ least c.args.len
