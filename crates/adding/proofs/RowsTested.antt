-- What a row's tests give.
-- Assumes nothing.
use Rattle.std.specs.Prelude.{Ok}
use mathlib.Core.Path.{◌≡◌}
use mathlib.Core.List.{List}
use Prim.Native.Nat.{ℕ}
use borrow.Author.Tests.{ltb-false}
use lib.Dec.{ltb}
use lib.ListN.{length}
use Rattle.sparse.specs.Refusals.{lowest}
use Rattle.sparse.proofs.Cuts.{small}
use Rattle.sparse.proofs.Firsts.{neither, refuse_good, lowest_good}
use Rattle.state.specs.Asks.{Opened}
use Rattle.adding.specs.RowTests.{row_tests, short_test}

-- a modulus, sizes within the limits, and a place in the pivot table for each column
pub tested_opened : (p n : ℕ) (cols vals dense pivots : List ℕ) → lowest (row_tests p n cols vals) ≡ Ok tt → short_test n dense pivots ≡ Ok tt → Opened p n pivots
unfolding row_tests short_test
tested_opened p n cols vals dense pivots row short =
    let h = lowest_good _ _ row in
    record {
      modulus = h.0;
      wide = (small 65536 1 n (length vals) (lowest_good _ _ h.1).0).wide;
      table = ltb-false (length pivots) n (neither (ltb (length dense) n) (ltb (length pivots) n) (refuse_good _ _ short)).1;
    }
