-- What the tests of a matrix and of what is joined to it leave.
-- Assumes nothing.
use Rattle.std.specs.Prelude.{Ok}
use mathlib.Core.Path.{◌≡◌}
use mathlib.Core.List.{List}
use Prim.Native.Nat.{ℕ, ◌+◌, ◌<◌}
use lib.ListN.{length, get_or}
use borrow.Author.Tests.{eqb-true, not-false}
use Rattle.sparse.specs.Matrix.{Matrix}
use Rattle.sparse.specs.Refusals.{lowest}
use Rattle.sparse.proofs.Cuts.{Small, small, Laid, laid}
use Rattle.sparse.proofs.Firsts.{lowest_good, refuse_good}
use Rattle.meaning.proofs.Values.{columns_climb}
use Rattle.joining.specs.Asks.{Strict}
use Rattle.joining.specs.Joined.{sizes_tests, forms_tests, pairs_test}

-- a matrix and a vector of this length: 3 to 6 find nothing
pub record Formed (m : Matrix) (len : ℕ) (idcs vals : List ℕ) : Type 0 where
  pub matrix_laid : Laid m
  pub each : length idcs ≡ length vals
  pub below : (k : ℕ) → k < length idcs → get_or idcs k 0 < len
  pub strict : Strict idcs

pub formed : (p : ℕ) (m : Matrix) (len : ℕ) (idcs vals : List ℕ) → lowest (forms_tests p m len idcs vals) ≡ Ok tt → Formed m len idcs vals
unfolding forms_tests pairs_test
formed p m len idcs vals e =
    let shape = lowest_good _ _ e in
    let pairs = lowest_good _ _ shape.1 in
    let rows = lowest_good _ _ pairs.1 in
    let climbs = columns_climb len idcs (lowest_good _ _ rows.1).0 in
    record {
      matrix_laid = laid m shape.0 rows.0;
      each = eqb-true _ _ (not-false _ (refuse_good _ _ pairs.0));
      below = climbs.below;
      strict = record { rises = climbs.rises };
    }

-- 1 and 2 find nothing
pub first_small : (p nrows ncols es rows cols ns ar ac : ℕ) → lowest (sizes_tests p nrows ncols es rows cols ns ar ac) ≡ Ok tt → Small 65536 nrows ncols es
unfolding sizes_tests
first_small p nrows ncols es rows cols ns ar ac e = small _ _ _ _ (lowest_good _ _ (lowest_good _ _ e).1).0

pub joined_small : (p nrows ncols es rows cols ns ar ac : ℕ) → lowest (sizes_tests p nrows ncols es rows cols ns ar ac) ≡ Ok tt → Small 65536 (nrows + ar) (ncols + ac) (es + ns)
unfolding sizes_tests
joined_small p nrows ncols es rows cols ns ar ac e = small _ _ _ _ (lowest_good _ _ (lowest_good _ _ (lowest_good _ _ (lowest_good _ _ e).1).1).1).0
