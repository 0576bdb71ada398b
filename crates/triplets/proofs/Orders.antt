-- The order of triplets: the test of one step by their parts, and that ordered triplets' rows don't fall.
-- Assumes nothing.
use Rattle.std.specs.Prelude.{Ok}
use mathlib.Core.Path.{◌≡◌, refl, sym, ◌∙◌}
use mathlib.Core.Bool.{Bool, true, false, not, ◌&&◌, ◌||◌}
use mathlib.Core.List.{List}
use Prim.Native.Nat.{ℕ, zero, suc, ◌+◌, ◌-◌, ◌≤◌, ◌<◌}
use native.Mathlib.Nat.{le_refl}
use native.Mathlib.Numerals.{add-one}
use native.Mathlib.Decide.{dec_lt}
use native.Mathlib.Omega.{arith}
use lib.Dec.{ltb, eqb}
use lib.ListN.{length, get_or}
use borrow.Author.Tests.{ltb-true, eqb-true, lt-ltb, not-false}
use Rattle.triplets.specs.Asks.{Parts, Rising}
use Rattle.sparse.specs.Refusals.{refuse}
use Rattle.triplets.specs.Triplets.{triplets, before, step_test, order_test}
use Rattle.sparse.specs.declared.Refusal.TheVariants.{Order}
use Rattle.sparse.proofs.Firsts.{refuse_good, each_good}
use Rattle.triplets.proofs.TripletLists.{length-triplets, at_triplets}

-- by row, then by column
pub data Before (i j k l : ℕ) : Type 0 where
  lower : i < k → Before i j k l
  beside : i ≡ k → j < l → Before i j k l

before_of : (i j k l : ℕ) (b : Bool) → ltb i k ≡ b → (b || eqb i k && ltb j l) ≡ true → Before i j k l
before_of i j k l true e h = lower (ltb-true i k e)
before_of i j k l false e h = go (eqb i k) refl h
  where
    go : (b : Bool) → eqb i k ≡ b → (b && ltb j l) ≡ true → Before i j k l
    go true same below = beside (eqb-true i k same) (ltb-true j l below)
    go false other below = let z : ◌≡◌ {A = ℕ} 0 1 = cc in absurd (omega arith)

module _ (rows cols vals : List ℕ) where
  -- the test of one step, by the parts
  pub step_parts : (k : ℕ) → k < length vals → step_test (triplets rows cols vals) k ≡ refuse (ltb 0 k && not (ltb (get_or rows (k - 1) 0) (get_or rows k 0) || eqb (get_or rows (k - 1) 0) (get_or rows k 0) && ltb (get_or cols (k - 1) 0) (get_or cols k 0))) Order
  unfolding step_test before
  step_parts k h = let h' : k - 1 < length vals = omega arith in rw (at_triplets rows cols vals (k - 1) h', at_triplets rows cols vals k h)

  module _ (good : order_test (triplets rows cols vals) ≡ Ok tt) where
    -- each triplet stands before the next
    pub ordered : (k : ℕ) → k + 1 < length vals → Before (get_or rows k 0) (get_or cols k 0) (get_or rows (k + 1) 0) (get_or cols (k + 1) 0)
    unfolding order_test
    ordered k h =
        let one : step_test (triplets rows cols vals) (k + 1) ≡ Ok tt = each_good (length (triplets rows cols vals)) (step_test (triplets rows cols vals)) good (k + 1) (rw length-triplets h) in
        let back : k + 1 - 1 ≡ k = omega arith in
        let off = refuse_good _ Order (sym (step_parts (k + 1) h) ∙ one) in
        before_of (get_or rows k 0) (get_or cols k 0) (get_or rows (k + 1) 0) (get_or cols (k + 1) 0) _ refl
        (not-false _ (rw (lt-ltb 0 (k + 1) (omega arith), back) at off))

    row_step : (k : ℕ) → k + 1 < length vals → get_or rows k 0 ≤ get_or rows (k + 1) 0
    row_step k h = go (ordered k h)
      where
        go : Before (get_or rows k 0) (get_or cols k 0) (get_or rows (k + 1) 0) (get_or cols (k + 1) 0) → get_or rows k 0 ≤ get_or rows (k + 1) 0
        go (lower b) = omega arith
        go (beside e b) = omega arith

    rise : length rows ≡ length vals → (i k : ℕ) → i ≤ k → k < length rows → get_or rows i 0 ≤ get_or rows k 0
    rise many i zero below h = let e : i ≡ 0 = omega arith in rw e (le_refl (get_or rows 0 0))
    rise many i (suc k) below h = go (dec_lt k i) (rise many i k)
      where
        go : Dec (k < i) → (i ≤ k → k < length rows → get_or rows i 0 ≤ get_or rows k 0) → get_or rows i 0 ≤ get_or rows (suc k) 0
        go (yes past) ih = let e : i ≡ suc k = omega arith in rw e (le_refl (get_or rows (suc k) 0))
        go (no before) ih =
            let front : get_or rows i 0 ≤ get_or rows k 0 = ih (omega arith) (omega arith) in
            let step : get_or rows k 0 ≤ get_or rows (suc k) 0 = rw add-one at (row_step k (omega arith)) in
            omega arith

    pub rising : Parts rows cols vals → Rising rows
    rising p = record { rises = rise p.row_each }
