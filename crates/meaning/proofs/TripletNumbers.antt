-- `from_triplets` gives each number exactly when its clause holds and no preferred one does.
-- Assumes nothing.
use Rattle.std.specs.Prelude.{Err, Ok}
use mathlib.Core.Path.{◌≡◌, refl, subst}
use mathlib.Core.Logic.{◌↔◌, ◌⊎◌, ⊎_elim}
use mathlib.Core.Bool.{not, ◌&&◌, ◌||◌}
use mathlib.Core.List.{List, [], ◌∷◌}
use Prim.Native.Nat.{ℕ, ◌+◌, ◌-◌, ◌≤◌, ◌<◌}
use native.Mathlib.Omega.{arith}
use lib.Dec.{leb, ltb, lit<, lit≤}
use lib.ListN.{length}
use Rattle.sparse.specs.Put.{Built}
use Rattle.lists.proofs.Decides.{Decides, decides_not, decides_or, decides_and, decides_lt, decides_le, decides_eq}
use Rattle.field.specs.Prime.{is_modulus}
use Rattle.field.proofs.Primes.{decides_modulus}
use Rattle.meaning.specs.Clauses.{Stored}
use Rattle.sparse.specs.Lent.{Lent, room_test, Outcome, unless}
use Rattle.sparse.specs.Refusals.{number, lowest, Tested}
use Rattle.sparse.specs.Tests.{modulus_test, size_test, values_test}
use Rattle.meaning.specs.TripletClauses.{Before, SomeOutside, SomeFall, TripletsApply}
use Rattle.triplets.specs.Triplets.{Triplet, triplets, at, before, parts_test, place_test, places_test, step_test, order_test, triplets_test, from_triplets}
use Rattle.sparse.specs.declared.Refusal.{Refusal}
use Rattle.sparse.specs.declared.Refusal.TheVariants.{Modulus, Size, Shape, Pointer, Column, Value, Zero, Outside, Order, NotSquare, Mismatch, Positions, State, Room}
use Rattle.sparse.specs.declared.inside.Clause.TheVariants.{Residue}
use Rattle.meaning.proofs.Exactly.{same_number, Stage, side, never, some_found, some_none, alone, clause, ended, join, exactly}
use Rattle.meaning.proofs.Numbers.{decides_size, next, values_found, values_good}

decides_before : (s t : Triplet) → Decides (before s t) (Before s t)
unfolding before
decides_before s t = decides_or (decides_lt s.row t.row) (decides_and (decides_eq s.row t.row) (decides_lt s.col t.col))

-- 8
module _ (nrows ncols : ℕ) (ts : List Triplet) where
  decides_place : (k : ℕ) → Decides (leb nrows (at ts k).row || leb ncols (at ts k).col) ((nrows ≤ (at ts k).row) ⊎ (ncols ≤ (at ts k).col))
  decides_place k = decides_or (decides_le nrows (at ts k).row) (decides_le ncols (at ts k).col)

  pub places_found : (r : Refusal) → places_test nrows ncols ts ≡ Err r → SomeOutside nrows ncols ts × (r ≡ Outside)
  unfolding places_test place_test
  places_found = some_found (length ts) _ _ decides_place Outside

  pub places_good : places_test nrows ncols ts ≡ Ok tt → SomeOutside nrows ncols ts → ⊥
  unfolding places_test place_test
  places_good = some_none (length ts) _ _ decides_place Outside

-- 9
module _ (ts : List Triplet) where
  decides_fall : (k : ℕ) → Decides (ltb 0 k && not (before (at ts (k - 1)) (at ts k))) ((0 < k) × (Before (at ts (k - 1)) (at ts k) → ⊥))
  decides_fall k = decides_and (decides_lt 0 k) (decides_not (decides_before (at ts (k - 1)) (at ts k)))

  pub order_found : (r : Refusal) → order_test ts ≡ Err r → SomeFall ts × (r ≡ Order)
  unfolding order_test step_test
  order_found = some_found (length ts) _ _ decides_fall Order

  pub order_good : order_test ts ≡ Ok tt → SomeFall ts → ⊥
  unfolding order_test step_test
  order_good = some_none (length ts) _ _ decides_fall Order

module _ (p nrows ncols : ℕ) (rows cols vals : List ℕ) (l : Lent) where
  abbrev App : Refusal → Type 0
  App = TripletsApply p nrows ncols rows cols vals l

  abbrev ts : List Triplet
  ts = triplets rows cols vals

  -- no clause has the numbers that the call doesn't give
  absent : (r q : Refusal) → number q ≡ number r → (App r → ⊥) → App q → ⊥
  absent r q e none a = none (subst App (same_number q r e) a)

  modulus_stage : Stage App 0 1 (modulus_test p)
  unfolding modulus_test number
  modulus_stage = next App 0 (not (is_modulus p)) Modulus refl (decides_not (decides_modulus p))

  size_stage : Stage App 1 2 (size_test 65536 nrows ncols (length vals))
  unfolding size_test number
  size_stage = next App 1 _ Size refl (decides_size 65536 nrows ncols (length vals))

  parts_stage : Stage App 2 3 (parts_test rows cols vals)
  unfolding parts_test number
  parts_stage = next App 2 _ Shape refl (decides_or (decides_not (decides_eq (length rows) (length vals))) (decides_not (decides_eq (length cols) (length vals))))

  values_stage : Stage App 3 6 (values_test Residue p vals)
  unfolding number
  values_stage = alone App 3 6 (values_test Residue p vals) Value (Stored vals (λ v. p ≤ v)) refl (lit< tt) (values_found Residue p vals) (values_good Residue p vals) (λ x. x) (λ x. x) gap
    where
      gap : (q : Refusal) → 3 < number q → number q < 6 → App q → ⊥
      gap q lo hi a = ⊎_elim (λ le. absent Pointer q (omega arith) (λ x. x) a) (λ gt. absent Column q (omega arith) (λ x. x) a) (side (number q) 4)

  places_stage : Stage App 6 8 (places_test nrows ncols ts)
  unfolding number
  places_stage = alone App 6 8 (places_test nrows ncols ts) Outside (SomeOutside nrows ncols ts) refl (lit< tt) (places_found nrows ncols ts) (places_good nrows ncols ts) (λ x. x) (λ x. x) (λ q lo hi. absent Zero q (omega arith) (λ x. x))

  order_stage : Stage App 8 9 (order_test ts)
  unfolding number
  order_stage = alone App 8 9 (order_test ts) Order (SomeFall ts) refl (lit< tt) (order_found ts) (order_good ts) (λ x. x) (λ x. x) (λ q lo hi a. omega arith)

  room_stage : Stage App 9 14 (room_test nrows (length vals) l)
  unfolding room_test number
  room_stage = clause App 9 14 _ Room refl (lit< tt) (decides_or (decides_or (decides_lt (length l.row_ptrs) (nrows + 1)) (decides_lt (length l.col_idcs) (length vals))) (decides_lt (length l.values) (length vals))) gap
    where
      gap : (q : Refusal) → 9 < number q → number q < 14 → App q → ⊥
      gap q lo hi a =
          ⊎_elim
          (λ le. ⊎_elim (λ le. absent NotSquare q (omega arith) (λ x. x) a) (λ gt. absent Mismatch q (omega arith) (λ x. x) a) (side (number q) 10))
          (λ gt. ⊎_elim (λ le. absent Positions q (omega arith) (λ x. x) a) (λ gt. absent State q (omega arith) (λ x. x) a) (side (number q) 12))
          (side (number q) 11)

  tested_stage : Stage App 0 9 (triplets_test p nrows ncols rows cols vals)
  unfolding triplets_test lowest
  tested_stage =
      join App 0 1 9 (modulus_test p) _ (lit≤ tt) (lit≤ tt) modulus_stage
      (λ a.
      join App 1 2 9 (size_test 65536 nrows ncols (length vals)) _ (lit≤ tt) (lit≤ tt) size_stage
      (λ b.
      join App 2 3 9 (parts_test rows cols vals) _ (lit≤ tt) (lit≤ tt) parts_stage
      (λ c.
      join App 3 6 9 (values_test Residue p vals) _ (lit≤ tt) (lit≤ tt) values_stage
      (λ d. join App 6 8 9 (places_test nrows ncols ts) _ (lit≤ tt) (lit≤ tt) places_stage (λ e. join App 8 9 9 (order_test ts) (Ok tt) (lit≤ tt) (lit≤ tt) order_stage (λ f. ended App 9))))))

  abbrev found : Tested
  found = lowest (triplets_test p nrows ncols rows cols vals ∷ room_test nrows (length vals) l ∷ [])

  whole_stage : Stage App 0 14 found
  unfolding lowest
  whole_stage = join App 0 9 14 (triplets_test p nrows ncols rows cols vals) _ (lit≤ tt) (lit≤ tt) tested_stage (λ a. join App 9 14 14 (room_test nrows (length vals) l) (Ok tt) (lit≤ tt) (lit≤ tt) room_stage (λ b. ended App 14))

  -- the call answers what its tests find
  answered : (t : Tested) (r : Refusal) (o : Outcome Built Lent) (n : ℕ) → o.answer ≡ Ok n → ((unless Err t l o).answer ≡ Err r) ↔ (t ≡ Err r)
  unfolding unless
  answered (Ok _) r o n made = ((λ e. let z : ◌≡◌ {A = ℕ} 0 1 = cc in absurd (omega arith)), (λ e. absurd (never e)))
  answered (Err q) r o n made = ((λ e. cc), (λ e. cc))

  -- a number is given exactly when its clause holds and no preferred one does
  pub from_triplets_exactly : (r : Refusal) → ((from_triplets p nrows ncols rows cols vals l).answer ≡ Err r) ↔ (TripletsApply p nrows ncols rows cols vals l r × (number r ≤ 14) × ((q : Refusal) → number q < number r → TripletsApply p nrows ncols rows cols vals l q → ⊥))
  unfolding from_triplets
  from_triplets_exactly r =
      let a = answered found r _ (length vals) refl in
      let b = exactly App 14 found whole_stage r in
      ((λ e. b.0 (a.0 e)), (λ w. a.1 (b.1 w)))
