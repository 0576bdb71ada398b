-- Entries that have passed the tests: each by its place, and what that gives of their rows, columns and values counted from 0.
-- Assumes nothing.
use Rattle.std.specs.Prelude.{Ok}
use mathlib.Core.Path.{◌≡◌, refl, sym, ◌∙◌}
use mathlib.Core.Bool.{Bool, true, false, not, ◌&&◌, ◌||◌}
use mathlib.Core.List.{List, [], ◌∷◌}
use Prim.Native.Nat.{ℕ, zero, suc, ◌-◌, ◌≤◌, ◌<◌}
use native.Mathlib.Decide.{dec_lt, ℕ_discrete}
use native.Mathlib.Nat.{not-suc-le-zero}
use native.Mathlib.Omega.{arith}
use lib.Dec.{leb, ltb, eqb}
use lib.ListN.{length, get_or, length-map, get_or-map}
use borrow.Author.Tests.{ltb-false, leb-false, eqb-false, lt-ltb, le-ltb, lt-leb, eq-eqb, ne_eqb, not-false}
use Rattle.sparse.specs.Refusals.{refuse}
use Rattle.sparse.specs.Tests.{value_test, values_test}
use Rattle.sparse.specs.declared.Refusal.TheVariants.{Value, Outside, Order}
use Rattle.sparse.specs.declared.inside.Clause.TheVariants.{Residue}
use Rattle.sparse.proofs.Firsts.{refuse_good, refuse_false, lowest_good, neither, all_good}
use Rattle.triplets.specs.Asks.{Parts}
use Rattle.triplets.specs.Triplets.{Triplet, triplet, triplets, at, before, place_test, places_test, step_test, order_test}
use Rattle.triplets.proofs.Orders.{step_parts}
use Rattle.triplets.proofs.TripletLists.{length-triplets, at_triplets}
use Rattle.market.specs.Asks.{rows_in, cols_in, values_in}
use Rattle.market.specs.Tests.{modulus, some, outside, rises, entries_test}

-- what holds of none doesn't hold of entry k
some_none : (f : Triplet → Bool) (ts : List Triplet) → some f ts ≡ false → (k : ℕ) → k < length ts → f (at ts k) ≡ false
unfolding some at
some_none f [] e k h = absurd (not-suc-le-zero h)
some_none f (t ∷ ts) e zero h = (neither (f t) (some f ts) e).0
some_none f (t ∷ ts) e (suc k) h = some_none f ts (neither (f t) (some f ts) e).1 k (omega arith)

both : (a b : Bool) → a && b ≡ true → (a ≡ true) × (b ≡ true)
both true b e = (refl, e)
both false b e = let z : ◌≡◌ {A = ℕ} 0 1 = cc in absurd (omega arith)

-- each stands before the next
rises_at : (s : Triplet) (ts : List Triplet) → rises s ts ≡ true → (k : ℕ) → suc k < length ts → before (at ts k) (at ts (suc k)) ≡ true
unfolding rises at
rises_at s [] e k h = absurd (not-suc-le-zero h)
rises_at s (t ∷ []) e k h = absurd (omega arith)
rises_at s (t ∷ u ∷ ts) e zero h = (both (before t u) (rises u ts) (both (before s t) (rises t (u ∷ ts)) e).1).0
rises_at s (t ∷ u ∷ ts) e (suc k) h = rises_at t (u ∷ ts) (both (before s t) (rises t (u ∷ ts)) e).1 k (omega arith)

-- counting from 0 keeps the order
ltb_back : (a b : ℕ) → 1 ≤ a → 1 ≤ b → ltb (a - 1) (b - 1) ≡ ltb a b
ltb_back a b h l = go (dec_lt a b)
  where
    go : Dec (a < b) → ltb (a - 1) (b - 1) ≡ ltb a b
    go (yes d) = lt-ltb (a - 1) (b - 1) (omega arith) ∙ sym (lt-ltb a b d)
    go (no d) = le-ltb (a - 1) (b - 1) (omega arith) ∙ sym (le-ltb a b (omega arith))

eqb_back : (a b : ℕ) → 1 ≤ a → 1 ≤ b → eqb (a - 1) (b - 1) ≡ eqb a b
eqb_back a b h l = go (ℕ_discrete a b)
  where
    go : Dec (a ≡ b) → eqb (a - 1) (b - 1) ≡ eqb a b
    go (yes d) = eq-eqb (a - 1) (b - 1) (omega arith) ∙ sym (eq-eqb a b d)
    go (no d) =
        let other : a - 1 ≡ b - 1 → ⊥ = λ e. d (omega (arith, e)) in
        ne_eqb (a - 1) (b - 1) other ∙ sym (ne_eqb a b d)

-- an entry within the shape, whose value is a residue other than 0
pub record Placed (nrows ncols : ℕ) (t : Triplet) : Type 0 where
  pub row_from : 1 ≤ t.row
  pub row_to : t.row ≤ nrows
  pub col_from : 1 ≤ t.col
  pub col_to : t.col ≤ ncols
  pub small : t.value < modulus
  pub stored : t.value ≡ 0 → ⊥

pub record Small (nrows ncols : ℕ) (ts : List Triplet) : Type 0 where
  pub high : nrows ≤ 64
  pub wide : ncols ≤ 64
  pub few : length ts ≤ 1024

module _ (nrows ncols : ℕ) (ts : List Triplet) (good : entries_test nrows ncols ts ≡ Ok tt) where
  pub small : Small nrows ncols ts
  unfolding entries_test
  small =
      let sizes = neither (ltb 64 nrows || ltb 64 ncols) (ltb 1024 (length ts)) (refuse_good _ _ (lowest_good _ _ good).0) in
      let sides = neither (ltb 64 nrows) (ltb 64 ncols) sizes.0 in
      record { high = ltb-false 64 nrows sides.0; wide = ltb-false 64 ncols sides.1; few = ltb-false 1024 (length ts) sizes.1 }

  pub placed : (k : ℕ) → k < length ts → Placed nrows ncols (at ts k)
  unfolding entries_test outside
  placed k h =
      let larges = lowest_good _ _ (lowest_good _ _ good).1 in
      let zeros = lowest_good _ _ larges.1 in
      let outsides = lowest_good _ _ zeros.1 in
      let four = neither _ (ltb ncols (at ts k).col) (some_none (outside nrows ncols) ts (refuse_good _ _ outsides.0) k h) in
      let three = neither _ (eqb (at ts k).col 0) four.0 in
      let two = neither (eqb (at ts k).row 0) (ltb nrows (at ts k).row) three.0 in
      let r0 = eqb-false (at ts k).row 0 two.0 in
      let c0 = eqb-false (at ts k).col 0 three.1 in
      record {
        row_from = omega arith;
        row_to = ltb-false nrows (at ts k).row two.1;
        col_from = omega arith;
        col_to = ltb-false ncols (at ts k).col four.1;
        small = leb-false modulus (at ts k).value (some_none (λ t. leb modulus t.value) ts (refuse_good _ _ larges.0) k h);
        stored = eqb-false (at ts k).value 0 (some_none (λ t. eqb t.value 0) ts (refuse_good _ _ zeros.0) k h);
      }

  next : (k : ℕ) → suc k < length ts → before (at ts k) (at ts (suc k)) ≡ true
  unfolding entries_test
  next k h =
      let outsides = lowest_good _ _ (lowest_good _ _ (lowest_good _ _ (lowest_good _ _ good).1).1).1 in
      rises_at (triplet 0 0 0) ts (not-false _ (refuse_good _ _ (lowest_good _ _ outsides.1).0)) k h

  abbrev rows : List ℕ
  rows = rows_in ts

  abbrev cols : List ℕ
  cols = cols_in ts

  abbrev vals : List ℕ
  vals = values_in ts

  row_at_lem : (k : ℕ) → get_or rows k 0 ≡ (at ts k).row - 1
  unfolding rows_in at
  row_at_lem k = get_or-map (λ t. t.row - 1) ts k (triplet 0 0 0)

  col_at : (k : ℕ) → get_or cols k 0 ≡ (at ts k).col - 1
  unfolding cols_in at
  col_at k = get_or-map (λ t. t.col - 1) ts k (triplet 0 0 0)

  pub value_at_lem : (k : ℕ) → get_or vals k 0 ≡ (at ts k).value
  unfolding values_in at
  value_at_lem k = get_or-map (λ t. t.value) ts k (triplet 0 0 0)

  pub many : length vals ≡ length ts
  unfolding values_in
  many = length-map ts (λ t. t.value)

  pub parts : Parts rows cols vals
  unfolding rows_in cols_in values_in
  parts = record { row_each = length-map ts _ ∙ sym (length-map ts _); col_each = length-map ts _ ∙ sym (length-map ts _) }

  pub residues : values_test Residue modulus vals ≡ Ok tt
  unfolding values_test value_test
  residues = all_good (length vals) (λ k. value_test Residue modulus (get_or vals k 0))
      (λ k h. refuse_false _ Value (lt-leb modulus (get_or vals k 0) (rw (value_at_lem k) (placed k (omega (arith, many))).small)))

  pub places : places_test nrows ncols (triplets rows cols vals) ≡ Ok tt
  unfolding places_test place_test
  places = all_good (length (triplets rows cols vals)) (λ k. place_test nrows ncols (at (triplets rows cols vals) k)) one
    where
      one : (k : ℕ) → k < length (triplets rows cols vals) → refuse (leb nrows (at (triplets rows cols vals) k).row || leb ncols (at (triplets rows cols vals) k).col) Outside ≡ Ok tt
      one k h =
          let l : k < length vals = rw (length-triplets rows cols vals) at h in
          let p = placed k (omega (arith, many)) in
          rw (at_triplets rows cols vals k l) (refuse_false _ Outside (rw (lt-leb nrows (get_or rows k 0) (omega (arith, row_at_lem k, p.row_from, p.row_to)), lt-leb ncols (get_or cols k 0) (omega (arith, col_at k, p.col_from, p.col_to)))))

  ordered : (k : ℕ) → k < length vals → Dec (0 < k) → (ltb 0 k && not (ltb (get_or rows (k - 1) 0) (get_or rows k 0) || eqb (get_or rows (k - 1) 0) (get_or rows k 0) && ltb (get_or cols (k - 1) 0) (get_or cols k 0))) ≡ false
  unfolding before
  ordered k h (no first) = rw (le-ltb 0 k (omega arith))
  ordered k h (yes later) =
      let back : suc (k - 1) ≡ k = omega arith in
      let p = placed (k - 1) (omega (arith, many)) in
      let q = placed k (omega (arith, many)) in
      let up = rw back at (next (k - 1) (omega (arith, many))) in
      rw (lt-ltb 0 k later, row_at_lem (k - 1), row_at_lem k, col_at (k - 1), col_at k, ltb_back _ _ p.row_from q.row_from, eqb_back _ _ p.row_from q.row_from, ltb_back _ _ p.col_from q.col_from, up)

  pub order : order_test (triplets rows cols vals) ≡ Ok tt
  unfolding order_test
  order = all_good (length (triplets rows cols vals)) (step_test (triplets rows cols vals))
      (λ k h.
      let l : k < length vals = rw (length-triplets rows cols vals) at h in
      step_parts rows cols vals k l ∙ refuse_false _ Order (ordered k l (dec_lt 0 k)))
