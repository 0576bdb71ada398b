-- A full pivot table has as many inversions as the pivot columns in the order in which their rows were accepted.
-- Assumes nothing.
use mathlib.Core.Path.{◌≡◌, refl, sym, ap, ap₂, ◌∙◌}
use mathlib.Core.Bool.{Bool, true, false, cond}
use mathlib.Core.List.{List}
use Prim.Native.Nat.{ℕ, ◌<◌}
use native.Mathlib.Omega.{arith}
use lib.Dec.{ltb}
use lib.ListN.{length, get_or, take}
use lib.Seq.{length-take-le, get_or-take}
use Rattle.lists.specs.Sum.{Σ}
use Rattle.lists.specs.Table.{table}
use Rattle.lists.proofs.Pigeons.{Distinct, distinct_all}
use Rattle.lists.proofs.Sums.{sum-ext, sum-swap}
use Rattle.lists.proofs.Tables.{length-table, get_or-table}
use Rattle.walk.specs.Step.{pivot_at}
use Rattle.steps.specs.Setting.{Tabled}
use Rattle.signs.specs.Value.{greater, inverted, inversions}
use Rattle.turns.proofs.Permuted.{Turned, sum-turned, sum_below}

-- 1 where i stands before j with the greater number
unfoldable before : (ℕ → ℕ) → ℕ → ℕ → ℕ
before x j i = cond (ltb i j) (cond (ltb (x j) (x i)) 1 0) 0

-- inversions as a sum over all pairs
all_pairs : (n : ℕ) (xs : List ℕ) (x : ℕ → ℕ) → length xs ≡ n → ((i : ℕ) → i < n → get_or xs i 0 ≡ x i) → inversions xs ≡ Σ n (λ j. Σ n (before x j))
unfolding inversions inverted greater before
all_pairs n xs x long same =
    ap (λ (k : ℕ). Σ k (inverted xs)) long
    ∙ sum-ext n (inverted xs) (λ j. Σ n (before x j)) (λ j l.
    sum-ext j (greater xs j) (λ i. cond (ltb (x j) (x i)) 1 0) (λ i b. ap₂ (λ (y z : ℕ). cond (ltb y z) 1 0) (same j l) (same i (omega arith)))
    ∙ sum_below n j (λ i. cond (ltb (x j) (x i)) 1 0) (omega arith))

exchange : (a b : Bool) → ◌≡◌ {A = ℕ} (cond a (cond b 1 0) 0) (cond b (cond a 1 0) 0)
exchange true true = refl
exchange true false = refl
exchange false true = refl
exchange false false = refl

module _ {n : ℕ} {f g : ℕ → ℕ} (t : Turned n f g) where
  -- a pair of places is inverted exactly if their numbers are, as places
  turned_pair : (i j : ℕ) → i < n → j < n → before f j i ≡ before g (f i) (f j)
  unfolding before
  turned_pair i j l b = exchange (ltb i j) (ltb (f j) (f i)) ∙ ap₂ (λ (y z : ℕ). cond (ltb (f j) (f i)) (cond (ltb y z) 1 0) 0) (sym (t.back i l)) (sym (t.back j b))

  turned_pairs : Σ n (λ j. Σ n (before f j)) ≡ Σ n (λ e. Σ n (before g e))
  turned_pairs =
      sum-ext n (λ j. Σ n (before f j)) (λ j. Σ n (λ e. before g e (f j))) (λ j b.
      sum-ext n (before f j) (λ i. before g (f i) (f j)) (λ i l. turned_pair i j l b)
      ∙ sum-turned t (λ e. before g e (f j)))
      ∙ sum-turned t (λ d. Σ n (λ e. before g e d))
      ∙ sum-swap n n (λ d e. before g e d)

-- n rows with their heads h, and their table
module _ {n : ℕ} {h : ℕ → ℕ} {pivots : List ℕ} (tabled : Tabled n n h pivots) (within : (i : ℕ) → i < n → h i < n) where
  pivot : ℕ → ℕ
  pivot = pivot_at pivots

  distinct : Distinct n h
  unfolding pivot
  distinct = record { same = λ i e l b q. sym (tabled.holds i l) ∙ ap pivot q ∙ tabled.holds e b }

  turned : Turned n pivot h
  unfolding pivot
  turned = record {
    below = λ c l. let at = distinct_all n h distinct within c l in rw (← at.2, tabled.holds at.0 at.1) at.1;
    back = λ c l. let at = distinct_all n h distinct within c l in rw (← at.2, tabled.holds at.0 at.1);
    from = within;
    forth = tabled.holds;
  }

  pub turns_same : inversions (take n pivots) ≡ inversions (table n h)
  unfolding pivot pivot_at
  turns_same =
      all_pairs n (take n pivots) pivot (length-take-le n pivots tabled.long) (λ i l. get_or-take n pivots i 0 l)
      ∙ turned_pairs turned
      ∙ sym (all_pairs n (table n h) h (length-table n h) (λ i l. get_or-table n h i 0 l))
