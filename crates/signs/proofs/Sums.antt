-- Few inversions at a place, and sums and products one more at a time.
-- Assumes nothing.
use mathlib.Core.Path.{◌≡◌, ap}
use mathlib.Core.Bool.{Bool, true, false, cond}
use mathlib.Core.List.{List}
use Prim.Native.Nat.{ℕ, zero, suc, ◌+◌, ◌*◌, ◌%◌, ◌≤◌, ◌<◌}
use native.Mathlib.Nat.{mod-lt}
use native.Mathlib.Numerals.{add-one}
use native.Mathlib.Omega.{arith}
use lib.Dec.{ltb}
use lib.ListN.{get_or}
use Rattle.lists.specs.Sum.{Σ}
use Rattle.sparse.specs.Matrix.{row}
use Rattle.signs.specs.Value.{last_of, product, greater, inverted}

at_most : (b : Bool) → cond b 1 0 ≤ 1
at_most true = omega arith
at_most false = omega arith

greater_few : (xs : List ℕ) (j k : ℕ) → Σ k (greater xs j) ≤ k
unfolding Σ greater
greater_few xs j zero = omega arith
greater_few xs j (suc k) = omega (arith, greater_few xs j k, at_most (ltb (get_or xs j 0) (get_or xs k 0)))

-- no more than there are numbers before
pub inverted_few : (xs : List ℕ) (j : ℕ) → inverted xs j ≤ j
unfolding inverted
inverted_few xs j = greater_few xs j j

pub sum_more : (f : ℕ → ℕ) (k : ℕ) → Σ (k + 1) f ≡ Σ k f + f k
unfolding Σ
sum_more f k = ap (λ (i : ℕ). Σ i f) (add-one k)

pub product_more : (p : ℕ) (ptrs vals : List ℕ) (k : ℕ) → product p ptrs vals (k + 1) ≡ product p ptrs vals k * last_of (row ptrs vals k) % p
unfolding product
product_more p ptrs vals k = ap (product p ptrs vals) (add-one k)

-- it is a residue
pub product_small : (p : ℕ) (ptrs vals : List ℕ) (k : ℕ) → 2 ≤ p → product p ptrs vals k < p
unfolding product
product_small p ptrs vals zero h = omega arith
product_small p ptrs vals (suc k) h = mod-lt _ (omega arith)
