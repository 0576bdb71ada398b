-- The determinant of rows that were all accepted: the product of L's last entries, and its sign.
use Rattle.std.specs.Prelude.{ℕ, zero, suc, ◌-◌, ◌*◌, ◌%◌, cond, List, ltb, eqb, length, get_or, take}
use Rattle.lists.specs.Sum.{Σ}
use Rattle.sparse.specs.Matrix.{row}

-- the last of some numbers; 0 where there is none
unfoldable pub last_of : List ℕ → ℕ
last_of xs = get_or xs (length xs - 1) 0

-- the product of the last entries of the first k rows, modulo p
unfoldable pub product : ℕ → List ℕ → List ℕ → ℕ → ℕ
product p ptrs vals zero = 1
product p ptrs vals (suc k) = product p ptrs vals k * last_of (row ptrs vals k) % p

-- 1 where the number at place i is greater than the one at place j, else 0
unfoldable pub greater : List ℕ → ℕ → ℕ → ℕ
greater xs j i = cond (ltb (get_or xs j 0) (get_or xs i 0)) 1 0

-- how many numbers before place j are greater than the one there
unfoldable pub inverted : List ℕ → ℕ → ℕ
inverted xs j = Σ j (greater xs j)

-- inversions: pairs of places with the greater number first
unfoldable pub inversions : List ℕ → ℕ
inversions xs = Σ (length xs) (inverted xs)

-- negated modulo p where the number of inversions is odd
unfoldable pub signed : ℕ → ℕ → ℕ → ℕ
signed p turns v = cond (eqb (turns % 2) 1) ((p - v) % p) v

-- the value, from L and the table of n columns
unfoldable pub value_of : ℕ → ℕ → ℕ → List ℕ → List ℕ → List ℕ → ℕ
value_of p n rows l_vals l_ptrs pivots = signed p (inversions (take n pivots)) (product p l_ptrs l_vals rows)
