-- U's rows from the highest pivot column down.
use Rattle.std.specs.Prelude.{ℕ, zero, suc, cond, List, [], ◌∷◌, eqb, get_or}
use Rattle.sparse.specs.Pivots.{mark}
use Rattle.walk.specs.Step.{pivot_at}

-- the columns below n that have a pivot, from the highest down
unfoldable pub pivot_columns : List ℕ → ℕ → List ℕ
pivot_columns pivots zero = []
pivot_columns pivots (suc c) = let lower = pivot_columns pivots c in cond (eqb (pivot_at pivots c) mark) lower (c ∷ lower)

-- the i-th of them
abbrev pub column_down : List ℕ → ℕ → ℕ → ℕ
column_down pivots n i = get_or (pivot_columns pivots n) i 0

-- the row whose pivot stands there
abbrev pub row_down : List ℕ → ℕ → ℕ → ℕ
row_down pivots n i = pivot_at pivots (column_down pivots n i)
