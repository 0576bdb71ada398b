-- What the kernels do to dense memory, as plain arithmetic.
use Rattle.std.specs.Prelude.{ℕ, ◌+◌, ◌-◌, ◌*◌, ◌%◌, not, cond, List, ltb, eqb, length, get_or}
use Rattle.lists.specs.Find.{least}
use Rattle.lists.specs.Table.{table}
use Rattle.sparse.specs.Matrix.{part, value_in}

-- the next nonzero column from c; the length where there is none
unfoldable pub next_from : List ℕ → ℕ → ℕ
next_from dense c = c + least (length dense - c) (λ i. not (eqb (get_or dense (c + i) 0) 0))

-- f times a row added, modulo p
unfoldable pub plus_multiple : ℕ → ℕ → List ℕ → List ℕ → List ℕ → List ℕ
plus_multiple p f cols vals dense = table (length dense) (λ j. (get_or dense j 0 + f * value_in cols vals j) % p)

-- a row, a value for each of n columns
unfoldable pub spread : ℕ → List ℕ → List ℕ → List ℕ
spread n cols vals = table n (value_in cols vals)

-- 0 from a column on
unfoldable pub wiped : ℕ → List ℕ → List ℕ
wiped from dense = table (length dense) (λ j. cond (ltb j from) (get_or dense j 0) 0)

-- row r of a list that has an element for each entry, beyond its head
unfoldable pub beyond : List ℕ → List ℕ → ℕ → List ℕ
beyond ptrs xs r = part (get_or ptrs r 0 + 1) (get_or ptrs (r + 1) 0) xs

-- the entry at column c times row r subtracted beyond its head; the entry stays in its place
unfoldable pub minus_row : ℕ → ℕ → List ℕ → List ℕ → List ℕ → ℕ → List ℕ → List ℕ
minus_row p c cols vals ptrs r dense = plus_multiple p (p - get_or dense c 0) (beyond ptrs cols r) (beyond ptrs vals r) dense
