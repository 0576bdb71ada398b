-- Rows by their entries, and a row of L times the rows of U.
use Rattle.std.specs.Prelude.{ℕ, ◌*◌, ◌<◌, List, map, length, get_or}
use Rattle.lists.specs.Sum.{Σ}
use Rattle.meaning.proofs.Values.{Climbs}
use Rattle.sparse.specs.Matrix.{value_in}
use Rattle.sparse.specs.Put.{cols_of, values_of}
use Rattle.sparse.specs.Rows.{Entry, entry}

-- the value of a row at each column
abbrev pub value_of : List Entry → ℕ → ℕ
value_of es = value_in (cols_of es) (values_of es)

-- entry i
abbrev pub entry_at : List Entry → ℕ → Entry
entry_at es i = get_or es i (entry 0 0)

-- P holds of each entry
pub record Each (P : Entry → Type 0) (es : List Entry) : Type 0 where
  pub at : (i : ℕ) → i < length es → P (entry_at es i)

-- a value in 1..p-1
pub record Storable (p v : ℕ) : Type 0 where
  pub pos : 0 < v
  pub below : v < p

-- a clean row: columns that climb below n, values in 1..p-1
pub record CleanRow (p n : ℕ) (es : List Entry) : Type 0 where
  pub climbs : Climbs n (cols_of es)
  pub values : Each (λ e. Storable p e.value) es

-- an L row before its diagonal: rows below k, in the order of their pivot columns h, with values in 1..p-1
pub record LRow (p n k : ℕ) (h : ℕ → ℕ) (l : List Entry) : Type 0 where
  pub rows : Each (λ e. e.col < k) l
  pub climbs : Climbs n (map (λ e. h e.col) l)
  pub values : Each (λ e. Storable p e.value) l

-- a row of L times rows r, at column j: the sum of its values times the rows that its columns name
unfoldable pub times : List Entry → (ℕ → ℕ → ℕ) → ℕ → ℕ
times l r j = Σ (length l) (λ i. (entry_at l i).value * r (entry_at l i).col j)
