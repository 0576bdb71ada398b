-- A matrix as a list of rows, each a list of entries, and back.
use Rattle.std.specs.Prelude.{ℕ, ◌+◌, length, get_or, take}
use mathlib.Core.List.{List, [], map, flatten}
use Rattle.lists.specs.Table.{table}
use Rattle.sparse.specs.Matrix.{Matrix, matrix, row}

pub record Entry : Type 0 where
  pub col : ℕ
  pub value : ℕ

abbrev pub entry : ℕ → ℕ → Entry
entry c v = record { col = c; value = v }

-- columns and values side by side
unfoldable pub entries : List ℕ → List ℕ → List Entry
entries cols vals = table (length vals) (λ k. entry (get_or cols k 0) (get_or vals k 0))

-- the rows of a matrix
unfoldable pub rows_of : Matrix → List (List Entry)
rows_of m = table m.nrows (row m.row_ptrs (entries m.col_idcs m.values))

-- row i of a matrix
unfoldable pub row_at : Matrix → ℕ → List Entry
row_at m i = get_or (rows_of m) i []

-- where row i starts: after all entries of the rows before it
unfoldable pub offset : List (List Entry) → ℕ → ℕ
offset rs i = length (flatten (take i rs))

-- the matrix of n columns that has these rows
unfoldable pub compressed : ℕ → List (List Entry) → Matrix
compressed n rs = matrix (length rs) n (table (length rs + 1) (offset rs)) (map (λ e. e.col) (flatten rs)) (map (λ e. e.value) (flatten rs))
