-- Compressed rows, as they are lent, and what they mean.
use Rattle.std.specs.Prelude.{ℕ, ◌+◌, ◌-◌, cond, List, eqb, length, get_or, take, drop}
use Rattle.sparse.specs.declared.Matrix.{Matrix as Compressed}
use Rattle.lists.specs.Sum.{Σ}

-- what a matrix's slices hold
pub record Matrix : Type 0 where
  pub nrows : ℕ
  pub ncols : ℕ
  pub row_ptrs : List ℕ
  pub col_idcs : List ℕ
  pub values : List ℕ

abbrev pub matrix : ℕ → ℕ → List ℕ → List ℕ → List ℕ → Matrix
matrix n m ptrs cols vals = record { nrows = n; ncols = m; row_ptrs = ptrs; col_idcs = cols; values = vals }

-- what a `sparse::Matrix` holds
abbrev pub seen : Compressed → Matrix
seen m = matrix m.nrows m.ncols m.row_ptrs.now m.col_idcs.now m.values.now

-- the elements from a up to b
unfoldable pub part {ℓ} : {A : Type ℓ} → ℕ → ℕ → List A → List A
part a b xs = take (b - a) (drop a xs)

-- row i of a list that has an element for each entry: from pointer i up to pointer i + 1
unfoldable pub row {ℓ} : {A : Type ℓ} → List ℕ → List A → ℕ → List A
row ptrs xs i = part (get_or ptrs i 0) (get_or ptrs (i + 1) 0) xs

-- the value at column j of a row: the sum of its entries there, of which a good row has at most one
unfoldable pub value_in : List ℕ → List ℕ → ℕ → ℕ
value_in cols vals j = Σ (length cols) (λ k. cond (eqb (get_or cols k 0) j) (get_or vals k 0) 0)

-- the value at row i, column j
unfoldable pub value_at : Matrix → ℕ → ℕ → ℕ
value_at m i j = value_in (row m.row_ptrs m.col_idcs i) (row m.row_ptrs m.values i) j
