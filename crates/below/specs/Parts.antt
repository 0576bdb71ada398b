-- Parts of the joins' definitions that a function of its own tests or writes.
use Rattle.sparse.specs.Refusals.{Tested}
use Rattle.std.specs.Prelude.{cond, List, [], ◌∷◌, ℕ, ◌-◌, ltb}
use Rattle.lists.specs.Table.{table}
use Rattle.sparse.specs.Matrix.{Matrix, row}
use Rattle.sparse.specs.Rows.{Entry, entries}
use Rattle.sparse.specs.Tests.{shape_test, rows_test, rows_values_test}
use Rattle.sparse.specs.declared.inside.Clause.TheVariants.{Residue}
use Rattle.below.specs.Below.{lower}

-- 3 to 6 of two matrices
unfoldable pub both_tests : ℕ → Matrix → Matrix → List Tested
both_tests p a b =
    shape_test a
    ∷ shape_test b
    ∷ lower (rows_test a.nrows a.ncols a.row_ptrs a.col_idcs) (rows_test b.nrows b.ncols b.row_ptrs b.col_idcs)
    ∷ rows_values_test Residue p a.nrows a.row_ptrs a.values
    ∷ rows_values_test Residue p b.nrows b.row_ptrs b.values
    ∷ []

-- the first n of f, then g
unfoldable pub either {ℓ} : {A : Type ℓ} → ℕ → (ℕ → A) → (ℕ → A) → ℕ → A
either n f g i = cond (ltb i n) (f i) (g (i - n))

-- the rows of compressed entries: `rows_of` of a matrix of any column count
unfoldable pub rows_in : ℕ → List ℕ → List ℕ → List ℕ → List (List Entry)
rows_in n ptrs cols vals = table n (row ptrs (entries cols vals))
