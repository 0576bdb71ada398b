-- `fmt_mma`: {{{row,column}->value,…},{rows,columns}}, counting from 1.
use Rattle.std.specs.Prelude.{ℕ, ◌+◌, ltb, length, Err, Ok, Result}
use mathlib.Core.List.{List, [], ◌∷◌, ◌++◌, map, flatten}
use Rattle.lists.specs.Onto.{◌onto◌}
use Rattle.lists.specs.Table.{table}
use Rattle.sparse.specs.Lent.{Outcome, outcome, unless}
use Rattle.sparse.specs.Matrix.{Matrix}
use Rattle.sparse.specs.Refusals.{refuse, lowest, Tested}
use Rattle.sparse.specs.Rows.{entries, row_at}
use Rattle.sparse.specs.Tests.{well_formed, well_formed_vector}
use Rattle.sparse.specs.declared.Refusal.TheVariants.{Room}
use Rattle.text.specs.Decimals.{decimal}
use Rattle.sparse.specs.declared.Refusal.{Refusal}

-- how many bytes a text has, or why there is none
abbrev pub Printed : Type 0
Printed = Result ℕ Refusal

-- {i+1,j+1}->v
unfoldable pub piece : ℕ → ℕ → ℕ → List ℕ
piece i j v = 123 ∷ decimal (i + 1) ++ 44 ∷ decimal (j + 1) ++ 125 ∷ 45 ∷ 62 ∷ decimal v

-- with a comma between each two
unfoldable pub commas : List (List ℕ) → List ℕ
commas [] = []
commas (x ∷ []) = x
commas (x ∷ y ∷ xs) = x ++ 44 ∷ commas (y ∷ xs)

-- {{pieces},{rows,columns}}
unfoldable pub mma : ℕ → ℕ → List (List ℕ) → List ℕ
mma rows cols pieces = 123 ∷ 123 ∷ commas pieces ++ 125 ∷ 44 ∷ 123 ∷ decimal rows ++ 44 ∷ decimal cols ++ 125 ∷ 125 ∷ []

-- a matrix, row by row
unfoldable pub matrix_text : Matrix → List ℕ
matrix_text m = mma m.nrows m.ncols (flatten (table m.nrows (λ i. map (λ e. piece i e.col e.value) (row_at m i))))

-- a vector, as one column
unfoldable pub vector_text : ℕ → List ℕ → List ℕ → List ℕ
vector_text len idcs vals = mma len 1 (map (λ e. piece e.col 0 e.value) (entries idcs vals))

-- a call that writes bytes: refused by its tests, or by 14 where they don't fit, else written
unfoldable pub printing : Tested → List ℕ → List ℕ → Outcome Printed (List ℕ)
printing t bytes out = unless Err (lowest (t ∷ refuse (ltb (length out) (length bytes)) Room ∷ [])) out (outcome (Ok (length bytes)) (bytes onto out))

unfoldable pub fmt_mma : ℕ → Matrix → List ℕ → Outcome Printed (List ℕ)
fmt_mma p m = printing (well_formed 65536 p m) (matrix_text m)

unfoldable pub fmt_mma_vector : ℕ → ℕ → List ℕ → List ℕ → List ℕ → Outcome Printed (List ℕ)
fmt_mma_vector p len idcs vals = printing (well_formed_vector 65536 p len idcs vals) (vector_text len idcs vals)
