-- Writing a matrix or a vector, given by its entries, to lent memory.
use Rattle.std.specs.Prelude.{ℕ, ◌+◌, length, Err, Ok, Result}
use mathlib.Core.List.{List, [], ◌∷◌, map, flatten}
use Rattle.lists.specs.Onto.{◌onto◌}
use Rattle.lists.specs.Table.{table}
use Rattle.sparse.specs.Lent.{Lent, lent, room_test, LentVector, lent_vector, vector_room_test, Outcome, outcome, unless}
use Rattle.sparse.specs.Refusals.{lowest, Tested}
use Rattle.sparse.specs.Rows.{Entry, offset}
use Rattle.sparse.specs.declared.Refusal.{Refusal}

-- what a call that writes a matrix answers: how many entries it has, or why there is none
abbrev pub Built : Type 0
Built = Result ℕ Refusal

-- the columns and the values of entries
unfoldable pub cols_of : List Entry → List ℕ
cols_of es = map (λ e. e.col) es

unfoldable pub values_of : List Entry → List ℕ
values_of es = map (λ e. e.value) es

-- the matrix of these rows at the front of lent memory
unfoldable pub put_rows : List (List Entry) → Lent → Lent
put_rows rs l = lent (table (length rs + 1) (offset rs) onto l.row_ptrs) (cols_of (flatten rs) onto l.col_idcs) (values_of (flatten rs) onto l.values)

-- a call that writes rows: refused by its tests, or by 14, else written
unfoldable pub putting : Tested → List (List Entry) → Lent → Outcome Built Lent
putting t rs l = unless Err (lowest (t ∷ room_test (length rs) (length (flatten rs)) l ∷ [])) l (outcome (Ok (length (flatten rs))) (put_rows rs l))

-- the vector of these entries, the same way
unfoldable pub putting_vector : Tested → List Entry → LentVector → Outcome Built LentVector
putting_vector t es l =
    unless Err (lowest (t ∷ vector_room_test (length es) l ∷ [])) l
    (outcome (Ok (length es)) (lent_vector (cols_of es onto l.idcs) (values_of es onto l.values)))
