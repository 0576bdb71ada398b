-- What is read off a matrix.
use Rattle.sparse.specs.Refusals.{Tested}
use Rattle.std.specs.Prelude.{ℕ, ◌-◌, Bool, not, ◌&&◌, cond, eqb, length, Err, Ok, Option, None, Some, Result}
use Rattle.lists.specs.Find.{any}
use Rattle.lists.specs.Onto.{◌onto◌}
use Rattle.sparse.specs.Lent.{LentVector, lent_vector, vector_room_test, Outcome, outcome, unless}
use Rattle.sparse.specs.Matrix.{Matrix, value_at}
use Rattle.sparse.specs.Put.{cols_of, values_of}
use Rattle.sparse.specs.Rows.{row_at}
use Rattle.sparse.specs.Tests.{well_formed}
use Rattle.readers.specs.declared.LastRow.{LastRow}
use Rattle.sparse.specs.declared.Refusal.{Refusal}

-- a yes or no, or why there is none
abbrev pub Verdict : Type 0
Verdict = Result Bool Refusal

-- the last row's number and entry count, nothing where there are no rows, or a refusal
abbrev pub Found : Type 0
Found = Result (Option LastRow) Refusal

abbrev pub numbered : ℕ → ℕ → LastRow
numbered i n = record { row = i; entries = n }

-- `last_row`: nothing where there are no rows, and the lent memory as it came
unfoldable pub row_found : Matrix → LentVector → Outcome Found LentVector
row_found m l =
    outcome (Ok (Some (numbered (m.nrows - 1) (length (row_at m (m.nrows - 1))))))
    (lent_vector (cols_of (row_at m (m.nrows - 1)) onto l.idcs) (values_of (row_at m (m.nrows - 1)) onto l.values))

unfoldable pub last_row : ℕ → Matrix → LentVector → Outcome Found LentVector
last_row p m l =
    unless Err (well_formed 65536 p m) l
    (cond (eqb m.nrows 0) (outcome (Ok None) l) (unless Err (vector_room_test (length (row_at m (m.nrows - 1))) l) l (row_found m l)))

-- `is_one`: square, 1 on the diagonal and 0 elsewhere; stored zeros count for nothing
unfoldable pub is_identity : Matrix → Bool
is_identity m = eqb m.nrows m.ncols && not (any m.nrows (λ i. any m.ncols (λ j. not (eqb (value_at m i j) (cond (eqb i j) 1 0)))))

unfoldable pub judged : Tested → Bool → Verdict
judged (Err r) b = Err r
judged (Ok _) b = Ok b

unfoldable pub is_one : ℕ → Matrix → Verdict
is_one p m = judged (well_formed 65536 p m) (is_identity m)
