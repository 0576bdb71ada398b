-- What is joined below a matrix, read as a matrix: which row stands where, and what value lies at each place.
-- Assumes nothing.
use mathlib.Core.Path.{◌≡◌, sym, ap, ap₂, ◌∙◌}
use mathlib.Core.List.{List, [], ◌∷◌, ◌++◌}
use Prim.Native.Nat.{ℕ, ◌+◌, ◌-◌, ◌<◌}
use native.Mathlib.Decide.{dec_lt}
use native.Mathlib.Omega.{arith}
use lib.ListN.{length, get_or, length-append}
use Rattle.lists.specs.Table.{table}
use Rattle.lists.proofs.Tables.{length-table}
use Rattle.sparse.specs.Matrix.{Matrix, row, value_in, value_at}
use Rattle.sparse.specs.Rows.{Entry, entries, rows_of, row_at, compressed}
use Rattle.meaning.proofs.RowLists.{entry_cols, entry_values}
use Rattle.writing.proofs.RowPuts.{row_at_lem}
use Rattle.writing.proofs.Written.{row_of_rows, Given, value_written, value_of, stored}
use Rattle.below.specs.Parts.{either, rows_in}
use Rattle.below.proofs.Appends.{either_at, either_first, either_second, rows_many}

-- the first's rows, then the second's
pub append-row : (k : ℕ) (a b : Matrix) (i : ℕ) → i < a.nrows + b.nrows → row_at (compressed k (rows_of a ++ rows_of b)) i ≡ either a.nrows (row a.row_ptrs (entries a.col_idcs a.values)) (row b.row_ptrs (entries b.col_idcs b.values)) i
unfolding rows_of
append-row k a b i h = row_of_rows k (rows_of a ++ rows_of b) i ∙ either_at a.nrows (row a.row_ptrs (entries a.col_idcs a.values)) (row b.row_ptrs (entries b.col_idcs b.values)) b.nrows i [] h

-- `append`: the value in the matrix whose row it is
pub append-value : (n : ℕ) (a b : Matrix) → Given a → Given b → (i j : ℕ) → i < a.nrows + b.nrows
    → value_at (compressed n (rows_of a ++ rows_of b)) i j ≡ either a.nrows (λ r. value_at a r j) (λ r. value_at b r j) i
unfolding rows_of rows_in
append-value n a b ga gb i j h = value_written n (rows_of a ++ rows_of b) i j (rw (rows_many a.nrows a.row_ptrs a.col_idcs a.values b.nrows b.row_ptrs b.col_idcs b.values) h) ∙ go (dec_lt i a.nrows)
  where
    one : ℕ → List Entry
    one = row a.row_ptrs (entries a.col_idcs a.values)

    two : ℕ → List Entry
    two = row b.row_ptrs (entries b.col_idcs b.values)

    row_here : get_or (rows_of a ++ rows_of b) i [] ≡ either a.nrows one two i
    row_here = either_at a.nrows one two b.nrows i [] h

    go : Dec (i < a.nrows) → value_of (get_or (rows_of a ++ rows_of b) i []) j ≡ either a.nrows (λ r. value_at a r j) (λ r. value_at b r j) i
    go (yes l) =
        ap (λ (es : List Entry). value_of es j) (row_here ∙ either_first a.nrows one two i l ∙ sym (row_at_lem a i l))
        ∙ sym (stored a ga i j l)
        ∙ sym (either_first a.nrows (λ r. value_at a r j) (λ r. value_at b r j) i l)
    go (no l) =
        ap (λ (es : List Entry). value_of es j) (row_here ∙ either_second a.nrows one two i (omega arith) ∙ sym (row_at_lem b (i - a.nrows) (omega arith)))
        ∙ sym (stored b gb (i - a.nrows) j (omega arith))
        ∙ sym (either_second a.nrows (λ r. value_at a r j) (λ r. value_at b r j) i (omega arith))

-- `add_row`: the matrix's values, then the row's
pub added_value : (n : ℕ) (m : Matrix) (cols vals : List ℕ) → Given m → length cols ≡ length vals → (i j : ℕ) → i < m.nrows + 1
    → value_at (compressed n (rows_of m ++ (entries cols vals ∷ []))) i j ≡ either m.nrows (λ r. value_at m r j) (λ r. value_in cols vals j) i
unfolding rows_of table
added_value n m cols vals g each i j h = value_written n (rows_of m ++ (entries cols vals ∷ [])) i j (rw (length-append, length-table) h) ∙ go (dec_lt i m.nrows)
  where
    one : ℕ → List Entry
    one = row m.row_ptrs (entries m.col_idcs m.values)

    row_here : get_or (rows_of m ++ (entries cols vals ∷ [])) i [] ≡ either m.nrows one (λ r. entries cols vals) i
    row_here = either_at m.nrows one (λ r. entries cols vals) 1 i [] h

    go : Dec (i < m.nrows) → value_of (get_or (rows_of m ++ (entries cols vals ∷ [])) i []) j ≡ either m.nrows (λ r. value_at m r j) (λ r. value_in cols vals j) i
    go (yes l) =
        ap (λ (es : List Entry). value_of es j) (row_here ∙ either_first m.nrows one (λ r. entries cols vals) i l ∙ sym (row_at_lem m i l))
        ∙ sym (stored m g i j l)
        ∙ sym (either_first m.nrows (λ r. value_at m r j) (λ r. value_in cols vals j) i l)
    go (no l) =
        ap (λ (es : List Entry). value_of es j) (row_here ∙ either_second m.nrows one (λ r. entries cols vals) i (omega arith))
        ∙ ap₂ (λ (c v : List ℕ). value_in c v j) (entry_cols cols vals each) (entry_values cols vals)
        ∙ sym (either_second m.nrows (λ r. value_at m r j) (λ r. value_in cols vals j) i (omega arith))
