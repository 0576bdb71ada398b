-- `append` of two well formed matrices is well formed.
-- Assumes nothing.
use Rattle.std.specs.Prelude.{Ok}
use mathlib.Core.Path.{◌≡◌, sym, ap₂, subst, ◌∙◌}
use mathlib.Core.List.{List, [], ◌++◌, map, flatten}
use Prim.Native.Nat.{ℕ, ◌+◌, ◌-◌, ◌<◌}
use native.Mathlib.Decide.{dec_lt}
use native.Mathlib.Omega.{arith}
use lib.ListN.{length, get_or}
use Rattle.sparse.specs.Matrix.{Matrix}
use Rattle.sparse.specs.Rows.{Entry, rows_of, row_at, compressed}
use Rattle.sparse.specs.Tests.{size_test, columns_test, values_test, well_formed}
use Rattle.sparse.specs.declared.inside.Clause.TheVariants.{Residue}
use Rattle.sparse.proofs.Firsts.{lowest_good}
use Rattle.writing.proofs.MatrixRows.{rows_each}
use Rattle.writing.proofs.WellFormed.{given_values, given_columns, rows_well_formed}
use Rattle.below.specs.Parts.{either, rows_in}
use Rattle.below.proofs.Appends.{either_at, either_first, either_second, rows_many}

-- row i of two matrices
rows_count : (a b : Matrix) → length (rows_of a ++ rows_of b) ≡ a.nrows + b.nrows
unfolding rows_of rows_in
rows_count a b = rows_many a.nrows a.row_ptrs a.col_idcs a.values b.nrows b.row_ptrs b.col_idcs b.values

row_either : (a b : Matrix) (i : ℕ) → i < a.nrows + b.nrows → get_or (rows_of a ++ rows_of b) i [] ≡ either a.nrows (row_at a) (row_at b) i
row_either a b i h = ap₂ (λ (x y : List (List Entry)). get_or (x ++ y) i []) (sym (rows_each a)) (sym (rows_each b)) ∙ either_at a.nrows (row_at a) (row_at b) b.nrows i [] h

-- `append` of two well formed matrices of one column count, within the limits, is well formed
pub append_well_formed : (p : ℕ) (a b : Matrix) → well_formed 65536 p a ≡ Ok tt → well_formed 65536 p b ≡ Ok tt → a.ncols ≡ b.ncols
    → size_test 65536 (length (rows_of a ++ rows_of b)) a.ncols (length (flatten (rows_of a ++ rows_of b))) ≡ Ok tt → well_formed 65536 p (compressed a.ncols (rows_of a ++ rows_of b)) ≡ Ok tt
unfolding well_formed
append_well_formed p a b ga gb same size =
    rows_well_formed p a.ncols (rows_of a ++ rows_of b) (lowest_good _ _ ga).0 size
    (λ i h. either_good (λ es. columns_test a.ncols (map (λ e. e.col) es) ≡ Ok tt) i h (given_columns p a ga) (λ k l. rw same (given_columns p b gb k l)))
    (λ i h. either_good (λ es. values_test Residue p (map (λ e. e.value) es) ≡ Ok tt) i h (given_values p a ga) (given_values p b gb))
  where
    either_good : (P : List Entry → Type 0) (i : ℕ) → i < length (rows_of a ++ rows_of b) → ((k : ℕ) → k < a.nrows → P (row_at a k)) → ((k : ℕ) → k < b.nrows → P (row_at b k)) → P (get_or (rows_of a ++ rows_of b) i [])
    either_good P i h f g = subst P (sym (row_either a b i (rw (rows_count a b) at h))) (go (dec_lt i a.nrows))
      where
        go : Dec (i < a.nrows) → P (either a.nrows (row_at a) (row_at b) i)
        go (yes l) = subst P (sym (either_first a.nrows (row_at a) (row_at b) i l)) (f i l)
        go (no l) = subst P (sym (either_second a.nrows (row_at a) (row_at b) i (omega arith))) (g (i - a.nrows) (let q : i < a.nrows + b.nrows = rw (rows_count a b) at h in omega arith))
