-- A matrix read row by row: what its tests leave, and how many rows and entries it has.
-- Assumes nothing.
use Rattle.std.specs.Prelude.{Ok}
use mathlib.Core.Path.{◌≡◌, sym, ap, ◌∙◌}
use mathlib.Core.List.{[], flatten}
use Prim.Native.Nat.{ℕ}
use lib.ListN.{length, get_or, length-map}
use Rattle.lists.specs.Table.{table}
use Rattle.lists.proofs.Tables.{length-table, table_get_or}
use Rattle.sparse.specs.Matrix.{Matrix, row}
use Rattle.sparse.specs.Rows.{Entry, entries, rows_of, row_at, compressed}
use Rattle.sparse.specs.Tests.{matrix_test}
use Rattle.sparse.proofs.Cuts.{Laid, laid}
use Rattle.sparse.proofs.Firsts.{lowest_good}
use Rattle.meaning.proofs.RowLists.{compressed_rows}
use Rattle.writing.specs.Asks.{Readable}
use Rattle.writing.proofs.Puttings.{Sized}

-- 3 to 6 find nothing
pub matrix_laid : (p : ℕ) (m : Matrix) → matrix_test p m ≡ Ok tt → Laid m
unfolding matrix_test
matrix_laid p m e =
    let h = lowest_good _ _ e in
    laid m h.0 (lowest_good _ _ h.1).0

pub readable : (m : Matrix) → Laid m → Readable m
readable m h = record { same = h.shape.col_each; cut = h.rows }

-- the rows of a matrix, one by one
pub rows_each : (m : Matrix) → table m.nrows (row_at m) ≡ rows_of m
unfolding row_at rows_of
rows_each m = ap (λ (n : ℕ). table n (λ i. get_or (rows_of m) i [])) (sym (length-table m.nrows (row m.row_ptrs (entries m.col_idcs m.values)))) ∙ table_get_or (rows_of m) []

-- hold all its entries
pub rows_long : (m : Matrix) → Laid m → length (flatten (rows_of m)) ≡ length m.values
unfolding compressed
rows_long m h = sym (length-map (flatten (rows_of m)) (λ (e : Entry). e.value)) ∙ ap (λ (x : Matrix). length x.values) (compressed_rows m h)

pub matrix_sized : (b : Matrix) → Laid b → Sized (rows_of b) b.nrows (length b.values)
unfolding rows_of
matrix_sized b h = record { many = length-table b.nrows (row b.row_ptrs (entries b.col_idcs b.values)); long = rows_long b h }
