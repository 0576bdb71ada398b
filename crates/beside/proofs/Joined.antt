-- One row of a result: a row of the matrix with what is joined to it.
-- Assumes nothing.
use mathlib.Core.Path.{◌≡◌, ap, ◌∙◌}
use mathlib.Core.List.{List, [], ◌++◌}
use Prim.Native.Nat.{ℕ, ◌+◌, ◌≤◌, ◌<◌}
use native.Mathlib.Omega.{arith}
use lib.ListN.{length, get_or, set, length-append}
use Rattle.lists.specs.Table.{table}
use Rattle.lists.proofs.Tables.{length-table, get_or-table}
use Rattle.sparse.specs.Lent.{lent}
use Rattle.sparse.specs.Matrix.{Matrix, row}
use Rattle.sparse.specs.Rows.{Entry, entries, row_at}
use Rattle.writing.specs.Asks.{RowPut, Readable, Roomy}
use Rattle.writing.specs.Puts.{Put, put, more}
use Rattle.writing.proofs.RowLoops.{rows_fit, rows_next}
use Rattle.writing.proofs.RowPuts.{row_at_lem, row_ready}
use Rattle.writing.proofs.Writing.{Writing}

-- fewer entries more
pub row_less : {ptrs cols vals : List ℕ} {i extra : ℕ} {s : Put} (fewer : ℕ) → RowPut ptrs cols vals i extra s → fewer ≤ extra → RowPut ptrs cols vals i fewer s
row_less fewer h l = record {
  same = h.same;
  pointer = h.pointer;
  rises = h.rises;
  within = h.within;
  fits = record { columns = omega (arith, h.fits.columns); numbers = omega (arith, h.fits.numbers) };
}

-- a matrix with g i beside each row i
abbrev pub beside : Matrix → (ℕ → List Entry) → List (List Entry)
beside m g = table m.nrows (λ i. row_at m i ++ g i)

module _ (m : Matrix) (g : ℕ → List Entry) (ptrs₀ cols₀ vals₀ : List ℕ) (r : Readable m) (f : Roomy (beside m g) (lent ptrs₀ cols₀ vals₀)) {i at : ℕ} {ptrs cols vals : List ℕ} (w : Writing (beside m g) (lent (set ptrs₀ 0 0) cols₀ vals₀) i at ptrs cols vals) (h : i < m.nrows) where
  beside_row : get_or (beside m g) i [] ≡ row m.row_ptrs (entries m.col_idcs m.values) i ++ g i
  beside_row = get_or-table m.nrows (λ i. row_at m i ++ g i) i [] h ∙ ap (λ (es : List Entry). es ++ g i) (row_at_lem m i h)

  pub beside_ready : RowPut m.row_ptrs m.col_idcs m.values i (length (g i)) (put at cols vals)
  beside_ready =
      row_ready m i (length (g i)) (put at cols vals) r h
      (rw (row_at_lem m i h) (rw (length-append _ _) at (rows_fit _ ptrs₀ cols₀ vals₀ f w _ beside_row (rw length-table h))))

  pub beside_next : {at' : ℕ} {cols' vals' : List ℕ} → put at' cols' vals' ≡ more (row m.row_ptrs (entries m.col_idcs m.values) i ++ g i) (put at cols vals)
      → Writing (beside m g) (lent (set ptrs₀ 0 0) cols₀ vals₀) (i + 1) at' (set ptrs (i + 1) at') cols' vals'
  beside_next = rows_next _ ptrs₀ cols₀ vals₀ f w _ beside_row (rw length-table h)
