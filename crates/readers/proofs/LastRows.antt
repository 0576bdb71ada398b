-- The last row of a good matrix: the entries from where it starts on.
-- Assumes nothing.
use Rattle.std.specs.Prelude.{Ok}
use mathlib.Core.Path.{◌≡◌, sym, ap, ap₂, ◌∙◌}
use mathlib.Core.List.{List, [], map}
use Prim.Native.Nat.{ℕ, ◌+◌, ◌-◌, ◌≤◌, ◌<◌}
use native.Mathlib.Omega.{arith}
use lib.Dec.{ltb}
use lib.ListN.{length, get_or, take, drop}
use borrow.Author.Tests.{ltb-false}
use Rattle.lists.proofs.Tables.{get_or-table}
use Rattle.sparse.specs.Lent.{LentVector, vector_room_test}
use Rattle.sparse.specs.Matrix.{Matrix, part, row}
use Rattle.sparse.specs.Put.{cols_of, values_of}
use Rattle.sparse.specs.Rows.{Entry, entries, rows_of, row_at}
use Rattle.sparse.proofs.Cuts.{Laid}
use Rattle.sparse.proofs.Firsts.{refuse_good, neither}
use Rattle.meaning.proofs.Parts.{length_part}
use Rattle.meaning.proofs.RowColumns.{map-part}
use Rattle.meaning.proofs.RowLists.{length-entries, entry_cols, entry_values}

module _ (m : Matrix) (l : Laid m) (h : 0 < m.nrows) where
  abbrev start : ℕ
  start = get_or m.row_ptrs (m.nrows - 1) 0

  -- it ends with the entries
  ends : get_or m.row_ptrs (m.nrows - 1 + 1) 0 ≡ length m.values
  ends = let e : m.nrows - 1 + 1 ≡ m.nrows = omega arith in ap (λ (i : ℕ). get_or m.row_ptrs i 0) e ∙ l.shape.ends

  pub starts_within : get_or m.row_ptrs (m.nrows - 1) 0 ≤ length m.values
  starts_within = omega (arith, l.rows.rises (m.nrows - 1) (omega arith), ends)

  last_at : row_at m (m.nrows - 1) ≡ part start (length m.values) (entries m.col_idcs m.values)
  unfolding row_at rows_of row
  last_at =
      get_or-table m.nrows (row m.row_ptrs (entries m.col_idcs m.values)) (m.nrows - 1) [] (omega arith)
      ∙ ap (λ (b : ℕ). part start b (entries m.col_idcs m.values)) ends

  pub last_long : length (row_at m (m.nrows - 1)) ≡ length m.values - start
  last_long = ap length last_at ∙ length_part start (length m.values) (entries m.col_idcs m.values) (rw length-entries (omega arith))

  pub last_cols : cols_of (row_at m (m.nrows - 1)) ≡ take (length m.col_idcs - start) (drop start m.col_idcs)
  unfolding cols_of part
  last_cols =
      ap (map (λ (e : Entry). e.col)) last_at
      ∙ sym (map-part (λ (e : Entry). e.col) start (length m.values) (entries m.col_idcs m.values))
      ∙ ap₂ (λ (n : ℕ) (cs : List ℕ). take (n - start) (drop start cs)) (sym l.shape.col_each) (entry_cols m.col_idcs m.values l.shape.col_each)

  pub last_values : values_of (row_at m (m.nrows - 1)) ≡ take (length m.values - start) (drop start m.values)
  unfolding values_of part
  last_values =
      ap (map (λ (e : Entry). e.value)) last_at
      ∙ sym (map-part (λ (e : Entry). e.value) start (length m.values) (entries m.col_idcs m.values))
      ∙ ap (λ (vs : List ℕ). take (length m.values - start) (drop start vs)) (entry_values m.col_idcs m.values)

-- 14 finds nothing: the entries fit
pub room_fits : (n : ℕ) (l : LentVector) → vector_room_test n l ≡ Ok tt → (n ≤ length l.idcs) × (n ≤ length l.values)
unfolding vector_room_test
room_fits n l e = let h = neither (ltb (length l.idcs) n) (ltb (length l.values) n) (refuse_good _ _ e) in (ltb-false _ _ h.0, ltb-false _ _ h.1)
