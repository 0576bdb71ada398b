-- The source of an index is the mark or a row, and what is taken from it.
-- Assumes nothing.
use Rattle.std.specs.Prelude.{None, Some}
use mathlib.Core.Path.{◌≡◌, refl, sym, ap, ◌∙◌}
use mathlib.Core.List.{List, [], ◌∷◌}
use mathlib.Core.Logic.{⊎_elim}
use Prim.Native.Nat.{ℕ, ◌+◌, ◌≤◌, ◌<◌}
use native.Mathlib.Omega.{arith}
use lib.ListN.{length, get_or}
use borrow.Author.Tests.{eq-eqb, ne_eqb}
use Rattle.lists.proofs.Tables.{length-table, get_or-table}
use Rattle.sparse.specs.Lent.{LentVector}
use Rattle.sparse.specs.Matrix.{Matrix, row}
use Rattle.sparse.specs.Pivots.{mark}
use Rattle.sparse.specs.Rows.{Entry, entry, entries}
use Rattle.sparse.proofs.Cuts.{Laid, laid}
use Rattle.meaning.proofs.RowLists.{part_entries}
use Rattle.writing.proofs.RowPuts.{row_at_lem}
use Rattle.readers.specs.Asks.{Readable}
use Rattle.pivots.proofs.PivotTables.{sources}
use Rattle.lasts.specs.Asks.{At, Room}
use Rattle.lasts.specs.Gathers.{size_of, source_of, taken_at, taken, gathered, held, Last}
use Rattle.lasts.specs.Lasts.{in_last, last_of}
use Rattle.lasts.specs.declared.gather.Order.{Order}
use Rattle.lasts.specs.declared.gather.Order.TheVariants.{ByRow, Reversed, ByPivot}
use Rattle.lasts.proofs.Gathering.{Fits}

-- a source that isn't the mark is a row
pub source_row : (o : Order) (m : Matrix) (pivots : List ℕ) (k : ℕ) → At o m pivots k → (source_of o m.nrows pivots k ≡ mark → ⊥) → source_of o m.nrows pivots k < m.nrows
unfolding size_of source_of
source_row ByRow m pivots k a ne = a.within
source_row Reversed m pivots k a ne = omega (arith, a.within)
source_row ByPivot m pivots k a ne = ⊎_elim (λ e. absurd (ne e)) (λ l. l) (sources m.nrows pivots (a.from.table refl) k a.within)

-- row i lies within the entries
pub record RowIn (m : Matrix) (i : ℕ) : Type 0 where
  pub pointer : i + 1 < length m.row_ptrs
  pub rises : get_or m.row_ptrs i 0 ≤ get_or m.row_ptrs (i + 1) 0
  pub fits : get_or m.row_ptrs (i + 1) 0 ≤ length m.values
  pub cols_fit : get_or m.row_ptrs (i + 1) 0 ≤ length m.col_idcs

pub row_within : (m : Matrix) (i : ℕ) → Readable m → i < m.nrows → RowIn m i
row_within m i r h =
    let l : Laid m = laid m r.shape r.rows in
    let fits = l.rows.within i h in
    record { pointer = omega (arith, l.shape.many); rises = l.rows.rises i h; fits = fits; cols_fit = omega (arith, l.shape.col_each) }

module _ (o : Order) (m : Matrix) (pivots : List ℕ) (k : ℕ) where
  -- nothing is taken where the mark stands
  pub taken_none : source_of o m.nrows pivots k ≡ mark → taken_at o m pivots k ≡ []
  unfolding taken_at
  taken_none e = rw (eq-eqb _ _ e)

  -- else the row's entry in the last column
  pub taken_last : (source_of o m.nrows pivots k ≡ mark → ⊥) → taken_at o m pivots k ≡ last_of m (source_of o m.nrows pivots k) k
  unfolding taken_at
  taken_last ne = rw (ne_eqb _ _ ne)

-- the entry in the last column, by the row's columns and values
pub last_of_row : (m : Matrix) (i : ℕ) → Readable m → i < m.nrows → (k : ℕ) → last_of m i k ≡ in_last m.ncols (entries (row m.row_ptrs m.col_idcs i) (row m.row_ptrs m.values i)) k
unfolding last_of row
last_of_row m i r h k =
    let l : Laid m = laid m r.shape r.rows in
    ap (λ (es : List Entry). in_last m.ncols es k)
    (row_at_lem m i h ∙ sym (part_entries (get_or m.row_ptrs i 0) (get_or m.row_ptrs (i + 1) 0) m.col_idcs m.values l.shape.col_each (l.rows.within i h)))

-- there are as many as indices
pub taken_many : (o : Order) (m : Matrix) (pivots : List ℕ) → length (taken o m pivots) ≡ size_of o m.nrows pivots
unfolding taken
taken_many o m pivots = length-table (size_of o m.nrows pivots) (taken_at o m pivots)

module _ {o : Order} {m : Matrix} {pivots : List ℕ} {k : ℕ} (a : At o m pivots k) where
  pub one_of : k < length (taken o m pivots)
  one_of = rw taken_many a.within

  taken_at_lem : get_or (taken o m pivots) k [] ≡ taken_at o m pivots k
  unfolding taken
  taken_at_lem = get_or-table (size_of o m.nrows pivots) (taken_at o m pivots) k [] a.within

  -- index k, as `last_at` finds it
  pub found_one : {r : Last} {v : ℕ} → held r k ≡ taken_at o m pivots k → r ≡ Some v → get_or (taken o m pivots) k [] ≡ entry k v ∷ []
  unfolding held
  found_one q e = taken_at_lem ∙ sym q ∙ ap (λ (x : Last). held x k) e

  pub found_none : {r : Last} → held r k ≡ taken_at o m pivots k → r ≡ None → get_or (taken o m pivots) k [] ≡ []
  unfolding held
  found_none q e = taken_at_lem ∙ sym q ∙ ap (λ (x : Last). held x k) e

-- by 14 what is gathered fits
pub room_for : {o : Order} {m : Matrix} {pivots : List ℕ} {l : LentVector} → Room o m pivots l → Fits (taken o m pivots) l
unfolding gathered
room_for r = record { indices = r.indices; numbers = r.numbers }
