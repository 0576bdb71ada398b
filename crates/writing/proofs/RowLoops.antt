-- A loop that writes rows, after the first pointer: how it starts, that the lent memory keeps its length, and how it ends.
-- Assumes nothing.
use mathlib.Core.Path.{◌≡◌, sym, ap, ◌∙◌}
use mathlib.Core.List.{List, [], ◌++◌}
use Prim.Native.Nat.{ℕ, ◌+◌, ◌≤◌, ◌<◌}
use native.Mathlib.Omega.{arith}
use lib.ListN.{length, get_or, set, length-set}
use lib.Seq.{drop-set-lt}
use Rattle.lists.specs.Onto.{◌onto◌}
use Rattle.lists.specs.Table.{table}
use Rattle.lists.proofs.Tables.{length-table}
use Rattle.sparse.specs.Lent.{Lent, lent}
use Rattle.sparse.specs.Put.{put_rows}
use Rattle.sparse.specs.Rows.{Entry, offset}
use Rattle.writing.specs.Asks.{Roomy}
use Rattle.writing.specs.Puts.{put, more, Fits}
use Rattle.writing.proofs.Puttings.{roomy}
use Rattle.writing.proofs.Writing.{Room, Writing, writing_none, writing_more, writing_all, row_fits, cols_keep, vals_keep, ptrs_keep}

module _ (rs : List (List Entry)) (ptrs₀ cols₀ vals₀ : List ℕ) (h : Roomy rs (lent ptrs₀ cols₀ vals₀)) where
  abbrev old : Lent
  old = lent (set ptrs₀ 0 0) cols₀ vals₀

  pub room_for : Room rs (lent ptrs₀ cols₀ vals₀)
  room_for = roomy rs (lent ptrs₀ cols₀ vals₀) h.room

  -- the first pointer leaves room
  pub room_left : Room rs old
  room_left = record { pointers = simp length-set room_for.pointers; columns = room_for.columns; numbers = room_for.numbers }

  -- pointers over the first one
  over : (n : ℕ) → table (n + 1) (offset rs) onto set ptrs₀ 0 0 ≡ table (n + 1) (offset rs) onto ptrs₀
  unfolding ◌onto◌
  over n = ap (λ (l : List ℕ). table (n + 1) (offset rs) ++ l) (drop-set-lt (length (table (n + 1) (offset rs))) ptrs₀ 0 0 (rw length-table (omega arith)))

  pub rows_start : Writing rs old 0 0 (set ptrs₀ 0 0) cols₀ vals₀
  rows_start =
      let w = writing_none rs (lent ptrs₀ cols₀ vals₀) (omega (arith, room_for.pointers)) in
      record { within = w.within; place = w.place; pointers = w.pointers ∙ sym (over 0); columns = w.columns; numbers = w.numbers }

  module _ {i at : ℕ} {ptrs cols vals : List ℕ} (w : Writing rs old i at ptrs cols vals) where
    -- row i of the rows is es, and is written next
    pub rows_fit : (es : List Entry) → get_or rs i [] ≡ es → i < length rs → Fits (length es) (put at cols vals)
    rows_fit es e l = rw e at (row_fits rs old room_left i at ptrs cols vals w l)

    pub rows_next : (es : List Entry) {at' : ℕ} {cols' vals' : List ℕ} → get_or rs i [] ≡ es → i < length rs → put at' cols' vals' ≡ more es (put at cols vals) → Writing rs old (i + 1) at' (set ptrs (i + 1) at') cols' vals'
    rows_next es {at'} {cols'} {vals'} e l q = writing_more rs old room_left i at ptrs cols vals w at' cols' vals' l (q ∙ ap (λ (x : List Entry). more x (put at cols vals)) (sym e))

    pub rows_end : length rs ≤ i → lent ptrs cols vals ≡ put_rows rs (lent ptrs₀ cols₀ vals₀)
    unfolding put_rows
    rows_end l = writing_all rs old room_left i at ptrs cols vals w l ∙ ap (λ (x : List ℕ). lent x (put_rows rs old).col_idcs (put_rows rs old).values) (over (length rs))

    -- the lent memory keeps its length
    pub keep_ptrs : length ptrs ≡ length ptrs₀
    keep_ptrs = ptrs_keep rs old room_left i at ptrs cols vals w ∙ length-set ptrs₀ 0 0

    pub keep_cols : length cols ≡ length cols₀
    keep_cols = cols_keep rs old room_left i at ptrs cols vals w

    pub keep_vals : length vals ≡ length vals₀
    keep_vals = vals_keep rs old room_left i at ptrs cols vals w

    -- where the next pointer goes
    pub next_place : i < length rs → i + 1 < length ptrs
    next_place l = omega (arith, keep_ptrs, room_for.pointers)
