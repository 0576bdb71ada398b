-- L in memory, with values: its rows stay where a row is added, and the new row is the last.
-- Assumes nothing.
use Rattle.std.specs.Prelude.{Ok}
use mathlib.Core.Path.{◌≡◌, ap, ap₂, subst, ◌∙◌}
use mathlib.Core.Bool.{true, false}
use mathlib.Core.List.{List, []}
use Prim.Native.Nat.{ℕ, ◌+◌, ◌≤◌, ◌<◌}
use native.Mathlib.Omega.{arith}
use lib.ListN.{length, get_or, length-map}
use Rattle.sparse.specs.Matrix.{row}
use Rattle.sparse.specs.Put.{cols_of, values_of}
use Rattle.sparse.specs.Rows.{Entry, entries}
use Rattle.meaning.proofs.RowLists.{entries_of_lem}
use Rattle.state.specs.Fresh.{keeps}
use Rattle.state.specs.Memory.{Memory}
use Rattle.state.specs.Room.{room_test}
use Rattle.state.specs.State.{l_fault}
use Rattle.state.specs.declared.Counts.{Counts}
use Rattle.state.specs.declared.Mode.{Mode}
use Rattle.state.specs.declared.Mode.TheVariants.{Full}
use Rattle.taking.specs.Stores.{Lower, with_l}
use Rattle.stepping.specs.Asks.{Stands}
use Rattle.stepping.specs.Take.{lists, lower_of}
use Rattle.stepping.proofs.Room.{LRoom, l_free}
use Rattle.stepping.proofs.Walks.{parts, stands_inverts}
use Rattle.keeping.proofs.Lowers.{Level, level_within}
use Rattle.keeping.proofs.Puts.{row_kept, row_new}
use Rattle.determinant.proofs.Fulls.{full_level, full_long}

-- L's row i
abbrev pub line_of : Lower → ℕ → List Entry
line_of l i = entries (row l.ptrs l.cols i) (row l.ptrs l.vals i)

module _ (c : Counts) (m : Memory) (s : Stands c (lists m [])) (full : c.mode ≡ Full) where
  sound : l_fault Full c m.l_cols m.l_vals m.l_ptrs ≡ false
  sound = subst (λ (mode : Mode). l_fault mode c m.l_cols m.l_vals m.l_ptrs ≡ false) full (parts c (lists m []) s).multipliers

  pub l_level : Level c.rank c.l_rows c.l_fill m.l_cols m.l_ptrs
  l_level = full_level c m.l_cols m.l_vals m.l_ptrs (stands_inverts c (lists m []) s).least sound

  pub l_long : c.l_fill ≤ length m.l_vals
  l_long = full_long c m.l_cols m.l_vals m.l_ptrs (stands_inverts c (lists m []) s).least sound

  -- one row more
  module _ (room : room_test c m ≡ Ok tt) (es : List Entry) (few : length es ≤ c.rank + 1) where
    abbrev l : Lower
    l = lower_of m

    free : LRoom c.mode (c.rank + 1) c.l_rows c.l_fill m.l_cols m.l_vals m.l_ptrs
    free = l_free c m room

    kept : keeps c.mode ≡ true
    unfolding keeps
    kept = ap keeps full

    many_cols : length (cols_of es) ≡ length es
    unfolding cols_of
    many_cols = length-map es (λ (e : Entry). e.col)

    many_vals : length (values_of es) ≡ length es
    unfolding values_of
    many_vals = length-map es (λ (e : Entry). e.value)

    fits_cols : c.l_fill + length es ≤ length m.l_cols
    fits_cols = omega (arith, free.columns kept, few)

    fits_vals : c.l_fill + length es ≤ length m.l_vals
    fits_vals = omega (arith, free.numbers full, few)

    place : c.l_rows + 1 < length m.l_ptrs
    place = free.pointers kept

    pub line_kept : (i : ℕ) → i < c.l_rows → line_of (with_l c.mode c.l_rows c.l_fill es l) i ≡ line_of l i
    unfolding with_l
    line_kept i h =
        let within : get_or m.l_ptrs (i + 1) 0 ≤ c.l_fill = level_within l_level (i + 1) (omega arith) in
        rw full (ap₂ entries
        (row_kept c.l_rows c.l_fill (length es) m.l_ptrs place (cols_of es) m.l_cols many_cols fits_cols i h within)
        (row_kept c.l_rows c.l_fill (length es) m.l_ptrs place (values_of es) m.l_vals many_vals fits_vals i h within))

    pub line_new : line_of (with_l c.mode c.l_rows c.l_fill es l) c.l_rows ≡ es
    unfolding with_l
    line_new =
        rw full (ap₂ entries
        (row_new c.l_rows c.l_fill (length es) m.l_ptrs place (cols_of es) m.l_cols many_cols fits_cols l_level.ends)
        (row_new c.l_rows c.l_fill (length es) m.l_ptrs place (values_of es) m.l_vals many_vals fits_vals l_level.ends)
        ∙ (unfold cols_of values_of in entries_of_lem es))
