-- Rows that are good, written within the limits, make a well formed matrix.
-- Assumes nothing.
use Rattle.std.specs.Prelude.{Ok}
use mathlib.Core.Path.{◌≡◌, refl, sym, ap, ◌∙◌}
use mathlib.Core.List.{List, [], ◌∷◌, map, flatten}
use Prim.Native.Nat.{ℕ, ◌+◌, ◌≤◌, ◌<◌}
use native.Mathlib.Omega.{arith}
use lib.ListN.{length, get_or, length-map}
use lib.Seq.{take_all}
use borrow.Author.Tests.{eq-eqb, le-ltb}
use Rattle.lists.specs.Table.{table}
use Rattle.lists.proofs.Tables.{length-table, get_or-table}
use Rattle.sparse.specs.Matrix.{Matrix, part, row}
use Rattle.sparse.specs.Refusals.{refuse, ◌else◌, lowest, first_of}
use Rattle.sparse.specs.Rows.{Entry, row_at, offset, compressed}
use Rattle.sparse.specs.Tests.{modulus_test, size_test, shape_test, columns_test, row_test, rows_test, values_test, rows_values_test, matrix_test, well_formed}
use Rattle.sparse.specs.declared.inside.Clause.TheVariants.{Residue}
use Rattle.sparse.proofs.Cuts.{Laid, formed_laid}
use Rattle.sparse.proofs.Firsts.{else_good, lowest_good, each_good, lowest_next, lowest_last, all_good}
use Rattle.writing.proofs.Writing.{offset_more, offset_most}
use Rattle.writing.proofs.Written.{row_of_rows, RowParts, row_parts}

module _ (p n : ℕ) (rs : List (List Entry)) where
  abbrev m : Matrix
  m = compressed n rs

  abbrev ptrs : List ℕ
  ptrs = table (length rs + 1) (offset rs)

  abbrev cols : List ℕ
  cols = map (λ (e : Entry). e.col) (flatten rs)

  abbrev vals : List ℕ
  vals = map (λ (e : Entry). e.value) (flatten rs)

  same : length cols ≡ length vals
  same = length-map (flatten rs) (λ (e : Entry). e.col) ∙ sym (length-map (flatten rs) (λ (e : Entry). e.value))

  pointer : (i : ℕ) → i ≤ length rs → get_or ptrs i 0 ≡ offset rs i
  pointer i h = get_or-table (length rs + 1) (offset rs) i 0 (omega arith)

  within : (i : ℕ) → i ≤ length rs → get_or ptrs i 0 ≤ length vals
  within i h = omega (arith, pointer i h, offset_most rs i, length-map (flatten rs) (λ (e : Entry). e.value))

  shaped : shape_test m ≡ Ok tt
  unfolding shape_test compressed refuse offset flatten
  shaped =
      let last : get_or ptrs (length rs) 0 ≡ length vals = pointer (length rs) (omega arith) ∙ ap (λ (l : List (List Entry)). length (flatten l)) (take_all (length rs) rs (omega arith)) ∙ sym (length-map (flatten rs) (λ (e : Entry). e.value)) in
      rw (eq-eqb _ _ same, eq-eqb (length ptrs) (length rs + 1) (length-table (length rs + 1) (offset rs)), eq-eqb (get_or ptrs 0 0) 0 (pointer 0 (omega arith)), eq-eqb (get_or ptrs (length rs) 0) (length vals) last)

  -- a row of the columns, or of the values, is the given row's
  module _ (i : ℕ) (h : i < length rs) where
    abbrev x : ℕ
    x = get_or ptrs i 0

    abbrev y : ℕ
    y = get_or ptrs (i + 1) 0

    fits : y ≤ length vals
    fits = within (i + 1) (omega arith)

    lines : RowParts m i
    unfolding compressed
    lines = row_parts m i h same fits

    row_cols : part x y cols ≡ map (λ (e : Entry). e.col) (get_or rs i [])
    unfolding compressed
    row_cols = lines.cols ∙ ap (map (λ (e : Entry). e.col)) (row_of_rows n rs i)

    row_vals : part x y vals ≡ map (λ (e : Entry). e.value) (get_or rs i [])
    unfolding compressed
    row_vals = lines.vals ∙ ap (map (λ (e : Entry). e.value)) (row_of_rows n rs i)

    rises : x ≤ y
    rises = omega (arith, pointer i (omega arith), pointer (i + 1) (omega arith), offset_more rs i h)

    row_good : columns_test n (map (λ (e : Entry). e.col) (get_or rs i [])) ≡ Ok tt → row_test n cols x y ≡ Ok tt
    unfolding row_test refuse ◌else◌
    row_good e = rw (le-ltb y x rises, le-ltb (length cols) y (omega (arith, same, fits)), row_cols) e

  pub rows_well_formed : modulus_test p ≡ Ok tt → size_test 65536 (length rs) n (length (flatten rs)) ≡ Ok tt
      → ((i : ℕ) → i < length rs → columns_test n (map (λ e. e.col) (get_or rs i [])) ≡ Ok tt)
      → ((i : ℕ) → i < length rs → values_test Residue p (map (λ e. e.value) (get_or rs i [])) ≡ Ok tt)
      → well_formed 65536 p (compressed n rs) ≡ Ok tt
  unfolding well_formed matrix_test rows_test rows_values_test compressed row
  rows_well_formed modulus size columns numbers = sym (lowest_next _ refl modulus (lowest_next _ refl sized (lowest_last (lowest_next _ refl shaped (lowest_next _ refl lined (lowest_last (sym residues)))))))
    where
      sized : size_test 65536 (length rs) n (length vals) ≡ Ok tt
      sized = ap (size_test 65536 (length rs) n) (length-map (flatten rs) (λ (e : Entry). e.value)) ∙ size

      lined : first_of (length rs) (λ i. row_test n cols (get_or ptrs i 0) (get_or ptrs (i + 1) 0)) ≡ Ok tt
      lined = all_good (length rs) (λ i. row_test n cols (get_or ptrs i 0) (get_or ptrs (i + 1) 0)) (λ i h. row_good i h (columns i h))

      residues : first_of (length rs) (λ i. values_test Residue p (part (get_or ptrs i 0) (get_or ptrs (i + 1) 0) vals)) ≡ Ok tt
      residues = all_good (length rs) (λ i. values_test Residue p (part (get_or ptrs i 0) (get_or ptrs (i + 1) 0) vals)) (λ i h. ap (values_test Residue p) (row_vals i h) ∙ numbers i h)

-- what a well formed matrix tells of each of its rows
module _ (p : ℕ) (m : Matrix) (good : well_formed 65536 p m ≡ Ok tt) (i : ℕ) (h : i < m.nrows) where
  matrix_good : lowest (shape_test m ∷ rows_test m.nrows m.ncols m.row_ptrs m.col_idcs ∷ rows_values_test Residue p m.nrows m.row_ptrs m.values ∷ []) ≡ Ok tt
  unfolding well_formed matrix_test
  matrix_good = (lowest_good _ _ (lowest_good _ _ (lowest_good _ _ good).1).1).0

  laid_out : Laid m
  laid_out = formed_laid 65536 p m good

  row_lines : RowParts m i
  row_lines = row_parts m i h laid_out.shape.col_each (laid_out.rows.within i h)

  pub given_columns : columns_test m.ncols (map (λ e. e.col) (row_at m i)) ≡ Ok tt
  unfolding rows_test row_test
  given_columns =
      sym (ap (columns_test m.ncols) row_lines.cols)
      ∙ (else_good _ _ (each_good m.nrows (λ i. row_test m.ncols m.col_idcs (get_or m.row_ptrs i 0) (get_or m.row_ptrs (i + 1) 0)) (lowest_good _ _ (lowest_good _ _ matrix_good).1).0 i h)).1

  pub given_values : values_test Residue p (map (λ e. e.value) (row_at m i)) ≡ Ok tt
  unfolding rows_values_test row
  given_values =
      sym (ap (values_test Residue p) row_lines.vals)
      ∙ each_good m.nrows (λ i. values_test Residue p (part (get_or m.row_ptrs i 0) (get_or m.row_ptrs (i + 1) 0) m.values)) (lowest_good _ _ (lowest_good _ _ (lowest_good _ _ matrix_good).1).1).0 i h
