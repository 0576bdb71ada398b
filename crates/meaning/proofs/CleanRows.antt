-- The rows of a clean matrix are clean, and clean matrices of equal values are equal.
-- Assumes nothing.
use Rattle.std.specs.Prelude.{Ok}
use mathlib.Core.Path.{◌≡◌, sym, ap, ap₂, ◌∙◌}
use Prim.Native.Nat.{ℕ, ◌+◌, ◌-◌, ◌≤◌, ◌<◌}
use native.Mathlib.Omega.{arith}
use lib.Dec.{lit≤}
use lib.ListN.{length, get_or}
use Rattle.lists.specs.Table.{table}
use Rattle.lists.proofs.Tables.{table_ext}
use Rattle.sparse.specs.Matrix.{Matrix, part, row, value_at}
use Rattle.sparse.specs.Refusals.{number}
use Rattle.sparse.specs.Rows.{entries, rows_of, compressed}
use Rattle.sparse.specs.Tests.{well_formed, clean}
use Rattle.sparse.specs.declared.Refusal.TheVariants.{Zero}
use Rattle.sparse.proofs.Cuts.{Laid, formed_laid, formed_rows}
use Rattle.sparse.proofs.Firsts.{lowest_good}
use Rattle.meaning.proofs.Numbers.{no_row, clean_none}
use Rattle.meaning.proofs.Parts.{length_part, get_d_part}
use Rattle.meaning.proofs.RowLists.{compressed_rows, part_entries}
use Rattle.meaning.proofs.Values.{no_bad_climbs, Clean, clean_unique}

module _ (limit p : ℕ) (m : Matrix) (good : clean limit p m ≡ Ok tt) where
  formed : well_formed limit p m ≡ Ok tt
  unfolding clean
  formed = (lowest_good _ _ good).0

  pub clean_laid : Laid m
  clean_laid = formed_laid limit p m formed

  -- row i of a clean matrix
  pub clean_row : (i : ℕ) → i < m.nrows → Clean m.ncols (row m.row_ptrs m.col_idcs i) (row m.row_ptrs m.values i)
  unfolding row number
  clean_row i h = record {
    climbs = no_bad_climbs m.ncols (row m.row_ptrs m.col_idcs i) (no_row m clean_laid.shape.col_each (formed_rows limit p m formed) i h).1;
    many = length_part a b m.col_idcs (omega (arith, clean_laid.shape.col_each, fits)) ∙ sym long;
    stored = λ k l z.
        let short : k < b - a = omega (arith, long) in
        clean_none limit p m good Zero (lit≤ tt) (record { place = a + k; within = omega (arith, fits); such = sym (get_d_part a b m.values k 0 short) ∙ z });
  }
    where
      a : ℕ
      a = get_or m.row_ptrs i 0

      b : ℕ
      b = get_or m.row_ptrs (i + 1) 0

      fits : b ≤ length m.values
      fits = clean_laid.rows.within i h

      long : length (part a b m.values) ≡ b - a
      long = length_part a b m.values fits

  -- row i as a list of entries
  pub clean_entries : (i : ℕ) → i < m.nrows → row m.row_ptrs (entries m.col_idcs m.values) i ≡ entries (row m.row_ptrs m.col_idcs i) (row m.row_ptrs m.values i)
  unfolding row
  clean_entries i h = sym (part_entries (get_or m.row_ptrs i 0) (get_or m.row_ptrs (i + 1) 0) m.col_idcs m.values clean_laid.shape.col_each (clean_laid.rows.within i h))

-- clean matrices of one shape that have the same value at every place are equal
pub clean_matrix_unique : (limit p : ℕ) (m o : Matrix) → clean limit p m ≡ Ok tt → clean limit p o ≡ Ok tt → m.nrows ≡ o.nrows → m.ncols ≡ o.ncols
    → ((i j : ℕ) → i < m.nrows → j < m.ncols → value_at m i j ≡ value_at o i j) → m ≡ o
unfolding value_at
clean_matrix_unique limit p m o good fine rows cols same =
    sym (compressed_rows m (clean_laid limit p m good)) ∙ ap₂ compressed cols lists ∙ compressed_rows o (clean_laid limit p o fine)
  where
    each : (i : ℕ) → i < m.nrows → row m.row_ptrs (entries m.col_idcs m.values) i ≡ row o.row_ptrs (entries o.col_idcs o.values) i
    each i h =
        let there : i < o.nrows = omega (arith, rows) in
        let c : Clean m.ncols (row o.row_ptrs o.col_idcs i) (row o.row_ptrs o.values i) = rw (← cols) at (clean_row limit p o fine i there) in
        let e = clean_unique m.ncols _ _ _ _ (clean_row limit p m good i h) c (λ j l. same i j h l) in
        clean_entries limit p m good i h ∙ ap₂ entries e.0 e.1 ∙ sym (clean_entries limit p o fine i there)

    lists : rows_of m ≡ rows_of o
    lists = unfold rows_of in table_ext m.nrows _ _ each ∙ ap (λ (n : ℕ). table n (row o.row_ptrs (entries o.col_idcs o.values))) rows
