-- A row of a clean matrix: where it lies, and that it is clean.
-- Assumes nothing.
use Rattle.std.specs.Prelude.{Ok}
use mathlib.Core.Path.{◌≡◌, sym, subst, ◌∙◌}
use mathlib.Core.List.{[]}
use Prim.Native.Nat.{ℕ, ◌+◌, ◌≤◌, ◌<◌}
use native.Mathlib.Omega.{arith}
use lib.ListN.{length, get_or}
use Rattle.lists.proofs.Tables.{get_or-table}
use Rattle.sparse.specs.Matrix.{Matrix, row}
use Rattle.sparse.specs.Rows.{entries, rows_of, row_at}
use Rattle.sparse.specs.Tests.{rows_values_test, values_test, matrix_test, well_formed, clean}
use Rattle.sparse.specs.declared.inside.Clause.TheVariants.{Residue, Nonzero}
use Rattle.sparse.proofs.Cuts.{Laid, formed_laid, formed_rows, row_in, Within, small, Small}
use Rattle.sparse.proofs.Firsts.{lowest_good, each_good}
use Rattle.meaning.proofs.Parts.{length_part}
use Rattle.meaning.proofs.RowColumns.{row_climbs}
use Rattle.meaning.proofs.RowLists.{part_entries}
use Rattle.meaning.proofs.Values.{Climbs}
use Rattle.state.specs.declared.Counts.{Counts}
use Rattle.stepping.specs.Asks.{Offered}
use Rattle.stepping.proofs.Offers.{offered}

-- a clean matrix, part by part
module _ (p : ℕ) (a : Matrix) (e : clean 65536 p a ≡ Ok tt) where
  formed : well_formed 65536 p a ≡ Ok tt
  unfolding clean
  formed = (lowest_good _ _ e).0

  lies : Laid a
  lies = formed_laid 65536 p a formed

  sizes : Small 65536 a.nrows a.ncols (length a.values)
  unfolding well_formed
  sizes = small 65536 a.nrows a.ncols (length a.values) (lowest_good _ _ (lowest_good _ _ formed).1).0

  low_values : (i : ℕ) → i < a.nrows → values_test Residue p (row a.row_ptrs a.values i) ≡ Ok tt
  unfolding well_formed matrix_test rows_values_test
  low_values i h =
      let m = (lowest_good _ _ (lowest_good _ _ formed).1).1 in
      each_good a.nrows _ (lowest_good _ _ (lowest_good _ _ (lowest_good _ _ (lowest_good _ _ m).0).1).1).0 i h

  some_values : (i : ℕ) → i < a.nrows → values_test Nonzero p (row a.row_ptrs a.values i) ≡ Ok tt
  unfolding clean rows_values_test
  some_values i h = each_good a.nrows _ (lowest_good _ _ (lowest_good _ _ e).1).0 i h

  -- where row i lies
  pub record Place (i : ℕ) : Type 0 where
    pub pointer : i + 1 < length a.row_ptrs
    pub rises : get_or a.row_ptrs i 0 ≤ get_or a.row_ptrs (i + 1) 0
    pub columns : get_or a.row_ptrs (i + 1) 0 ≤ length a.col_idcs
    pub numbers : get_or a.row_ptrs (i + 1) 0 ≤ length a.values
    pub few : get_or a.row_ptrs (i + 1) 0 ≤ 65536
    pub low : i < 1024

  pub place : (i : ℕ) → i < a.nrows → Place i
  place i h =
      let w : Within (get_or a.row_ptrs i 0) (get_or a.row_ptrs (i + 1) 0) (length a.values) = row_in lies.rows h in
      record {
        pointer = omega (arith, lies.shape.many);
        rises = w.rises;
        columns = omega (arith, w.fits, lies.shape.col_each);
        numbers = w.fits;
        few = omega (arith, w.fits, sizes.few);
        low = omega (arith, sizes.high);
      }

  -- its columns and values, side by side
  pub row_here : (i : ℕ) → i < a.nrows → entries (row a.row_ptrs a.col_idcs i) (row a.row_ptrs a.values i) ≡ row_at a i
  unfolding row_at rows_of row
  row_here i h =
      part_entries (get_or a.row_ptrs i 0) (get_or a.row_ptrs (i + 1) 0) a.col_idcs a.values lies.shape.col_each (place i h).numbers
      ∙ sym (get_or-table a.nrows (row a.row_ptrs (entries a.col_idcs a.values)) i [] h)

  row_same : (i : ℕ) → i < a.nrows → length (row a.row_ptrs a.col_idcs i) ≡ length (row a.row_ptrs a.values i)
  unfolding row
  row_same i h = length_part (get_or a.row_ptrs i 0) (get_or a.row_ptrs (i + 1) 0) a.col_idcs (place i h).columns ∙ sym (length_part (get_or a.row_ptrs i 0) (get_or a.row_ptrs (i + 1) 0) a.values (place i h).numbers)

  -- and it is clean
  pub row_offered : (c : Counts) → c.modulus ≡ p → a.ncols ≡ c.ncols → (i : ℕ) → i < a.nrows → Offered c (row a.row_ptrs a.col_idcs i) (row a.row_ptrs a.values i)
  row_offered c m n i h =
      offered c _ _ (row_same i h) (subst (λ (k : ℕ). Climbs k (row a.row_ptrs a.col_idcs i)) n (row_climbs a (formed_rows 65536 p a formed) i h))
      (rw m (low_values i h)) (rw m (some_values i h))
