-- What each call makes is a good vector, and its value at an index is the matrix's in the last column of that index's row.
-- Assumes nothing.
use Rattle.std.specs.Prelude.{None, Ok}
use mathlib.Core.Path.{◌≡◌, sym, ◌∙◌}
use mathlib.Core.Bool.{cond}
use mathlib.Core.List.{List, []}
use Prim.Native.Nat.{ℕ, ◌-◌, ◌≤◌, ◌<◌}
use native.Mathlib.Decide.{ℕ_discrete}
use native.Mathlib.Omega.{arith}
use lib.Dec.{eqb}
use lib.ListN.{length, get_or}
use borrow.Author.Tests.{eq-eqb, ne_eqb, leb-false}
use Rattle.sparse.specs.Matrix.{Matrix, row, value_in, value_at}
use Rattle.sparse.specs.Pivots.{mark}
use Rattle.sparse.specs.Put.{cols_of, values_of}
use Rattle.sparse.specs.Tests.{modulus_test, value_test, values_test, rows_values_test, matrix_test, well_formed, well_formed_vector}
use Rattle.sparse.proofs.Firsts.{refuse_good, lowest_good, each_good}
use Rattle.meaning.proofs.Values.{columns_climb}
use Rattle.writing.proofs.Written.{value_of}
use Rattle.readers.specs.Asks.{Readable, Climbing}
use Rattle.readers.proofs.Identities.{formed_readable, row_climbing}
use Rattle.lasts.specs.Asks.{Sourced}
use Rattle.lasts.specs.Gathers.{size_of, source_of, taken_at, taken, gathered, held}
use Rattle.pivots.specs.Tables.{table_test}
use Rattle.lasts.specs.Lasts.{last_of, by_row, by_row_rev, by_pivot}
use Rattle.lasts.specs.declared.gather.Order.{Order}
use Rattle.lasts.specs.declared.gather.Order.TheVariants.{ByRow, Reversed, ByPivot}
use Rattle.lasts.proofs.Ends.{worth, Standing, standing}
use Rattle.lasts.proofs.Forms.{Single, singles_formed, value_on, value_at_lem, vector_formed}
use Rattle.lasts.proofs.Sources.{source_row, taken_none, taken_last, last_of_row}
use Rattle.lasts.proofs.Ways.{by_row_lem, by_row_rev_lem, by_pivot_lem, rows_in_order, rows_reversed, rows_sourced, pivot_formed, pivots_sourced}

module _ (p : ℕ) (m : Matrix) (good : well_formed 65536 p m ≡ Ok tt) where
  whole : Readable m
  whole = formed_readable 65536 p m good

  modulus : modulus_test p ≡ Ok tt
  unfolding well_formed
  modulus = (lowest_good _ _ good).0

  -- 6 finds nothing in a row
  row_small : (i : ℕ) → i < m.nrows → (k : ℕ) → k < length (row m.row_ptrs m.values i) → get_or (row m.row_ptrs m.values i) k 0 < p
  unfolding well_formed matrix_test rows_values_test values_test value_test
  row_small i h k l =
      let tests = (lowest_good _ _ (lowest_good _ _ (lowest_good _ _ good).1).1).0 in
      leb-false p _ (refuse_good _ _ (each_good _ _ (each_good m.nrows _ (lowest_good _ _ (lowest_good _ _ (lowest_good _ _ tests).1).1).0 i h) k l))

  module _ (i : ℕ) (h : i < m.nrows) where
    stands : Standing m.ncols (row m.row_ptrs m.col_idcs i) (row m.row_ptrs m.values i)
    stands =
        let c : Climbing m.ncols (row m.row_ptrs m.col_idcs i) (row m.row_ptrs m.values i) = row_climbing m whole i h in
        standing m.ncols _ _ c.same (columns_climb m.ncols _ c.good)

    -- a row has at most one entry in the last column
    row_single : (k : ℕ) → Single p k (last_of m i k)
    row_single k = record {
      what = stands.what;
      here = last_of_row m i whole h k ∙ sym (stands.here k);
      small = λ v e. let s = stands.stored v e in rw s.2 (row_small i h s.0 s.1);
    }

    -- and its value is the row's there
    row_value : (k : ℕ) → value_of (last_of m i k) k ≡ value_at m i (m.ncols - 1)
    unfolding value_at row_single
    row_value k = value_on (row_single k) ∙ sym stands.value

  module _ (o : Order) (pivots : List ℕ) (s : Sourced o m pivots) where
    abbrev source : ℕ → ℕ
    source k = source_of o m.nrows pivots k

    mark_single : (k : ℕ) → source k ≡ mark → Single p k (taken_at o m pivots k)
    unfolding held
    mark_single k e = record { what = None; here = taken_none o m pivots k e; small = λ v q. let z : ◌≡◌ {A = ℕ} 0 1 = cc in absurd (omega arith) }

    -- each index has at most one entry
    index_single : (k : ℕ) → k < size_of o m.nrows pivots → Single p k (taken_at o m pivots k)
    index_single k h = go (ℕ_discrete (source k) mark)
      where
        go : Dec (source k ≡ mark) → Single p k (taken_at o m pivots k)
        go (yes e) = mark_single k e
        go (no ne) = rw (taken_last o m pivots k ne) (row_single (source k) (source_row o m pivots k (record { from = s; within = h }) ne) k)

    gathered_formed : well_formed_vector 65536 p (size_of o m.nrows pivots) (cols_of (gathered o m pivots)) (values_of (gathered o m pivots)) ≡ Ok tt
    unfolding gathered taken
    gathered_formed = vector_formed p (size_of o m.nrows pivots) (gathered o m pivots) modulus s.few (singles_formed p (taken_at o m pivots) (size_of o m.nrows pivots) index_single)

    gathered_value : (k : ℕ) → k < size_of o m.nrows pivots → value_in (cols_of (gathered o m pivots)) (values_of (gathered o m pivots)) k ≡ cond (eqb (source k) mark) 0 (value_at m (source k) (m.ncols - 1))
    unfolding gathered taken cols_of values_of worth mark_single
    gathered_value k h = value_at_lem p (taken_at o m pivots) (size_of o m.nrows pivots) index_single k h ∙ go (ℕ_discrete (source k) mark)
      where
        go : Dec (source k ≡ mark) → value_of (taken_at o m pivots k) k ≡ cond (eqb (source k) mark) 0 (value_at m (source k) (m.ncols - 1))
        go (yes e) = value_on (mark_single k e) ∙ rw (eq-eqb (source k) mark e)
        go (no ne) = rw (ne_eqb (source k) mark ne, taken_last o m pivots k ne) (row_value (source k) (source_row o m pivots k (record { from = s; within = h }) ne) k)

  -- no row has the mark's number
  few_rows : m.nrows ≤ mark
  unfolding mark
  few_rows = omega (arith, whole.few)

  -- `last_column`: a good vector of length nrows, at k the value of row k
  pub last_column_formed : well_formed_vector 65536 p m.nrows (cols_of (by_row m)) (values_of (by_row m)) ≡ Ok tt
  unfolding size_of
  last_column_formed = rw (← by_row_lem m [] few_rows) (gathered_formed ByRow [] (rows_sourced ByRow p m [] good rows_in_order))

  pub last_column_value : (k : ℕ) → k < m.nrows → value_in (cols_of (by_row m)) (values_of (by_row m)) k ≡ value_at m k (m.ncols - 1)
  unfolding size_of source_of
  last_column_value k h = rw (← by_row_lem m [] few_rows) (gathered_value ByRow [] (rows_sourced ByRow p m [] good rows_in_order) k h ∙ rw (ne_eqb k mark (λ e. omega (arith, few_rows))))

  -- `last_column_rev`: the same, at k the value of row nrows-1-k
  pub last_column_rev_formed : well_formed_vector 65536 p m.nrows (cols_of (by_row_rev m)) (values_of (by_row_rev m)) ≡ Ok tt
  unfolding size_of
  last_column_rev_formed = rw (← by_row_rev_lem m [] few_rows) (gathered_formed Reversed [] (rows_sourced Reversed p m [] good rows_reversed))

  pub last_column_rev_value : (k : ℕ) → k < m.nrows → value_in (cols_of (by_row_rev m)) (values_of (by_row_rev m)) k ≡ value_at m (m.nrows - 1 - k) (m.ncols - 1)
  unfolding size_of source_of
  last_column_rev_value k h = rw (← by_row_rev_lem m [] few_rows) (gathered_value Reversed [] (rows_sourced Reversed p m [] good rows_reversed) k h ∙ rw (ne_eqb (m.nrows - 1 - k) mark (λ e. omega (arith, few_rows))))

-- `last_column_by_pivot`: a good vector of the table's length, at k the value of the row that the table names there, 0 at the mark
module _ (p : ℕ) (m : Matrix) (pivots : List ℕ) (good : table_test p m pivots ≡ Ok tt) where
  pub last_column_by_pivot_formed : well_formed_vector 65536 p (length pivots) (cols_of (by_pivot m pivots)) (values_of (by_pivot m pivots)) ≡ Ok tt
  unfolding size_of
  last_column_by_pivot_formed = rw (← by_pivot_lem m pivots) (gathered_formed p m (pivot_formed p m pivots good) ByPivot pivots (pivots_sourced p m pivots good))

  pub last_column_by_pivot_value : (k : ℕ) → k < length pivots → value_in (cols_of (by_pivot m pivots)) (values_of (by_pivot m pivots)) k ≡ cond (eqb (get_or pivots k 0) mark) 0 (value_at m (get_or pivots k 0) (m.ncols - 1))
  unfolding size_of source_of
  last_column_by_pivot_value k h = rw (← by_pivot_lem m pivots) (gathered_value p m (pivot_formed p m pivots good) ByPivot pivots (pivots_sourced p m pivots good) k h)
