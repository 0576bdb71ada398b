-- `sort_rows_by_pivot`: its result has the matrix's rows, each once, in the order of the table, and is as well formed.
-- Assumes nothing.
use Rattle.std.specs.Prelude.{Ok}
use mathlib.Core.Path.{◌≡◌, refl, sym, ap, ◌∙◌}
use mathlib.Core.List.{List, [], map, flatten}
use Prim.Native.Nat.{ℕ, ◌<◌}
use native.Mathlib.Omega.{arith}
use lib.ListN.{length, get_or}
use Rattle.sparse.specs.Matrix.{Matrix, value_at}
use Rattle.sparse.specs.Pivots.{named}
use Rattle.sparse.specs.Rows.{Entry, row_at, compressed}
use Rattle.sparse.specs.Tests.{size_test, columns_test, values_test, well_formed}
use Rattle.sparse.specs.declared.inside.Clause.TheVariants.{Residue}
use Rattle.sparse.proofs.Firsts.{lowest_good, lowest_next, lowest_last}
use Rattle.writing.proofs.WellFormed.{rows_well_formed, given_columns, given_values}
use Rattle.writing.proofs.Written.{value_of, row_of_rows, value_written, well_formed_lem, stored}
use Rattle.pivots.specs.Tables.{table_test}
use Rattle.moves.proofs.Named.{get_d_picked}
use Rattle.moves.proofs.SortPassed.{sort_once, sort_sized}
use Rattle.moves.proofs.Totals.{once_many}
use Rattle.moved.specs.Permutes.{Permutes}
use Rattle.moved.proofs.Orders.{once_permutes}

-- the row that the table names i-th
abbrev pub order : List ℕ → ℕ → ℕ
order pivots i = get_or (named pivots) i 0

-- the result, read as a matrix
abbrev pub sorted : Matrix → List ℕ → Matrix
sorted m pivots = compressed m.ncols (map (row_at m) (named pivots))

module _ (p : ℕ) (m : Matrix) (pivots : List ℕ) (good : table_test p m pivots ≡ Ok tt) where
  -- each row of the matrix is named exactly once
  pub sorted_permutes : Permutes m.nrows (order pivots)
  sorted_permutes = once_permutes m.nrows (named pivots) (sort_once p m pivots good)

  -- the matrix is well formed
  formed : well_formed 65536 p m ≡ Ok tt
  unfolding table_test well_formed
  formed =
      let one = lowest_good _ _ good in
      let two = lowest_good _ _ one.1 in
      let three = lowest_good _ _ two.1 in
      sym (lowest_next _ refl one.0 (lowest_next _ refl two.0 (lowest_last (sym (lowest_good _ _ three.1).0))))

  module _ (i : ℕ) (h : i < m.nrows) where
    picked : get_or (map (row_at m) (named pivots)) i [] ≡ row_at m (order pivots i)
    picked = get_d_picked (row_at m) (named pivots) i [] (omega (arith, once_many m.nrows (named pivots) (sort_once p m pivots good)))

    pub sorted_row : row_at (sorted m pivots) i ≡ row_at m (order pivots i)
    sorted_row = row_of_rows m.ncols (map (row_at m) (named pivots)) i ∙ picked

    pub sorted_value : (j : ℕ) → value_at (sorted m pivots) i j ≡ value_at m (order pivots i) j
    sorted_value j =
        value_written m.ncols (map (row_at m) (named pivots)) i j (omega (arith, (sort_sized p m pivots good).many))
        ∙ ap (λ (es : List Entry). value_of es j) picked
        ∙ sym (stored m (well_formed_lem p m formed) (order pivots i) j (sorted_permutes.below i h))

  pub sorted_well_formed : well_formed 65536 p (sorted m pivots) ≡ Ok tt
  unfolding table_test
  sorted_well_formed =
      rows_well_formed p m.ncols (map (row_at m) (named pivots)) (lowest_good _ _ good).0 size
      (λ i h. ap (λ (es : List Entry). columns_test m.ncols (map (λ (e : Entry). e.col) es)) (picked i (row_of i h)) ∙ given_columns p m formed (order pivots i) (sorted_permutes.below i (row_of i h)))
      (λ i h. ap (λ (es : List Entry). values_test Residue p (map (λ (e : Entry). e.value) es)) (picked i (row_of i h)) ∙ given_values p m formed (order pivots i) (sorted_permutes.below i (row_of i h)))
    where
      row_of : (i : ℕ) → i < length (map (row_at m) (named pivots)) → i < m.nrows
      row_of i h = omega (arith, (sort_sized p m pivots good).many)

      size : size_test 65536 (length (map (row_at m) (named pivots))) m.ncols (length (flatten (map (row_at m) (named pivots)))) ≡ Ok tt
      size = rw ((sort_sized p m pivots good).many, (sort_sized p m pivots good).long) (lowest_good _ _ (lowest_good _ _ good).1).0
