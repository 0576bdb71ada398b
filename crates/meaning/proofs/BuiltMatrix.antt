-- The matrix built from triplets that pass the tests: each row has exactly the triplets of that row, in their order; it has
-- exactly their values at their places; and it is well formed. Assumes nothing.
use Rattle.std.specs.Prelude.{Ok}
use mathlib.Core.Path.{◌≡◌, refl, sym, ap, ◌∙◌}
use mathlib.Core.Bool.{cond, ◌&&◌}
use mathlib.Core.List.{List, map}
use Prim.Native.Nat.{ℕ, ◌+◌, ◌<◌}
use native.Mathlib.Omega.{arith}
use lib.Dec.{eqb}
use lib.ListN.{length}
use Rattle.lists.specs.Sum.{Σ}
use Rattle.lists.specs.Table.{table}
use Rattle.lists.proofs.Tables.{get_or-table}
use Rattle.sparse.specs.Matrix.{Matrix, matrix, row, value_at}
use Rattle.sparse.specs.Tests.{size_test, matrix_test, well_formed}
use Rattle.triplets.specs.Triplets.{Triplet, triplet, triplets, at, start_of, triplets_test}
use Rattle.meaning.proofs.BuiltForm.{form_good}
use Rattle.sparse.proofs.Firsts.{lowest_skip, lowest_last, lowest_good}
use Rattle.lists.specs.Find.{keep}
use Rattle.meaning.proofs.Kept.{row_kept, value_kept}
use Rattle.triplets.proofs.Orders.{rising}
use Rattle.triplets.proofs.Passed.{parts_of, Accepted, accepted}
use Rattle.triplets.proofs.TripletLists.{rows_back, cols_back, vals_back}

-- the matrix of the triplets, as the call writes it
abbrev pub built : ℕ → ℕ → List Triplet → Matrix
built nrows ncols ts = matrix nrows ncols (table (nrows + 1) (start_of (map (λ t. t.row) ts))) (map (λ t. t.col) ts) (map (λ t. t.value) ts)

module _ (p nrows ncols : ℕ) (rows cols vals : List ℕ) where
  module _ (ok : Accepted p nrows ncols rows cols vals) where
    row_of : (g : Triplet → ℕ) (i : ℕ) → i < nrows → row (table (nrows + 1) (start_of (map (λ (t : Triplet). t.row) (triplets rows cols vals)))) (map g (triplets rows cols vals)) i ≡ map g (keep (λ t. eqb t.row i) (triplets rows cols vals))
    unfolding row
    row_of g i h =
        let parts = parts_of rows cols vals ok.parts in
        let starts = start_of (map (λ (t : Triplet). t.row) (triplets rows cols vals)) in
        rw (get_or-table (nrows + 1) starts i 0 (omega arith), get_or-table (nrows + 1) starts (i + 1) 0 (omega arith))
        (row_kept (λ (t : Triplet). t.row) g (triplets rows cols vals) i (rw (rows_back rows cols vals parts) (rising rows cols vals ok.order parts)))

    -- row i has the columns of that row's triplets, in their order
    pub built_columns : (i : ℕ) → i < nrows → let m = built nrows ncols (triplets rows cols vals) in row m.row_ptrs m.col_idcs i ≡ map (λ (t : Triplet). t.col) (keep (λ t. eqb t.row i) (triplets rows cols vals))
    built_columns i h = row_of (λ t. t.col) i h

    -- and their values
    pub built_values : (i : ℕ) → i < nrows → let m = built nrows ncols (triplets rows cols vals) in row m.row_ptrs m.values i ≡ map (λ (t : Triplet). t.value) (keep (λ t. eqb t.row i) (triplets rows cols vals))
    built_values i h = row_of (λ t. t.value) i h

    -- the value at a place is that of the triplet there, and 0 where there is none
    pub built_value : (i j : ℕ) → i < nrows → let ts = triplets rows cols vals in value_at (built nrows ncols ts) i j ≡ Σ (length ts) (λ k. cond (eqb (at ts k).row i && eqb (at ts k).col j) (at ts k).value 0)
    unfolding value_at at
    built_value i j h = rw (built_columns i h, built_values i h) (value_kept (λ t. eqb t.row i) (λ t. t.col) (λ t. t.value) (triplets rows cols vals) (triplet 0 0 0) j)

    -- none of 3 to 6 applies
    pub built_form : matrix_test p (built nrows ncols (triplets rows cols vals)) ≡ Ok tt
    built_form =
        let parts = parts_of rows cols vals ok.parts in
        rw (rows_back rows cols vals parts, cols_back rows cols vals parts, vals_back rows cols vals)
        (form_good p nrows ncols rows cols vals parts ok.residues ok.places ok.order)

  -- what the call builds is well formed
  pub built_well_formed : triplets_test p nrows ncols rows cols vals ≡ Ok tt → well_formed 65536 p (built nrows ncols (triplets rows cols vals)) ≡ Ok tt
  unfolding well_formed triplets_test
  built_well_formed good =
      let from_size = lowest_good _ _ (lowest_good _ _ good).1 in
      lowest_skip _ (lowest_good _ _ good).0
      ∙ lowest_skip _ (ap (λ (l : List ℕ). size_test 65536 nrows ncols (length l)) (vals_back rows cols vals) ∙ from_size.0)
      ∙ sym (lowest_last refl)
      ∙ built_form (accepted p nrows ncols rows cols vals good)
