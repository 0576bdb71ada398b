-- What `append` and `add_row` make is well formed.
-- Assumes nothing.
use Rattle.std.specs.Prelude.{Ok}
use mathlib.Core.Path.{◌≡◌, refl, sym, subst, ◌∙◌}
use mathlib.Core.List.{List, [], ◌∷◌, ◌++◌}
use Prim.Native.Nat.{ℕ, ◌+◌}
use native.Mathlib.Nat.{add-zero}
use lib.ListN.{length}
use borrow.Author.Tests.{eqb-true, not-false}
use Rattle.sparse.specs.Matrix.{Matrix}
use Rattle.sparse.specs.Rows.{Entry, entries, rows_of, compressed}
use Rattle.sparse.specs.Tests.{well_formed, one_row, well_formed_vector}
use Rattle.sparse.specs.declared.Refusal.TheVariants.{Mismatch}
use Rattle.sparse.proofs.Firsts.{lowest_good, refuse_good}
use Rattle.writing.proofs.Lowests.{both_good}
use Rattle.writing.proofs.Puttings.{Sized}
use Rattle.below.specs.Below.{append_test, add_row_test}
use Rattle.below.specs.Parts.{both_tests, rows_in}
use Rattle.below.proofs.Appends.{row_alone}
use Rattle.below.proofs.Forms.{append_well_formed}
use Rattle.below.proofs.Passed.{lower_good, append-sizes, append-tests, append-sized, row_sizes, row_tests_lem, added_sized}
use Rattle.joined.proofs.Passed.{formed_of, matrix_of, size_of, Sizes, sizes, BothGood, both_formed}

-- `append`
pub append-formed : (p : ℕ) (a b : Matrix) → append_test p a b ≡ Ok tt → well_formed 65536 p (compressed a.ncols (rows_of a ++ rows_of b)) ≡ Ok tt
unfolding both_tests
append-formed p a b e =
    let all = both_good (append-sizes p a b) _ (sym (append-tests p a b) ∙ e) in
    let size : Sizes p a.nrows a.ncols (length a.values) b.nrows b.ncols (length b.values) b.nrows 0 = sizes all.0 in
    let forms = both_good (both_tests p a b) _ all.1 in
    let one = lowest_good _ _ forms.0 in
    let two = lowest_good _ _ one.1 in
    let three = lowest_good _ _ two.1 in
    let four = lowest_good _ _ three.1 in
    let rows = lower_good _ _ three.0 in
    let same : a.ncols ≡ b.ncols = eqb-true _ _ (not-false _ (refuse_good _ Mismatch (lowest_good _ _ forms.1).0)) in
    append_well_formed p a b
    (formed_of p a size.modulus size.first (matrix_of p a one.0 rows.0 four.0))
    (formed_of p b size.modulus size.second (matrix_of p b two.0 rows.1 (lowest_good _ _ four.1).0))
    same
    (size_of a.ncols (append-sized p a b e) (rw (add-zero a.ncols) at size.together))

-- a row is the one row of a matrix
rows_one : (n : ℕ) (cols vals : List ℕ) → rows_of (one_row n cols vals) ≡ entries cols vals ∷ []
unfolding rows_of one_row rows_in
rows_one n cols vals = row_alone cols vals

-- `add_row`
pub added_well_formed : (p : ℕ) (m : Matrix) (cols vals : List ℕ) → add_row_test p m cols vals ≡ Ok tt → well_formed 65536 p (compressed m.ncols (rows_of m ++ (entries cols vals ∷ []))) ≡ Ok tt
unfolding well_formed_vector one_row
added_well_formed p m cols vals e =
    let all = both_good (row_sizes p m cols vals) _ (sym (row_tests_lem p m cols vals) ∙ e) in
    let size : Sizes p m.nrows m.ncols (length m.values) 1 m.ncols (length vals) 1 0 = sizes all.0 in
    let good : BothGood p m m.ncols cols vals = both_formed p m m.ncols cols vals size all.1 in
    let few : Sized (rows_of m ++ rows_of (one_row m.ncols cols vals)) (m.nrows + 1) (length m.values + length vals) = rw (rows_one m.ncols cols vals) (added_sized p m cols vals e) in
    subst (λ (rs : List (List Entry)). well_formed 65536 p (compressed m.ncols (rows_of m ++ rs)) ≡ Ok tt) (rows_one m.ncols cols vals)
    (append_well_formed p m (one_row m.ncols cols vals) good.matrix good.vector refl (size_of m.ncols few (rw (add-zero m.ncols) at size.together)))
