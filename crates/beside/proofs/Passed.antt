-- What the tests before a join leave: the matrix is laid out row by row, and the result is within the limits.
-- Assumes nothing.
use Rattle.std.specs.Prelude.{Ok}
use mathlib.Core.Path.{◌≡◌, sym, ◌∙◌}
use mathlib.Core.Bool.{not}
use mathlib.Core.List.{List, [], ◌∷◌, ◌++◌}
use Prim.Native.Nat.{ℕ, ◌+◌, ◌≤◌}
use native.Mathlib.Nat.{add-zero}
use lib.Dec.{eqb}
use lib.ListN.{length}
use borrow.Author.Tests.{eqb-true, not-false}
use Rattle.lists.specs.Table.{table}
use Rattle.sparse.specs.Lent.{Lent, room_test}
use Rattle.sparse.specs.Matrix.{Matrix}
use Rattle.sparse.specs.Refusals.{refuse, lowest, Tested}
use Rattle.sparse.specs.Rows.{entries}
use Rattle.sparse.specs.declared.Refusal.TheVariants.{Mismatch}
use Rattle.sparse.proofs.Cuts.{small, Laid}
use Rattle.sparse.proofs.Firsts.{lowest_good, refuse_good}
use Rattle.writing.proofs.Lowests.{both_good}
use Rattle.writing.proofs.MatrixRows.{readable, matrix_laid}
use Rattle.writing.proofs.Puttings.{Sized, room_known}
use Rattle.joining.specs.Joined.{sizes_tests, forms_tests}
use Rattle.joining.proofs.Formed.{formed, Formed}
use Rattle.beside.specs.Asks.{OnesFit, ColumnFits}
use Rattle.beside.specs.Beside.{append_identity_test, with_column, append_col_test}
use Rattle.beside.proofs.Columns.{column_sized}
use Rattle.beside.proofs.Sizes.{ones_sized}

-- `append_identity`
module _ (p : ℕ) (m : Matrix) (e : append_identity_test p m ≡ Ok tt) where
  pub ones_laid : Laid m
  unfolding append_identity_test
  ones_laid = matrix_laid p m (lowest_good _ _ (lowest_good _ _ (lowest_good _ _ (lowest_good _ _ e).1).1).1).0

  narrow : m.ncols + m.nrows ≤ 1024
  unfolding append_identity_test
  narrow = (small _ _ _ _ (lowest_good _ _ (lowest_good _ _ (lowest_good _ _ e).1).1).0).wide

  pub ones_fit : (l : Lent) {s : Tested} → s ≡ room_test m.nrows (length m.values + m.nrows) l → s ≡ Ok tt → OnesFit m l
  ones_fit l q g = record { from = readable m ones_laid; narrow = narrow; rows = record { room = room_known _ l (ones_sized m ones_laid) q g } }

-- `append_col`
module _ (p : ℕ) (m : Matrix) (len : ℕ) (idcs vals : List ℕ) where
  abbrev pub col_sizes : List Tested
  col_sizes = sizes_tests p m.nrows m.ncols (length m.values) 1 len (length vals) 0 1

  -- the tests in the parts in which code goes through them
  pub col_tests : append_col_test p m len idcs vals ≡ lowest (col_sizes ++ (forms_tests p m len idcs vals ++ (refuse (not (eqb len m.nrows)) Mismatch ∷ [])))
  unfolding append_col_test sizes_tests forms_tests
  col_tests = rw (add-zero m.nrows)

module _ (p : ℕ) (m : Matrix) (len : ℕ) (idcs vals : List ℕ) (e : append_col_test p m len idcs vals ≡ Ok tt) where
  col_formed : Formed m m.nrows idcs vals
  col_formed =
      let forms = both_good (forms_tests p m len idcs vals) _ (both_good (col_sizes p m len idcs vals) _ (sym (col_tests p m len idcs vals) ∙ e)).1 in
      let same : len ≡ m.nrows = eqb-true _ _ (not-false _ (refuse_good _ Mismatch (lowest_good _ _ forms.1).0)) in
      rw same at (formed p m len idcs vals forms.0)

  pub col_sized : Sized (table m.nrows (with_column m (entries idcs vals))) m.nrows (length m.values + length vals)
  col_sized = column_sized idcs vals col_formed.each m col_formed.matrix_laid col_formed.below

  pub col_fits : (l : Lent) {s : Tested} → s ≡ room_test m.nrows (length m.values + length vals) l → s ≡ Ok tt → ColumnFits m idcs vals l
  col_fits l q g = record { from = readable m col_formed.matrix_laid; strict = col_formed.strict; each = col_formed.each; rows = record { room = room_known _ l col_sized q g } }
