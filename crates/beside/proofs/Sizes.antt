-- How many rows and entries a matrix with something beside it has.
-- Assumes nothing.
use mathlib.Core.Path.{◌≡◌, refl, ap, ap₂, ◌∙◌}
use mathlib.Core.List.{List, [], ◌∷◌, ◌++◌, flatten}
use Prim.Native.Nat.{ℕ, zero, suc, ◌+◌}
use native.Mathlib.Omega.{arith}
use lib.ListN.{length, length-append}
use Rattle.lists.specs.Table.{table}
use Rattle.lists.proofs.Tables.{length-table}
use Rattle.sparse.specs.Matrix.{Matrix}
use Rattle.sparse.specs.Rows.{Entry, entry, row_at}
use Rattle.sparse.proofs.Cuts.{Laid}
use Rattle.meaning.proofs.RowLists.{flatten_snoc}
use Rattle.writing.proofs.MatrixRows.{rows_each, rows_long}
use Rattle.writing.proofs.Puttings.{Sized}
use Rattle.beside.specs.Beside.{with_one}

-- rows with more beside each have the entries of both
pub length-beside : {A : Type 0} (n : ℕ) (f g : ℕ → List A) → length (flatten (table n (λ i. f i ++ g i))) ≡ length (flatten (table n f)) + length (flatten (table n g))
unfolding table flatten
length-beside zero f g = refl
length-beside (suc n) f g =
    simp (flatten_snoc, length-append) (omega (arith, length-beside n f g))

-- a row of one entry each
pub length-ones : {A : Type 0} (n : ℕ) (x : ℕ → A) → length (flatten (table n (λ i. x i ∷ []))) ≡ n
unfolding table flatten
length-ones zero x = refl
length-ones (suc n) x = simp (flatten_snoc, length-append) (omega (arith, length-ones n x))

pub ones_sized : (m : Matrix) → Laid m → Sized (table m.nrows (with_one m)) m.nrows (length m.values + m.nrows)
unfolding with_one
ones_sized m h = record {
  many = length-table m.nrows (with_one m);
  long =
      length-beside m.nrows (row_at m) (λ i. entry (m.ncols + i) 1 ∷ [])
      ∙ ap₂ (λ (a b : ℕ). a + b) (ap (λ (rs : List (List Entry)). length (flatten rs)) (rows_each m) ∙ rows_long m h) (length-ones m.nrows (λ i. entry (m.ncols + i) 1));
}
