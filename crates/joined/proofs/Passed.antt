-- What the tests before a join leave: both parts are good, and what they make together is within the limits.
-- Assumes nothing.
use Rattle.std.specs.Prelude.{Ok}
use mathlib.Core.Path.{◌≡◌, refl, sym, ap₂, ◌∙◌}
use mathlib.Core.List.{List, flatten}
use Prim.Native.Nat.{ℕ, ◌+◌}
use lib.ListN.{length}
use Rattle.sparse.specs.Matrix.{Matrix}
use Rattle.sparse.specs.Refusals.{lowest}
use Rattle.sparse.specs.Rows.{Entry}
use Rattle.sparse.specs.Tests.{modulus_test, size_test, shape_test, rows_test, values_test, rows_values_test, matrix_test, well_formed, well_formed_vector}
use Rattle.sparse.specs.declared.inside.Clause.TheVariants.{Residue}
use Rattle.sparse.proofs.Firsts.{lowest_good, lowest_next, lowest_last}
use Rattle.sparse.proofs.Vectors.{vector_tests}
use Rattle.writing.proofs.Puttings.{Sized}
use Rattle.joining.specs.Joined.{pairs_test, sizes_tests, forms_tests}

-- 1, 2, and the rest
pub formed_of : (p : ℕ) (m : Matrix) → modulus_test p ≡ Ok tt → size_test 65536 m.nrows m.ncols (length m.values) ≡ Ok tt → matrix_test p m ≡ Ok tt → well_formed 65536 p m ≡ Ok tt
unfolding well_formed
formed_of p m modulus size rest = sym (lowest_next _ refl modulus (lowest_next _ refl size (lowest_last (sym rest))))

-- and 3 to 6
pub matrix_of : (p : ℕ) (m : Matrix) → shape_test m ≡ Ok tt → rows_test m.nrows m.ncols m.row_ptrs m.col_idcs ≡ Ok tt → rows_values_test Residue p m.nrows m.row_ptrs m.values ≡ Ok tt → matrix_test p m ≡ Ok tt
unfolding matrix_test
matrix_of p m shape rows numbers = sym (lowest_next _ refl shape (lowest_next _ refl rows (lowest_last (sym numbers))))

-- rows of so many entries are within the limits as these numbers are
pub size_of : (n : ℕ) {rows es : ℕ} {rs : List (List Entry)} → Sized rs rows es → size_test 65536 rows n es ≡ Ok tt → size_test 65536 (length rs) n (length (flatten rs)) ≡ Ok tt
size_of n s e = ap₂ (λ (x y : ℕ). size_test 65536 x n y) s.many s.long ∙ e

-- 1 and 2
pub record Sizes (p nrows ncols es rows cols ns ar ac : ℕ) : Type 0 where
  pub modulus : modulus_test p ≡ Ok tt
  pub first : size_test 65536 nrows ncols es ≡ Ok tt
  pub second : size_test 65536 rows cols ns ≡ Ok tt
  pub together : size_test 65536 (nrows + ar) (ncols + ac) (es + ns) ≡ Ok tt

pub sizes : {p nrows ncols es rows cols ns ar ac : ℕ} → lowest (sizes_tests p nrows ncols es rows cols ns ar ac) ≡ Ok tt → Sizes p nrows ncols es rows cols ns ar ac
unfolding sizes_tests
sizes e =
    let one = lowest_good _ _ e in
    let two = lowest_good _ _ one.1 in
    let three = lowest_good _ _ two.1 in
    record { modulus = one.0; first = two.0; second = three.0; together = (lowest_good _ _ three.1).0 }

-- 1 to 6 of a matrix and of a vector of this length
pub record BothGood (p : ℕ) (m : Matrix) (len : ℕ) (idcs vals : List ℕ) : Type 0 where
  pub matrix : well_formed 65536 p m ≡ Ok tt
  pub vector : well_formed_vector 65536 p len idcs vals ≡ Ok tt
  pub small : values_test Residue p vals ≡ Ok tt

pub both_formed : (p : ℕ) (m : Matrix) (len : ℕ) (idcs vals : List ℕ) {ar ac : ℕ} → Sizes p m.nrows m.ncols (length m.values) 1 len (length vals) ar ac → lowest (forms_tests p m len idcs vals) ≡ Ok tt → BothGood p m len idcs vals
unfolding forms_tests pairs_test
both_formed p m len idcs vals s e =
    let shape = lowest_good _ _ e in
    let pairs = lowest_good _ _ shape.1 in
    let rows = lowest_good _ _ pairs.1 in
    let columns = lowest_good _ _ rows.1 in
    let numbers = lowest_good _ _ columns.1 in
    record {
      matrix = formed_of p m s.modulus s.first (matrix_of p m shape.0 rows.0 numbers.0);
      vector = vector_tests 65536 p len idcs vals ∙ sym (lowest_next _ refl s.modulus (lowest_next _ refl s.second (lowest_next _ refl pairs.0 (lowest_next _ refl columns.0 (sym numbers.1)))));
      small = (lowest_good _ _ numbers.1).0;
    }
