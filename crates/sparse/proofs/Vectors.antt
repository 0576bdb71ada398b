-- A vector's tests: 1, 2, 3 of the lengths, 5 and 6, since a matrix of one row has no other.
-- Assumes nothing.
use mathlib.Core.Path.{◌≡◌, refl}
use mathlib.Core.Bool.{Bool, true, false, not}
use mathlib.Core.List.{List, [], ◌∷◌}
use Prim.Native.Nat.{ℕ, ◌≤◌}
use native.Mathlib.Nat.{sub-zero}
use native.Mathlib.Omega.{arith}
use lib.Dec.{eqb}
use lib.ListN.{length}
use lib.Seq.{take_all}
use borrow.Author.Tests.{le-ltb, eq-eqb, eqb-true}
use Rattle.sparse.specs.Matrix.{part, row}
use Rattle.sparse.specs.Refusals.{refuse, ◌else◌, lowest, first_of}
use Rattle.sparse.specs.Tests.{modulus_test, size_test, shape_test, columns_test, row_test, rows_test, values_test, rows_values_test, matrix_test, well_formed, one_row, well_formed_vector}
use Rattle.sparse.specs.declared.Refusal.TheVariants.{Shape}
use Rattle.sparse.specs.declared.inside.Clause.TheVariants.{Residue}
use Rattle.sparse.proofs.Firsts.{else_none}

-- a list from its start to its length
part_all {ℓ} : {A : Type ℓ} (n : ℕ) (xs : List A) → length xs ≤ n → part 0 n xs ≡ xs
unfolding part
part_all n xs h = rw sub-zero (take_all n xs h)

-- by whether there are as many columns as values
one_row_lem : (b : Bool) (p len : ℕ) (idcs vals : List ℕ) → eqb (length idcs) (length vals) ≡ b
    → matrix_test p (one_row len idcs vals) ≡ lowest (refuse (not b) Shape ∷ columns_test len idcs ∷ values_test Residue p vals ∷ [])
unfolding matrix_test one_row shape_test refuse lowest ◌else◌ rows_test rows_values_test first_of row_test row
one_row_lem false p len idcs vals e = rw e
one_row_lem true p len idcs vals e =
    let h : length idcs ≡ length vals = eqb-true _ _ e in
    simp (e, eq-eqb (length vals) (length vals) refl, le-ltb (length vals) 0 (omega arith), le-ltb (length idcs) (length vals) (omega arith), part_all (length vals) idcs (omega arith), part_all (length vals) vals (omega arith))

-- the tests of a vector, in the table's order
pub vector_tests : (limit p len : ℕ) (idcs vals : List ℕ) → well_formed_vector limit p len idcs vals
    ≡ lowest (modulus_test p ∷ size_test limit 1 len (length vals) ∷ refuse (not (eqb (length idcs) (length vals))) Shape ∷ columns_test len idcs ∷ values_test Residue p vals ∷ [])
unfolding well_formed_vector well_formed one_row lowest
vector_tests limit p len idcs vals = rw (else_none (matrix_test p (one_row len idcs vals)), one_row_lem (eqb (length idcs) (length vals)) p len idcs vals refl)
