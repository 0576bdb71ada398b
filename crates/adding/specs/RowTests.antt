-- When a row can be taken: the numbers before step 1, against the record of counts.
use Rattle.std.specs.Prelude.{ℕ, not, ◌||◌, List, [], ◌∷◌, ltb, eqb, length}
use Rattle.sparse.specs.Refusals.{refuse, lowest, Tested}
use Rattle.sparse.specs.Tests.{modulus_test, size_test, columns_test, values_test}
use Rattle.sparse.specs.declared.Refusal.TheVariants.{Shape, Mismatch}
use Rattle.sparse.specs.declared.inside.Clause.TheVariants.{Residue, Nonzero}
use Rattle.state.specs.Memory.{Memory}
use Rattle.state.specs.State.{state_test}
use Rattle.state.specs.declared.Counts.{Counts}

-- 1 and 2 of the record; 2, 3, 5, 6 and 7 of the row, a clean one
unfoldable pub row_tests : ℕ → ℕ → List ℕ → List ℕ → List Tested
row_tests p n cols vals =
    modulus_test p
    ∷ size_test 65536 1 n (length vals)
    ∷ refuse (not (eqb (length cols) (length vals))) Shape
    ∷ columns_test n cols
    ∷ values_test Residue p vals
    ∷ values_test Nonzero p vals
    ∷ []

-- 11: dense memory or the pivot table is shorter than the columns
unfoldable pub short_test : ℕ → List ℕ → List ℕ → Tested
short_test n dense pivots = refuse (ltb (length dense) n || ltb (length pivots) n) Mismatch

-- these, then 11 and 13
unfoldable pub add_row_test : Counts → List ℕ → List ℕ → List ℕ → Memory → Tested
add_row_test c cols vals dense m =
    lowest (lowest (row_tests c.modulus c.ncols cols vals) ∷ short_test c.ncols dense m.pivots ∷ state_test c m ∷ [])
