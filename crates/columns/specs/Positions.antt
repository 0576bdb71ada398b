-- Inserting columns: position q puts a new column before old column q.
use Rattle.std.specs.Prelude.{ℕ, ◌+◌, ◌-◌, Bool, not, ◌&&◌, ◌||◌, List, [], ◌∷◌, map, leb, ltb, length, get_or, Err, Ok, Result}
use Rattle.lists.specs.Find.{count}
use Rattle.sparse.specs.Lent.{Outcome, outcome, unless}
use Rattle.sparse.specs.Matrix.{Matrix}
use Rattle.sparse.specs.Refusals.{refuse, lowest, first_of, Tested}
use Rattle.sparse.specs.Tests.{modulus_test, size_test, matrix_test}
use Rattle.sparse.specs.declared.Refusal.TheVariants.{Positions}
use Rattle.sparse.specs.declared.Refusal.{Refusal}

-- how many columns there are then, or a refusal
abbrev pub Widened : Type 0
Widened = Result ℕ Refusal

-- the rule for two neighbouring positions: they rise strictly
unfoldable pub in_order : ℕ → ℕ → Bool
in_order q r = ltb q r

-- 12 at position k: above the column count n, or not in order with the one before
unfoldable pub position_test : ℕ → List ℕ → ℕ → Tested
position_test n positions k = refuse (ltb n (get_or positions k 0) || ltb 0 k && not (in_order (get_or positions (k - 1) 0) (get_or positions k 0))) Positions

unfoldable pub positions_test : ℕ → List ℕ → Tested
positions_test n positions = first_of (length positions) (position_test n positions)

-- a stored column moves up by the number of positions not above it
unfoldable pub moved : List ℕ → ℕ → ℕ
moved positions c = c + count (λ q. leb q c) positions

-- 1 to 6, 2 for the widened matrix too, and 12
unfoldable pub add_cols_test : ℕ → Matrix → List ℕ → Tested
add_cols_test p m positions =
    lowest
    (modulus_test p
    ∷ size_test 65536 m.nrows m.ncols (length m.values)
    ∷ size_test 65536 m.nrows (m.ncols + length positions) (length m.values)
    ∷ matrix_test p m
    ∷ positions_test m.ncols positions
    ∷ [])

-- the columns in place, and the new column count
unfoldable pub add_cols : ℕ → Matrix → List ℕ → Outcome Widened (List ℕ)
add_cols p m positions =
    unless Err (add_cols_test p m positions) m.col_idcs
    (outcome (Ok (m.ncols + length positions)) (map (moved positions) m.col_idcs))
