-- Inserting columns in a reducer: U's columns and their pivots move, L and the values stay.
use Rattle.std.specs.Prelude.{ℕ, ◌+◌, cond, List, [], ◌∷◌, map, ltb, eqb, length, get_or, take, Err, Ok, Result}
use Rattle.lists.specs.Find.{least}
use Rattle.lists.specs.Onto.{◌onto◌}
use Rattle.lists.specs.Table.{table}
use Rattle.sparse.specs.Lent.{Outcome, outcome, unless}
use Rattle.sparse.specs.Pivots.{mark}
use Rattle.sparse.specs.Refusals.{refuse, lowest, Tested}
use Rattle.sparse.specs.Tests.{modulus_test, size_test}
use Rattle.sparse.specs.declared.Refusal.TheVariants.{Mismatch}
use Rattle.columns.specs.Positions.{positions_test, moved}
use Rattle.state.specs.Fresh.{counts}
use Rattle.state.specs.Memory.{Memory, memory}
use Rattle.state.specs.State.{state_test}
use Rattle.state.specs.declared.Counts.{Counts}
use Rattle.sparse.specs.declared.Refusal.{Refusal}

-- the counts afterwards, or a refusal
abbrev pub Widened : Type 0
Widened = Result Counts Refusal

-- 2, for the new columns too; 11, a pivot table shorter than all of them
unfoldable pub width_test : ℕ → ℕ → ℕ → Tested
width_test n more places = lowest (size_test 65536 0 n 0 ∷ size_test 65536 0 (n + more) 0 ∷ refuse (ltb places (n + more)) Mismatch ∷ [])

-- 1; 2 and 11; 12; 13
unfoldable pub add_cols_test : Counts → List ℕ → Memory → Tested
add_cols_test c positions m =
    lowest
    (modulus_test c.modulus
    ∷ width_test c.ncols (length positions) (length m.pivots)
    ∷ positions_test c.ncols positions
    ∷ state_test c m
    ∷ [])

-- the old column that moves to column j; n where none of the n does
unfoldable pub old_column : ℕ → List ℕ → ℕ → ℕ
old_column n positions j = least n (λ c. eqb (moved positions c) j)

-- what the table holds at column j: what it held at the column that moved there; the mark in a new column
unfoldable pub spread_at : ℕ → List ℕ → List ℕ → ℕ → ℕ
spread_at n positions pivots j = cond (ltb (old_column n positions j) n) (get_or pivots (old_column n positions j) 0) mark

-- the pivot table over the new column range; what stands past it as it came
unfoldable pub spread : ℕ → List ℕ → List ℕ → List ℕ
spread n positions pivots = table (n + length positions) (spread_at n positions pivots) onto pivots

-- the counts with so many columns more
unfoldable pub wider_counts : Counts → ℕ → Counts
wider_counts c more = counts c.mode c.modulus (c.ncols + more) c.rank c.u_fill c.l_rows c.l_fill

-- U's columns moved, what stands past the fill as it came; the pivot table; all else as it came
unfoldable pub widened : Counts → List ℕ → Memory → Memory
widened c positions m =
    memory (map (moved positions) (take c.u_fill m.u_cols) onto m.u_cols) m.u_vals m.u_ptrs
    m.l_cols m.l_vals m.l_ptrs
    (spread c.ncols positions m.pivots)

-- refused, or made with the new column count
unfoldable pub add_cols : Counts → List ℕ → Memory → Outcome Widened Memory
add_cols c positions m = unless Err (add_cols_test c positions m) m (outcome (Ok (wider_counts c (length positions))) (widened c positions m))
