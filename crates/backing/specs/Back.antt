-- Back substitution of a reducer: U's rows, reduced, in a second U.
use Rattle.std.specs.Prelude.{ℕ, ◌+◌, ◌-◌, ◌*◌, true, ◌||◌, ltb, length, Err, Ok, Result}
use mathlib.Core.List.{List, [], ◌∷◌, flatten}
use Rattle.lists.specs.Onto.{◌onto◌}
use Rattle.lists.specs.Table.{table}
use Rattle.sparse.specs.Lent.{Lent, room_test, Outcome, outcome, unless}
use Rattle.sparse.specs.Put.{put_rows}
use Rattle.sparse.specs.Refusals.{refuse, lowest, Tested}
use Rattle.sparse.specs.Rows.{Entry, row_at}
use Rattle.sparse.specs.Tests.{modulus_test, size_test}
use Rattle.sparse.specs.declared.Refusal.TheVariants.{Mismatch}
use Rattle.state.specs.Fresh.{counts}
use Rattle.state.specs.Memory.{Memory, memory}
use Rattle.state.specs.State.{u_of, state_test}
use Rattle.state.specs.declared.Counts.{Counts}
use Rattle.state.specs.declared.Mode.TheVariants.{None}
use Rattle.steps.specs.History.{answered}
use Rattle.stepping.specs.Take.{cleared}
use Rattle.reduced.specs.Building.{finished}
use Rattle.reduced.specs.Order.{row_down}
use Rattle.sparse.specs.declared.Refusal.{Refusal}

-- what back substitution answers: the counts afterwards, or a refusal
abbrev pub Backed : Type 0
Backed = Result Counts Refusal

-- U's rows from the highest pivot column down: the i-th
unfoldable pub down_row : Counts → Memory → ℕ → List Entry
down_row c m i = row_at (u_of c m) (row_down m.pivots c.ncols i)

-- cleared over the higher pivots, those of the rows before it, which are cleared already
unfoldable pub back_row : Counts → Memory → ℕ → List Entry
back_row c m i = (answered true c.modulus c.ncols i (finished c.modulus c.ncols (down_row c m) i) (down_row c m i)).u

-- all of them
unfoldable pub back_rows : Counts → Memory → List (List Entry)
back_rows c m = table c.rank (back_row c m)

-- the pivot table over the column range: the new rows at the same columns
unfoldable pub back_pivots : Counts → Memory → List ℕ
back_pivots c m = (finished c.modulus c.ncols (down_row c m) c.rank).pivots

-- 1; 2; 11, dense memory or the pivot table shorter than the columns; 13; 14
unfoldable pub back_test : List ℕ → Counts → Memory → Lent → Tested
back_test dense c m l =
    lowest
    (modulus_test c.modulus
    ∷ size_test 65536 0 c.ncols 0
    ∷ refuse (ltb (length dense) c.ncols || ltb (length m.pivots) c.ncols) Mismatch
    ∷ state_test c m
    ∷ room_test c.rank (c.rank * (c.ncols - c.rank + 1)) l
    ∷ [])

-- the counts of so many entries: L is empty, and none is kept
unfoldable pub back_counts : Counts → ℕ → Counts
back_counts c fill = counts None c.modulus c.ncols c.rank fill 0 0

-- what is written to: the pivot table, the second U and dense memory
pub record Backing : Type 0 where
  pub pivots : List ℕ
  pub second : Lent
  pub dense : List ℕ

abbrev pub backing : List ℕ → Lent → List ℕ → Backing
backing pivots l dense = record { pivots = pivots; second = l; dense = dense }

-- the reducer that is left: the second U, its table, and L as it came
abbrev pub reducer : Memory → Backing → Memory
reducer m b = memory b.second.col_idcs b.second.values b.second.row_ptrs m.l_cols m.l_vals m.l_ptrs b.pivots

-- afterwards
unfoldable pub backed : Counts → Memory → Lent → List ℕ → Backing
backed c m l dense = backing (back_pivots c m onto m.pivots) (put_rows (back_rows c m) l) (cleared c.ncols dense)

-- refused, or made with the second U's counts; the old U and L stay as they came
unfoldable pub back_substitute : Counts → Memory → Lent → List ℕ → Outcome Backed Backing
back_substitute c m l dense =
    unless Err (back_test dense c m l) (backing m.pivots l dense)
    (outcome (Ok (back_counts c (length (flatten (back_rows c m))))) (backed c m l dense))
