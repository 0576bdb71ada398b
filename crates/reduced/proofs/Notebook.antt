-- The notebook modulo 7: N6.
-- Assumes nothing.
use mathlib.Core.Path.{◌≡◌, refl}
use mathlib.Core.List.{List, [], ◌∷◌}
use Prim.Native.Nat.{ℕ}
use lib.ListN.{get_or}
use Rattle.field.specs.Inverse.{inverse}
use Rattle.lists.specs.Find.{least, count, keep}
use Rattle.lists.specs.Sum.{Σ}
use Rattle.lists.specs.Table.{table}
use Rattle.sparse.specs.Matrix.{value_in}
use Rattle.sparse.specs.Pivots.{mark}
use Rattle.sparse.specs.Put.{cols_of, values_of}
use Rattle.sparse.specs.Rows.{Entry, entry}
use Rattle.walk.specs.Step.{pivot_at, is_none, subtract, accept, stopped, at, climb, divided, ended, start, walked, copied, direct, step}
use Rattle.steps.specs.History.{at_once, answered, placed, extended}
use Rattle.steps.specs.Setting.{with_last}
use Rattle.reduced.specs.Building.{finished}
use Rattle.reduced.specs.Order.{pivot_columns, row_down}

-- N4's U, (1,2,0), (0,0,1), (0,1,5) with pivots 0, 2, 1, from the highest pivot column down
abbrev stored : ℕ → List Entry
stored r = get_or ((entry 0 1 ∷ entry 1 2 ∷ []) ∷ (entry 2 1 ∷ []) ∷ (entry 1 1 ∷ entry 2 5 ∷ []) ∷ []) r []

abbrev rows : ℕ → List Entry
rows i = stored (row_down (0 ∷ 2 ∷ 1 ∷ []) 3 i)

pub n6 : table 3 (λ i. table 3 ((finished 7 3 rows 3).value i)) ≡ (0 ∷ 0 ∷ 1 ∷ []) ∷ (0 ∷ 1 ∷ 0 ∷ []) ∷ (1 ∷ 0 ∷ 0 ∷ []) ∷ []
unfolding pivot_columns finished extended placed with_last answered at_once step direct copied walked ended start divided climb at stopped accept subtract is_none pivot_at mark inverse least count keep Σ table value_in cols_of values_of
n6 = refl

pub n6_pivots : (finished 7 3 rows 3).pivots ≡ 2 ∷ 1 ∷ 0 ∷ []
unfolding pivot_columns finished extended placed with_last answered at_once step direct copied walked ended start divided climb at stopped accept subtract is_none pivot_at mark inverse least count keep Σ table value_in cols_of values_of
n6_pivots = refl
