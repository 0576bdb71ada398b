-- The notebook modulo 7: N5, and what L's rows of N2 and N8 are times U.
-- Assumes nothing.
use Rattle.std.specs.Prelude.{None}
use mathlib.Core.Path.{◌≡◌, refl}
use mathlib.Core.Bool.{Bool}
use mathlib.Core.List.{[], ◌∷◌}
use Prim.Native.Nat.{◌%◌}
use Rattle.lists.specs.Sum.{Σ}
use Rattle.lists.specs.Table.{table}
use Rattle.sparse.specs.Matrix.{part, row, value_in}
use Rattle.sparse.specs.Rows.{entry}
use Rattle.walk.specs.Step.{Upper, upper, taken}
use Rattle.steps.specs.History.{at_once, answered}
use Rattle.steps.specs.Rows.{times}

-- three rows in three columns: (1,0,0) gets None, and no row of L or U
pub n5 : (on : Bool) (u : Upper) → answered on 7 3 3 u (entry 0 1 ∷ []) ≡ taken None [] []
unfolding answered at_once
n5 on u = refl

-- (3,6,5) is 3 times (1,2,0) and 5 times (0,0,1)
pub n2_times : table 3 (λ j. times (entry 0 3 ∷ entry 1 5 ∷ []) (upper (0 ∷ 1 ∷ 2 ∷ []) (1 ∷ 2 ∷ 1 ∷ []) (0 ∷ 2 ∷ 3 ∷ []) []).value j % 7) ≡ 3 ∷ 6 ∷ 5 ∷ []
unfolding times table upper part row value_in Σ
n2_times = refl

-- (1,3,6) is the rows (1,2,0), (0,1,5) and (0,0,1), by L's row 1:1 0:1 2:1
pub n8_times : table 3 (λ j. times (entry 1 1 ∷ entry 0 1 ∷ entry 2 1 ∷ []) (upper (1 ∷ 2 ∷ 0 ∷ 1 ∷ 2 ∷ []) (1 ∷ 5 ∷ 1 ∷ 2 ∷ 1 ∷ []) (0 ∷ 2 ∷ 4 ∷ 5 ∷ []) []).value j % 7) ≡ 1 ∷ 3 ∷ 6 ∷ []
unfolding times table upper part row value_in Σ
n8_times = refl
