-- The notebook modulo 7, one row each: N1 to N4, N8 and N9.
-- Assumes nothing.
use Rattle.std.specs.Prelude.{None, Some}
use mathlib.Core.Path.{◌≡◌, refl}
use mathlib.Core.Bool.{true, false}
use mathlib.Core.List.{[], ◌∷◌}
use Rattle.field.specs.Inverse.{inverse}
use Rattle.lists.specs.Find.{least, count, keep}
use Rattle.lists.specs.Sum.{Σ}
use Rattle.lists.specs.Table.{table}
use Rattle.sparse.specs.Matrix.{part, row, value_in}
use Rattle.sparse.specs.Pivots.{mark}
use Rattle.sparse.specs.Put.{cols_of, values_of}
use Rattle.sparse.specs.Rows.{entry}
use Rattle.walk.specs.Step.{Upper, upper, pivot_at, is_none, taken, subtract, accept, stopped, at, climb, divided, ended, start, walked, copied, direct, step}

-- U after N1, after N2 and after N4
abbrev u1 : Upper
u1 = upper (0 ∷ 1 ∷ []) (1 ∷ 2 ∷ []) (0 ∷ 2 ∷ []) (0 ∷ mark ∷ mark ∷ [])

abbrev u2 : Upper
u2 = upper (0 ∷ 1 ∷ 2 ∷ []) (1 ∷ 2 ∷ 1 ∷ []) (0 ∷ 2 ∷ 3 ∷ []) (0 ∷ mark ∷ 1 ∷ [])

pub n1 : step false 7 3 0 (upper [] [] (0 ∷ []) (mark ∷ mark ∷ mark ∷ [])) (entry 0 2 ∷ entry 1 4 ∷ []) ≡ taken (Some 0) (entry 0 1 ∷ entry 1 2 ∷ []) (entry 0 2 ∷ [])
unfolding step direct copied walked ended start divided climb at stopped accept subtract is_none pivot_at upper mark inverse least count keep Σ table part row value_in cols_of values_of
n1 = refl

pub n2 : step false 7 3 1 u1 (entry 0 3 ∷ entry 1 6 ∷ entry 2 5 ∷ []) ≡ taken (Some 2) (entry 2 1 ∷ []) (entry 0 3 ∷ entry 1 5 ∷ [])
unfolding step direct copied walked ended start divided climb at stopped accept subtract is_none pivot_at upper mark inverse least count keep Σ table part row value_in cols_of values_of
n2 = refl

pub n3 : step false 7 3 2 u2 (entry 0 1 ∷ entry 1 2 ∷ entry 2 6 ∷ []) ≡ taken None [] (entry 0 1 ∷ entry 1 6 ∷ [])
unfolding step direct copied walked ended start divided climb at stopped accept subtract is_none pivot_at upper mark inverse least count keep Σ table part row value_in cols_of values_of
n3 = refl

pub n4 : step false 7 3 2 u2 (entry 1 3 ∷ entry 2 1 ∷ []) ≡ taken (Some 1) (entry 1 1 ∷ entry 2 5 ∷ []) (entry 2 3 ∷ [])
unfolding step direct copied walked ended start divided climb at stopped accept subtract is_none pivot_at upper mark inverse least count keep Σ table part row value_in cols_of values_of
n4 = refl

-- rows (0,1,5), (1,2,0), then (1,3,6): L in pivot column order
abbrev u8 : Upper
u8 = upper (1 ∷ 2 ∷ 0 ∷ 1 ∷ []) (1 ∷ 5 ∷ 1 ∷ 2 ∷ []) (0 ∷ 2 ∷ 4 ∷ []) (1 ∷ 0 ∷ mark ∷ [])

pub n8 : step false 7 3 2 u8 (entry 0 1 ∷ entry 1 3 ∷ entry 2 6 ∷ []) ≡ taken (Some 2) (entry 2 1 ∷ []) (entry 1 1 ∷ entry 0 1 ∷ entry 2 1 ∷ [])
unfolding step direct copied walked ended start divided climb at stopped accept subtract is_none pivot_at upper mark inverse least count keep Σ table part row value_in cols_of values_of
n8 = refl

-- row (0,0,1), then (1,0,3): copied by the first walk, cleared by the second
abbrev u9 : Upper
u9 = upper (2 ∷ []) (1 ∷ []) (0 ∷ 1 ∷ []) (mark ∷ mark ∷ 0 ∷ [])

pub n9_first : step false 7 3 1 u9 (entry 0 1 ∷ entry 2 3 ∷ []) ≡ taken (Some 0) (entry 0 1 ∷ entry 2 3 ∷ []) (entry 1 1 ∷ [])
unfolding step direct copied walked ended start divided climb at stopped accept subtract is_none pivot_at upper mark inverse least count keep Σ table part row value_in cols_of values_of
n9_first = refl

pub n9_second : step true 7 3 1 u9 (entry 0 1 ∷ entry 2 3 ∷ []) ≡ taken (Some 0) (entry 0 1 ∷ []) (entry 0 3 ∷ entry 1 1 ∷ [])
unfolding step direct copied walked ended start divided climb at stopped accept subtract is_none pivot_at upper mark inverse least count keep Σ table part row value_in cols_of values_of
n9_second = refl
