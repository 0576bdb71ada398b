-- What the functions of this crate ask of their arguments, and what is seen after one row.
use Rattle.std.specs.Prelude.{◌≡◌, true, false, ◌||◌, ℕ, ◌+◌, ◌-◌, ◌*◌, ◌≤◌, ◌<◌, List, [], ◌∷◌, map, ltb, length, Ok, Some}
use Rattle.lists.specs.Onto.{◌onto◌}
use Rattle.lists.specs.Table.{table}
use Rattle.sparse.specs.Lent.{Lent, room_test, Outcome, outcome}
use Rattle.sparse.specs.Pivots.{mark}
use Rattle.sparse.specs.Refusals.{refuse, lowest, Tested}
use Rattle.sparse.specs.Rows.{entries}
use Rattle.sparse.specs.Tests.{modulus_test, size_test}
use Rattle.sparse.specs.declared.Refusal.TheVariants.{Mismatch}
use Rattle.state.specs.Asks.{Opened}
use Rattle.state.specs.Memory.{Memory}
use Rattle.state.specs.State.{u_fault, u_lost, u_rows}
use Rattle.state.specs.declared.Counts.{Counts}
use Rattle.state.specs.declared.Mode.TheVariants.{None}
use Rattle.walk.specs.Step.{pivot_at, Taken, step}
use Rattle.walk.specs.Step as S
use Rattle.taking.specs.Rows.{Shown, storing, Takes}
use Rattle.taking.specs.Stores.{Upper, lower}
use Rattle.reduced.specs.Order.{pivot_columns}

-- 1; 2; 11, by the numbers of places
unfoldable pub open_test : ℕ → ℕ → ℕ → ℕ → Tested
open_test p n dense table = lowest (modulus_test p ∷ size_test 65536 0 n 0 ∷ refuse (ltb dense n || ltb table n) Mismatch ∷ [])

-- by 2, 11, 13 and 14: a place in the table for each column, and one for each pivot's row after the first pointer
pub record Orders (n : ℕ) (pivots ptrs : List ℕ) : Type 0 where
  pub table : n ≤ length pivots
  pub few : length (pivot_columns pivots n) ≤ 1024
  pub places : length (pivot_columns pivots n) < length ptrs

-- U's row numbers from the highest pivot column down
unfoldable pub numbers_down : List ℕ → ℕ → List ℕ
numbers_down pivots n = map (pivot_at pivots) (pivot_columns pivots n)

-- the first pointer, and the row numbers where the other pointers will stand; the table of no rows
unfoldable pub ordered : ℕ → List ℕ → List ℕ → Outcome (List ℕ) (List ℕ)
ordered n pivots ptrs = outcome ((0 ∷ numbers_down pivots n) onto ptrs) (table n (λ j. mark) onto pivots)

-- what a row comes to by steps 3 and 4 of the second walk
abbrev pub came_to : ℕ → ℕ → ℕ → List ℕ → List ℕ → Upper → Taken
came_to p n rank cols vals u = step true p n rank (S.upper u.cols u.vals u.ptrs u.pivots) (entries cols vals)

-- a row that walks, with no L, and has a head
pub record Clears (p n rank fill : ℕ) (cols vals dense : List ℕ) (u : Upper) : Type 0 where
  pub takes : Takes true p n None rank fill 0 0 cols vals dense u (lower [] [] [])
  pub head : ℕ
  pub accepted : (came_to p n rank cols vals u).answer ≡ Some head

-- what is stored of it
unfoldable pub stored_row : ℕ → ℕ → ℕ → ℕ → List ℕ → List ℕ → Upper → Shown
stored_row p n rank fill cols vals u = storing None n rank fill 0 0 (came_to p n rank cols vals u).answer (came_to p n rank cols vals u) u (lower [] [] [])

-- by 1, 2, 11, 13 and 14: U in a state, room for its reduced rows, and dense memory that is zero
pub record Builds (c : Counts) (m : Memory) (l : Lent) (dense : List ℕ) : Type 0 where
  pub opened : Opened c.modulus c.ncols m.pivots
  pub lost : u_lost c.rank c.u_fill m.u_cols m.u_vals m.u_ptrs ≡ false
  pub fault : u_fault c.modulus (u_rows c.ncols c.rank c.u_fill m.u_cols m.u_vals m.u_ptrs) m.pivots ≡ false
  pub room : room_test c.rank (c.rank * (c.ncols - c.rank + 1)) l ≡ Ok tt
  pub zero : dense ≡ table c.ncols (λ j. 0)
