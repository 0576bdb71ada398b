-- A fresh start: counts and first pointers 0, and no pivot.
use Rattle.std.specs.Prelude.{ℕ, Bool, true, false, ◌&&◌, ◌||◌, cond, List, [], ◌∷◌, ltb, eqb, length, Err, Ok, Result}
use Rattle.lists.specs.Onto.{◌onto◌}
use Rattle.lists.specs.Table.{table}
use Rattle.sparse.specs.Lent.{Outcome, outcome, unless}
use Rattle.sparse.specs.Pivots.{mark}
use Rattle.sparse.specs.Refusals.{refuse, lowest, Tested}
use Rattle.sparse.specs.Tests.{modulus_test, size_test}
use Rattle.sparse.specs.declared.Refusal.TheVariants.{Mismatch, Room}
use Rattle.state.specs.declared.Counts.{Counts}
use Rattle.state.specs.declared.Mode.{Mode}
use Rattle.state.specs.declared.Mode.TheVariants.{Full, Pattern, None}
use Rattle.sparse.specs.declared.Refusal.{Refusal}

-- the counts of an empty reducer, or a refusal
abbrev pub Fresh : Type 0
Fresh = Result Counts Refusal

-- the record of counts
abbrev pub counts : Mode → ℕ → ℕ → ℕ → ℕ → ℕ → ℕ → Counts
counts mode p n rank u_fill l_rows l_fill = record { mode = mode; modulus = p; ncols = n; rank = rank; u_fill = u_fill; l_rows = l_rows; l_fill = l_fill }

-- an L is kept
unfoldable pub keeps : Mode → Bool
keeps Full = true
keeps Pattern = true
keeps None = false

-- the lists that a fresh start writes to
pub record Opening : Type 0 where
  pub u_ptrs : List ℕ
  pub l_ptrs : List ℕ
  pub pivots : List ℕ

abbrev pub opening : List ℕ → List ℕ → List ℕ → Opening
opening u l pivots = record { u_ptrs = u; l_ptrs = l; pivots = pivots }

-- 14: no place for a first pointer of U, or of a kept L
unfoldable pub start_test : Mode → List ℕ → List ℕ → Tested
start_test mode u l = refuse (eqb (length u) 0 || keeps mode && eqb (length l) 0) Room

-- first pointers 0, and no pivot in the column range
unfoldable pub started : Mode → ℕ → Opening → Opening
started mode n o = opening ((0 ∷ []) onto o.u_ptrs) (cond (keeps mode) ((0 ∷ []) onto o.l_ptrs) o.l_ptrs) (table n (λ j. mark) onto o.pivots)

-- 1; 2; 11, a pivot table shorter than the columns; 14
unfoldable pub new_test : ℕ → ℕ → Mode → Opening → Tested
new_test p n mode o =
    lowest
    (modulus_test p
    ∷ size_test 65536 0 n 0
    ∷ refuse (ltb (length o.pivots) n) Mismatch
    ∷ start_test mode o.u_ptrs o.l_ptrs
    ∷ [])

-- refused, or opened with counts of 0
unfoldable pub new : ℕ → ℕ → Mode → Opening → Outcome Fresh Opening
new p n mode o = unless Err (new_test p n mode o) o (outcome (Ok (counts mode p n 0 0 0 0)) (started mode n o))
