-- When an account is judged at all: the numbers that refuse it.
use Rattle.std.specs.Prelude.{◌≡◌, ℕ, ◌-◌, ◌≤◌, Bool, not, ◌||◌, List, [], ◌∷◌, ltb, eqb, length, Ok}
use Rattle.sparse.specs.Refusals.{refuse, lowest, Tested}
use Rattle.sparse.specs.Tests.{modulus_test, size_test, clean}
use Rattle.sparse.specs.declared.Refusal.TheVariants.{Shape, Mismatch, State}
use Rattle.state.specs.State.{crooked}
use Rattle.accounts.specs.Account.{Account}

-- slices that break 3 or 4: columns and values differ in number, there is no pointer, or pointers don't start at 0, fall, or don't end at the value count
unfoldable pub broken : List ℕ → List ℕ → List ℕ → Bool
broken cols vals ptrs = not (eqb (length cols) (length vals)) || eqb (length ptrs) 0 || crooked (length ptrs - 1) (length vals) ptrs

-- 3: the answers aren't one per row
unfoldable pub answers_test : Account → Tested
answers_test a = refuse (not (eqb (length a.answers) a.rows.nrows)) Shape

-- 11: dense memory or the pivot table is shorter than the columns
unfoldable pub memory_test : List ℕ → Account → Tested
memory_test dense a = refuse (ltb (length dense) a.rows.ncols || ltb (length a.memory.pivots) a.rows.ncols) Mismatch

-- 13: U's or L's slices break 3 or 4
unfoldable pub slices_test : Account → Tested
slices_test a =
    refuse
    (broken a.memory.u_cols a.memory.u_vals a.memory.u_ptrs || broken a.memory.l_cols a.memory.l_vals a.memory.l_ptrs)
    State

-- 1 and 2 of the rows; 3 of the answers; 1 to 7 of the rows; 11; 13
unfoldable pub account_test : List ℕ → Account → Tested
account_test dense a =
    lowest
    (modulus_test a.modulus
    ∷ size_test 65536 a.rows.nrows a.rows.ncols (length a.rows.values)
    ∷ answers_test a
    ∷ clean 65536 a.modulus a.rows
    ∷ memory_test dense a
    ∷ slices_test a
    ∷ [])

-- what soundness asks of an account: clean rows, and a place in the pivot table for each column
pub record Presented (a : Account) : Type 0 where
  pub rows : clean 65536 a.modulus a.rows ≡ Ok tt
  pub table : a.rows.ncols ≤ length a.memory.pivots
