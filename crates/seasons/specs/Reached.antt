-- A reducer reached from a fresh start by rows, inserted columns and back substitutions in any order, and the rows accepted since.
use Rattle.std.specs.Prelude.{◌≡◌, cond, List, ℕ, ◌+◌, ◌-◌, ◌<◌, ltb, length, Ok}
use Rattle.sparse.specs.Lent.{Lent}
use Rattle.sparse.specs.Rows.{Entry}
use Rattle.state.specs.Fresh.{counts}
use Rattle.state.specs.Memory.{Memory}
use Rattle.state.specs.declared.Counts.{Counts}
use Rattle.state.specs.declared.Mode.{Mode}
use Rattle.steps.specs.History.{Told, accepted, values_in}
use Rattle.widening.specs.AddCols.{add_cols_test, wider_counts, widened}
use Rattle.widening.specs.Inserted.{Inserted}
use Rattle.backing.specs.Back.{reducer, back_substitute}
use Rattle.strides.specs.Strides.{Begun, Strides}

-- the first k rows of r, then the rows rs
unfoldable pub followed : ℕ → (ℕ → ℕ → ℕ) → List (List Entry) → ℕ → ℕ → ℕ
followed k r rs i = cond (ltb i k) (r i) (values_in rs (i - k))

-- n columns and k rows r accepted since the fresh start, inserted columns as zeros; counts and lists are these. Rows are taken by
-- the single step, of which each call that takes rows is a run
pub data Reached (p : ℕ) : ℕ → ℕ → (ℕ → ℕ → ℕ) → Counts → Memory → Type 0 where
  fresh : (n : ℕ) (mode : Mode) (m : Memory) → Begun mode p n m → (r : ℕ → ℕ → ℕ) → Reached p n 0 r (counts mode p n 0 0 0 0) m
  rows : (n k : ℕ) (r : ℕ → ℕ → ℕ) (c : Counts) (m : Memory) → Reached p n k r c m → (ts : List Told) (d : Counts) (l : Memory) → Strides p n c m ts d l
      → Reached p n (k + length (accepted ts)) (followed k r (accepted ts)) d l
  columns : (n k : ℕ) (r : ℕ → ℕ → ℕ) (c : Counts) (m : Memory) → Reached p n k r c m → (ps : List ℕ) → add_cols_test c ps m ≡ Ok tt → (s : ℕ → ℕ → ℕ) → ((i : ℕ) → i < k → Inserted n ps (r i) (s i))
      → Reached p (n + length ps) k s (wider_counts c (length ps)) (widened c ps m)
  back : (n k : ℕ) (r : ℕ → ℕ → ℕ) (c : Counts) (m : Memory) → Reached p n k r c m → (l : Lent) (dense : List ℕ) (after : Counts) → (back_substitute c m l dense).answer ≡ Ok after
      → Reached p n k r after (reducer m (back_substitute c m l dense).memory)
