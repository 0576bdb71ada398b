-- Rows taken one after the other by the single step: what each call that takes rows comes to.
use Rattle.std.specs.Prelude.{◌≡◌, Bool, List, [], ◌∷◌, ◌++◌, map, ℕ, ◌≤◌, length, take, Ok}
use Rattle.lists.specs.Onto.{◌onto◌}
use Rattle.sparse.specs.Rows.{Entry}
use Rattle.state.specs.Fresh.{opening, new_test}
use Rattle.state.specs.Memory.{Memory}
use Rattle.state.specs.declared.Counts.{Counts}
use Rattle.state.specs.declared.Mode.{Mode}
use Rattle.steps.specs.History.{Told, told}
use Rattle.steps.specs.Rows.{CleanRow}
use Rattle.stepping.specs.Take.{room_asked, row_step}
use Rattle.telling.specs.Answers.{number}
use Rattle.telling.specs.declared.Run.{Run}
use Rattle.running.specs.Rows.{Written}
use Rattle.batches.specs.Batch.{restarted}

-- the lists after a fresh start: its tests pass
pub data Begun (mode : Mode) (p n : ℕ) : Memory → Type 0 where
  begun : (m : Memory) → new_test p n mode (opening m.u_ptrs m.l_ptrs m.pivots) ≡ Ok tt → Begun mode p n (restarted mode n m)

-- rows taken one after the other by the single step, in either walk, where there is room: from these counts and lists to those
pub data Strides (p n : ℕ) (c : Counts) (m : Memory) : List Told → Counts → Memory → Type 0 where
  still : Strides p n c m [] c m
  stride : (ts : List Told) (d : Counts) (k : Memory) → Strides p n c m ts d k → (on : Bool) (es : List Entry) → CleanRow p n es → room_asked d es k ≡ Ok tt
      → Strides p n c m (ts ++ (told es (row_step on d es k).answer.answer ∷ [])) (row_step on d es k).answer.counts (row_step on d es k).memory

-- the rows
abbrev pub rows_of_told : List Told → List (List Entry)
rows_of_told ts = map (λ t. t.row) ts

-- the numbers of their answers
abbrev pub numbers_of : List Told → List ℕ
numbers_of ts = map (λ t. number t.answer) ts

-- a call of many rows from these counts and lists: it took the first of those offered, and wrote their answers' numbers to the front of answer memory
pub record Appended (p n : ℕ) (c : Counts) (m : Memory) (offered : List (List Entry)) (before : List ℕ) (r : Run) (w : Written) : Type 0 where
  pub new : List Told
  pub strides : Strides p n c m new r.counts w.memory
  pub many : length new ≡ r.taken
  pub first : rows_of_told new ≡ take (length new) offered
  pub numbers : length new ≤ length before → w.answers ≡ numbers_of new onto before
