-- Rows taken one after another: the fold of the single step.
use Rattle.std.specs.Prelude.{ℕ, ◌+◌, Bool, List, [], ◌∷◌, set}
use Rattle.sparse.specs.Lent.{Outcome, outcome, unless}
use Rattle.sparse.specs.Rows.{Entry}
use Rattle.state.specs.Memory.{Memory}
use Rattle.stepping.specs.Take.{room_asked, row_step}
use Rattle.stepping.specs.declared.Stepped.{Stepped}
use Rattle.telling.specs.Answers.{number}
use Rattle.telling.specs.Runs.{run, stop, ended}
use Rattle.telling.specs.declared.Reduced.{Reduced}
use Rattle.telling.specs.declared.Reduced.TheVariants.{Taken, Dependent, Stopped, Refused}
use Rattle.telling.specs.declared.Run.{Run}

-- the reducer's lists, and the answers
pub record Written : Type 0 where
  pub memory : Memory
  pub answers : List ℕ

abbrev pub written : Memory → List ℕ → Written
written m answers = record { memory = m; answers = answers }

-- a row is taken: counted, and its answer written
unfoldable pub counted : Bool → ℕ → Outcome Stepped Memory → List ℕ → Outcome Reduced Written
counted check k o answers =
    outcome (ended check o.answer.answer (run (k + 1) o.answer.counts)) (written o.memory (set answers k (number o.answer.answer)))

-- one row more; 14 ends the call, and the rows before stay
unfoldable pub next_row : Bool → Bool → List Entry → Run → Written → Outcome Reduced Written
next_row on check es r w =
    unless (λ why. Stopped (stop why r)) (room_asked r.counts es w.memory) w (counted check r.taken (row_step on r.counts es w.memory) w.answers)

-- the same, while the call goes on
unfoldable pub then_row : Bool → Bool → List Entry → Reduced → Written → Outcome Reduced Written
then_row on check es (Taken r) w = next_row on check es r w
then_row on check es (Dependent r) w = outcome (Dependent r) w
then_row on check es (Stopped s) w = outcome (Stopped s) w
then_row on check es (Refused why) w = outcome (Refused why) w

-- all rows
unfoldable pub take_rows : Bool → Bool → List (List Entry) → Outcome Reduced Written → Outcome Reduced Written
take_rows on check [] o = o
take_rows on check (es ∷ rs) o = take_rows on check rs (then_row on check es o.answer o.memory)

-- what a call of many rows is lent: these and dense memory
pub record Night : Type 0 where
  pub memory : Memory
  pub answers : List ℕ
  pub dense : List ℕ

abbrev pub night : Memory → List ℕ → List ℕ → Night
night m answers dense = record { memory = m; answers = answers; dense = dense }
