-- The calls that add one row, in either walk, the record of counts changed in place.
use Rattle.std.specs.Prelude.{ℕ, Bool, List, Ok, Err, Result}
use Rattle.sparse.specs.Lent.{Outcome, outcome}
use Rattle.sparse.specs.declared.Refusal.{Refusal}
use Rattle.state.specs.declared.Counts.{Counts}
use Rattle.walk.specs.Step.{Answer}
use Rattle.stepping.specs.Take.{Lists}
use Rattle.adding.specs.AddRow.{add_row, Added}

-- what a row came to: its answer, or a refusal
abbrev pub Told : Type 0
Told = Result Answer Refusal

-- the counts afterwards, and what the row came to
pub record Entered : Type 0 where
  pub counts : Counts
  pub told : Told

abbrev pub entered : Counts → Told → Entered
entered c t = record { counts = c; told = t }

-- the counts of the step, or the counts as they came where the row is refused
unfoldable pub entered_of : Counts → Added → Entered
entered_of c (Ok s) = entered s.counts (Ok s.answer)
entered_of c (Err why) = entered c (Err why)

-- a row added: the lists afterwards are those of the step by value
unfoldable pub enter_row : Bool → Counts → List ℕ → List ℕ → Lists → Outcome Entered Lists
enter_row on c cols vals o = let added = add_row on c cols vals o in outcome (entered_of c added.answer) added.memory
