-- The calls that add one row, in either walk.
use Rattle.std.specs.Prelude.{ℕ, Bool, List, Err, Ok, Result}
use Rattle.sparse.specs.Lent.{Outcome, outcome, unless}
use Rattle.sparse.specs.Rows.{Entry, entries}
use Rattle.state.specs.declared.Counts.{Counts}
use Rattle.adding.specs.RowTests.{add_row_test}
use Rattle.stepping.specs.Take.{Lists, step_row, room_asked}
use Rattle.stepping.specs.declared.Stepped.{Stepped}
use Rattle.sparse.specs.declared.Refusal.{Refusal}

-- what a call that adds a row answers: the row's answer and the counts afterwards, or a refusal
abbrev pub Added : Type 0
Added = Result Stepped Refusal

-- a row that was taken
unfoldable pub answered_with : Outcome Stepped Lists → Outcome Added Lists
answered_with o = outcome (Ok o.answer) o.memory

-- step 2, then the others: refused for want of room, or taken
unfoldable pub take_row : Bool → Counts → List Entry → Lists → Outcome Added Lists
take_row on c es o = unless Err (room_asked c es o.memory) o (answered_with (step_row on c es o))

-- refused by its tests, or these
unfoldable pub add_row : Bool → Counts → List ℕ → List ℕ → Lists → Outcome Added Lists
add_row on c cols vals o = unless Err (add_row_test c cols vals o.dense o.memory) o (take_row on c (entries cols vals) o)
