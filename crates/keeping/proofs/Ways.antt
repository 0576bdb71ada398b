-- The two ways of a row's step: None at once, or what the row comes to, stored.
-- Assumes nothing.
use Rattle.std.specs.Prelude.{None, Ok}
use mathlib.Core.Path.{◌≡◌, sym, subst}
use mathlib.Core.Logic.{⊎_elim}
use mathlib.Core.Bool.{Bool, true, false}
use mathlib.Core.List.{List}
use Rattle.lists.proofs.Find.{told}
use Rattle.sparse.specs.Lent.{Outcome, outcome}
use Rattle.sparse.specs.Rows.{Entry}
use Rattle.state.specs.Memory.{Memory}
use Rattle.state.specs.Room.{room_test}
use Rattle.state.specs.declared.Counts.{Counts}
use Rattle.walk.specs.Step.{Taken}
use Rattle.steps.specs.History.{at_once}
use Rattle.stepping.specs.Take.{Lists, lists, stepped, cleared, room_asked, step_of, counts_after, stored, took, row_step, step_row}
use Rattle.stepping.specs.declared.Stepped.{Stepped}

-- None at once
abbrev pub at_once_done : Counts → Lists → Outcome Stepped Lists
at_once_done c o = outcome (stepped None c) (lists o.memory (cleared c.ncols o.dense))

-- what a row comes to, stored
abbrev pub walk_done : Counts → Taken → Lists → Outcome Stepped Lists
walk_done c t o = outcome (stepped t.answer (counts_after c t.answer t)) (lists (stored c t.answer t o.memory) (cleared c.ncols o.dense))

module _ (on : Bool) (c : Counts) (es : List Entry) (o : Lists) where
  pub at_once_step : at_once c.ncols c.rank es ≡ true → step_row on c es o ≡ at_once_done c o
  unfolding step_row row_step
  at_once_step e = rw e

  pub walk_step : at_once c.ncols c.rank es ≡ false → step_row on c es o ≡ walk_done c (step_of on c es o.memory) o
  unfolding step_row row_step took
  walk_step e = rw e

  -- what holds of both holds of the step
  pub step_ways : (P : Outcome Stepped Lists → Type 0) → (at_once c.ncols c.rank es ≡ true → P (at_once_done c o)) → (at_once c.ncols c.rank es ≡ false → P (walk_done c (step_of on c es o.memory) o)) → P (step_row on c es o)
  step_ways P once walks = ⊎_elim (λ e. subst P (sym (at_once_step e)) (once e)) (λ e. subst P (sym (walk_step e)) (walks e)) (told (at_once c.ncols c.rank es))

-- room is asked for where the row is walked
pub room_there : (c : Counts) (es : List Entry) (m : Memory) → room_asked c es m ≡ Ok tt → at_once c.ncols c.rank es ≡ false → room_test c m ≡ Ok tt
unfolding room_asked
room_there c es m room e = rw e at room
