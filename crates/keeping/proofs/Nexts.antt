-- A step over memory is a step of U: answered None exactly for a combination, and a run of steps is a history.
-- Assumes nothing.
use Rattle.std.specs.Prelude.{None, Ok, Some}
use mathlib.Core.Path.{◌≡◌, refl, sym, ap, subst, ◌∙◌}
use mathlib.Core.Logic.{◌↔◌}
use mathlib.Core.Bool.{Bool, false}
use mathlib.Core.List.{List}
use Prim.Native.Nat.{ℕ}
use Rattle.linear.specs.Combination.{Combination}
use Rattle.sparse.specs.Rows.{Entry, entries}
use Rattle.state.specs.Room.{room_test}
use Rattle.state.specs.declared.Counts.{Counts}
use Rattle.walk.specs.Step.{Taken, Answer}
use Rattle.steps.specs.History.{at_once, answered, Next, stays, grows}
use Rattle.steps.specs.Rows.{value_of, CleanRow}
use Rattle.steps.specs.Setting.{Grown}
use Rattle.steps.proofs.Answers.{answered_none}
use Rattle.stepping.specs.Asks.{Stands, Offered}
use Rattle.stepping.specs.Take.{Lists, room_asked, step_of, stored, step_row}
use Rattle.stepping.proofs.Walks.{heads, stands_inverts, stands_echelon}
use Rattle.keeping.proofs.Accepts.{stored_grown}
use Rattle.keeping.proofs.Keeps.{took_added}
use Rattle.keeping.proofs.Settings.{rows_in}
use Rattle.keeping.proofs.Ways.{room_there, step_ways}

module _ (on : Bool) (c : Counts) (es : List Entry) (o : Lists) where
  abbrev t : Taken
  t = step_of on c es o.memory

  -- its answer is that of steps 1, 3 and 4 on U's rows in memory
  pub step_answer : (step_row on c es o).answer.answer ≡ (answered on c.modulus c.ncols c.rank (rows_in o.memory) es).answer
  unfolding answered step_of
  step_answer = step_ways on c es o (λ r. r.answer.answer ≡ (answered on c.modulus c.ncols c.rank (rows_in o.memory) es).answer) (λ e. rw e) (λ e. rw e)

  module _ (s : Stands c o) (row : CleanRow c.modulus c.ncols es) where
    exactly : ((step_row on c es o).answer.answer ≡ None) ↔ Combination c.modulus c.ncols c.rank (rows_in o.memory).value (value_of es)
    exactly =
        let exact = answered_none on c.modulus c.ncols c.rank (rows_in o.memory) (heads c o s) (stands_inverts c o s) (stands_echelon c o s) es row in
        ((λ e. exact.0 (sym step_answer ∙ e)), (λ k. step_answer ∙ exact.1 k))

    -- U after steps 3 and 4, by the answer
    next_took : room_test c o.memory ≡ Ok tt → at_once c.ncols c.rank es ≡ false → (a : Answer) → t.answer ≡ a
        → Next on c.modulus c.ncols c.rank (rows_in o.memory) es a (rows_in (stored c a t o.memory))
    unfolding answered
    next_took room walks None e = unfold stored in stays (rw walks (unfold step_of in e))
    next_took room walks (Some g) e =
        grows g (rows_in (stored c (Some g) t o.memory))
        (ap (λ (x : Taken). x.answer) same ∙ e)
        (subst (λ (x : Taken). Grown c.ncols c.rank g (rows_in o.memory) x.u (rows_in (stored c (Some g) t o.memory))) (sym same) (stored_grown s room (took_added on c es o s row e)))
      where
        same : answered on c.modulus c.ncols c.rank (rows_in o.memory) es ≡ t
        same = rw walks (unfold step_of in refl)

    next : room_asked c es o.memory ≡ Ok tt → Next on c.modulus c.ncols c.rank (rows_in o.memory) es (step_row on c es o).answer.answer (rows_in (step_row on c es o).memory.memory)
    unfolding answered
    next room =
        step_ways on c es o (λ r. Next on c.modulus c.ncols c.rank (rows_in o.memory) es r.answer.answer (rows_in r.memory.memory))
        (λ e. stays (rw e)) (λ e. next_took (room_there c es o.memory room e) e t.answer refl)

-- U after the step, by its answer
pub step_next : (on : Bool) (c : Counts) (cols vals : List ℕ) (o : Lists) → Stands c o → Offered c cols vals → room_asked c (entries cols vals) o.memory ≡ Ok tt
    → Next on c.modulus c.ncols c.rank (rows_in o.memory) (entries cols vals) (step_row on c (entries cols vals) o).answer.answer (rows_in (step_row on c (entries cols vals) o).memory.memory)
step_next on c cols vals o s row room = next on c (entries cols vals) o s row.clean room

-- None exactly if the row is a combination of U's rows in memory, room or not
pub none_exactly_here : (on : Bool) (c : Counts) (cols vals : List ℕ) (o : Lists) → Stands c o → Offered c cols vals
    → ((step_row on c (entries cols vals) o).answer.answer ≡ None) ↔ Combination c.modulus c.ncols c.rank (rows_in o.memory).value (value_of (entries cols vals))
none_exactly_here on c cols vals o s row = exactly on c (entries cols vals) o s row.clean
