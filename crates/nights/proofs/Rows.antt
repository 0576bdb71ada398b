-- Rows taken one after another: after each, U has the history of the rows taken, and their answers have their meaning.
-- Assumes nothing.
use Rattle.std.specs.Prelude.{None, Ok}
use mathlib.Core.Path.{◌≡◌, sym, ap, subst, ◌∙◌}
use mathlib.Core.Logic.{◌↔◌}
use mathlib.Core.Bool.{Bool}
use mathlib.Core.List.{List, [], ◌∷◌, ◌++◌, map, map-append}
use Prim.Native.Nat.{ℕ, ◌+◌, ◌≤◌, ◌<◌}
use native.Mathlib.Omega.{arith}
use lib.ListN.{length, set, length-append, length-map}
use Rattle.walk.specs.Step.{Answer}
use Rattle.lists.specs.Onto.{◌onto◌}
use Rattle.lists.proofs.Ontos.{onto_more}
use Rattle.linear.specs.Combination.{Combination}
use Rattle.sparse.specs.Put.{cols_of, values_of}
use Rattle.sparse.specs.Rows.{Entry, entries}
use Rattle.meaning.proofs.RowLists.{entries_of_lem}
use Rattle.state.specs.declared.Counts.{Counts}
use Rattle.steps.specs.History.{Told, told, answered, accepted, values_in}
use Rattle.steps.specs.Rows.{value_of, CleanRow}
use Rattle.steps.proofs.Histories.{history_none}
use Rattle.stepping.specs.Asks.{Stands, Offered}
use Rattle.stepping.specs.Take.{Lists, lists, room_asked, row_step, step_row}
use Rattle.stepping.proofs.Walks.{stands_inverts}
use Rattle.keeping.proofs.Keeps.{step_stands}
use Rattle.keeping.proofs.Nexts.{step_answer}
use Rattle.keeping.proofs.Settings.{rows_in}
use Rattle.keeping.proofs.Pasts.{Counted, step_counted, Past, step_past}
use Rattle.telling.specs.Answers.{number}
use Rattle.running.specs.Rows.{Written, written}
use Rattle.telling.specs.Runs.{run}
use Rattle.telling.specs.declared.Run.{Run}
use Rattle.nights.specs.Meant.{Meant, more}

-- so it stands after the rows ts, from counts c and answer memory b, where that has a place for each
pub record Kept (c : Counts) (b : List ℕ) (ts : List Told) (r : Run) (w : Written) : Type 0 where
  pub stands : Stands r.counts (lists w.memory [])
  pub past : Past ts r.counts (lists w.memory [])
  pub meant : Meant c.modulus c.ncols ts
  pub mode : r.counts.mode ≡ c.mode
  pub modulus : r.counts.modulus ≡ c.modulus
  pub ncols : r.counts.ncols ≡ c.ncols
  pub taken : length ts ≡ r.taken
  pub numbers : length ts ≤ length b → w.answers ≡ map (λ t. number t.answer) ts onto b

-- a clean row is offered by its columns and values
row_offered : (c : Counts) (es : List Entry) → CleanRow c.modulus c.ncols es → Offered c (cols_of es) (values_of es)
unfolding cols_of values_of
row_offered c es row = record { same = length-map es _ ∙ sym (length-map es _); clean = rw (entries_of_lem es) row }

same_row : (es : List Entry) → entries (cols_of es) (values_of es) ≡ es
unfolding cols_of values_of
same_row es = entries_of_lem es

module _ (on : Bool) {c : Counts} {b : List ℕ} {ts : List Told} {r : Run} {w : Written} (k : Kept c b ts r w) (es : List Entry) (row : CleanRow c.modulus c.ncols es) (room : room_asked r.counts es w.memory ≡ Ok tt) where
  abbrev o : Lists
  o = lists w.memory []

  abbrev a : Answer
  a = (row_step on r.counts es w.memory).answer.answer

  clean : CleanRow r.counts.modulus r.counts.ncols es
  clean = rw (k.modulus, k.ncols) row

  offer : Offered r.counts (cols_of es) (values_of es)
  offer = row_offered r.counts es clean

  counted : Counted r.counts (row_step on r.counts es w.memory).answer
  unfolding step_row
  counted = step_counted on r.counts es o

  stands : Stands (row_step on r.counts es w.memory).answer.counts (lists (row_step on r.counts es w.memory).memory [])
  unfolding step_row
  stands =
      let s = step_stands on r.counts (cols_of es) (values_of es) o k.stands offer (rw (same_row es) room) in
      subst (λ (xs : List Entry). Stands (row_step on r.counts xs w.memory).answer.counts (lists (row_step on r.counts xs w.memory).memory [])) (same_row es) (record { opened = s.opened; state = s.state })

  past : Past (ts ++ (told es a ∷ [])) (row_step on r.counts es w.memory).answer.counts (lists (row_step on r.counts es w.memory).memory [])
  unfolding step_row
  past =
      let s = step_past on r.counts (cols_of es) (values_of es) o k.stands offer (rw (same_row es) room) ts k.past in
      subst (λ (xs : List Entry). Past (ts ++ (told xs (row_step on r.counts xs w.memory).answer.answer ∷ [])) (row_step on r.counts xs w.memory).answer.counts (lists (row_step on r.counts xs w.memory).memory [])) (same_row es) (record { history = s.history; rank = s.rank })

  exactly : (a ≡ None) ↔ Combination c.modulus c.ncols (length (accepted ts)) (values_in (accepted ts)) (value_of es)
  unfolding step_row
  exactly =
      let exact = history_none r.counts.modulus r.counts.ncols (stands_inverts r.counts o k.stands) k.past.history on es clean in
      let same = step_answer on r.counts es o in
      let told_same : (answered on r.counts.modulus r.counts.ncols (length (accepted ts)) (rows_in w.memory) es).answer ≡ a = rw k.past.rank (sym same) in
      rw (← k.modulus, ← k.ncols) ((λ e. exact.0 (told_same ∙ e)), (λ q. sym told_same ∙ exact.1 q))

  pub kept_more : Kept c b (ts ++ (told es a ∷ [])) (run (r.taken + 1) (row_step on r.counts es w.memory).answer.counts) (written (row_step on r.counts es w.memory).memory (set w.answers r.taken (number a)))
  kept_more = record {
    stands = stands;
    past = past;
    meant = more ts k.meant es a exactly;
    mode = counted.mode ∙ k.mode;
    modulus = counted.modulus ∙ k.modulus;
    ncols = counted.ncols ∙ k.ncols;
    taken = length-append ts (told es a ∷ []) ∙ ap (λ (n : ℕ). n + 1) k.taken;
    numbers = λ h.
        let low : length ts < length b = omega (arith, length-append ts (told es a ∷ [])) in
        ap (λ (xs : List ℕ). set xs r.taken (number a)) (k.numbers (omega arith))
        ∙ onto_more (map (λ t. number t.answer) ts) b r.taken (number a) (length-map ts _ ∙ k.taken) (omega (arith, k.taken))
        ∙ ap (λ (xs : List ℕ). xs onto b) (sym (map-append _ ts (told es a ∷ [])));
  }
