-- A fold of rows: those that it takes are the first, and their answers have their meaning.
-- Assumes nothing.
use Rattle.std.specs.Prelude.{Err, Ok}
use mathlib.Core.Path.{◌≡◌, refl, sym, ap, subst, ◌∙◌}
use mathlib.Core.Bool.{Bool, true, false, ◌&&◌, cond}
use mathlib.Core.List.{List, [], ◌∷◌, ◌++◌, map, map-append}
use Prim.Native.Nat.{ℕ, suc, ◌+◌, ◌≤◌, ◌<◌}
use native.Mathlib.Decide.{dec_lt}
use native.Mathlib.Omega.{arith}
use lib.ListN.{length, get_or, take, length-map}
use lib.Seq.{take_all, take-append_seam, append_snoc}
use Rattle.sparse.specs.Refusals.{Tested}
use Rattle.sparse.specs.Lent.{Outcome, outcome, unless}
use Rattle.sparse.specs.Rows.{Entry}
use Rattle.state.specs.declared.Counts.{Counts}
use Rattle.walk.specs.Step.{is_none, Answer}
use Rattle.steps.specs.History.{Told, told}
use Rattle.steps.specs.Rows.{CleanRow}
use Rattle.stepping.specs.Take.{room_asked, row_step}
use Rattle.running.specs.Rows.{Written, counted, next_row, then_row, take_rows}
use Rattle.telling.specs.Runs.{run, stop, ended}
use Rattle.telling.specs.declared.Reduced.{Reduced}
use Rattle.telling.specs.declared.Reduced.TheVariants.{Taken, Dependent, Stopped, Refused}
use Rattle.telling.specs.declared.Run.{Run}
use Rattle.running.proofs.Folds.{is_over, rows_over}
use Rattle.nights.proofs.Rows.{Kept, kept_more}

-- the rows that were taken; d where the call was refused
unfoldable pub run_in : Run → Reduced → Run
run_in d (Taken r) = r
run_in d (Dependent r) = r
run_in d (Stopped s) = s.run
run_in d (Refused why) = d

abbrev rows_of_told : List Told → List (List Entry)
rows_of_told ts = map (λ t. t.row) ts

-- the end of a fold over all these rows
pub record Ends (d : Run) (c : Counts) (b : List ℕ) (all : List (List Entry)) (o : Outcome Reduced Written) : Type 0 where
  pub ts : List Told
  pub kept : Kept c b ts (run_in d o.answer) o.memory
  pub first : rows_of_told ts ≡ take (length ts) all

-- no more than there are
pub ends_few : {d : Run} {c : Counts} {b : List ℕ} {all : List (List Entry)} {o : Outcome Reduced Written} (e : Ends d c b all o) → length e.ts ≤ length all
ends_few {all = all} e = go (dec_lt (length all) (length e.ts))
  where
    same : length e.ts ≡ length (take (length e.ts) all)
    same = sym (length-map e.ts (λ t. t.row)) ∙ ap length e.first

    go : Dec (length all < length e.ts) → length e.ts ≤ length all
    go (yes h) = let whole : take (length e.ts) all ≡ all = take_all (length e.ts) all (omega arith) in omega (arith, same, ap length whole)
    go (no h) = omega arith

-- the rows told are the first of those rows and others
pub front : (ts : List Told) (rs : List (List Entry)) → rows_of_told ts ≡ take (length ts) (rows_of_told ts ++ rs)
front ts rs = sym (ap (λ (k : ℕ). take k (rows_of_told ts ++ rs)) (sym (length-map ts _)) ∙ take-append_seam (rows_of_told ts) rs)

-- where a row ends a call, it was counted
pub run_ended : (check : Bool) (d : Run) (a : Answer) (r : Run) → run_in d (ended check a r) ≡ r
unfolding ended run_in
run_ended check d a r = go (check && is_none a)
  where
    go : (e : Bool) → run_in d (cond e (Dependent r) (Taken r)) ≡ r
    go true = refl
    go false = refl

module _ (on check : Bool) (d : Run) (c : Counts) (b : List ℕ) where
  -- what is to be shown of the rows rs
  abbrev Goal : List (List Entry) → Type 0
  Goal rs = (x : Reduced) (w : Written) (ts : List Told) → Kept c b ts (run_in d x) w → Ends d c b (rows_of_told ts ++ rs) (take_rows on check rs (outcome x w))

  over_end : (rs later : List (List Entry)) (x : Reduced) (w : Written) (ts : List Told) → is_over x ≡ true → Kept c b ts (run_in d x) w → Ends d c b (rows_of_told ts ++ later) (take_rows on check rs (outcome x w))
  over_end rs later x w ts e k = rw (rows_over on check rs (outcome x w) e) (record { ts = ts; kept = k; first = front ts later })

  next_end : (es : List Entry) (rs : List (List Entry)) → CleanRow c.modulus c.ncols es → Goal rs → (r : Run) (w : Written) (ts : List Told) → Kept c b ts r w → Ends d c b (rows_of_told ts ++ (es ∷ rs)) (take_rows on check rs (next_row on check es r w))
  unfolding next_row unless counted run_in is_over
  next_end es rs row rest r w ts k = go (room_asked r.counts es w.memory) refl
    where
      after : Outcome Reduced Written
      after = counted check r.taken (row_step on r.counts es w.memory) w.answers

      more : List Told
      more = ts ++ (told es (row_step on r.counts es w.memory).answer.answer ∷ [])

      go : (f : Tested) → room_asked r.counts es w.memory ≡ f → Ends d c b (rows_of_told ts ++ (es ∷ rs)) (take_rows on check rs (unless (λ why. Stopped (stop why r)) f w after))
      go (Err why) e = over_end rs (es ∷ rs) (Stopped (stop why r)) w ts refl k
      go (Ok _) e =
          subst (λ (all : List (List Entry)). Ends d c b all (take_rows on check rs after)) (ap (λ (xs : List (List Entry)). xs ++ rs) (map-append _ ts _) ∙ append_snoc (rows_of_told ts) es rs)
          (rest after.answer after.memory more
          (subst (λ (y : Run). Kept c b more y after.memory) (sym (run_ended check d (row_step on r.counts es w.memory).answer.answer (run (r.taken + 1) (row_step on r.counts es w.memory).answer.counts))) (kept_more on k es row e)))

  pub rows_end : (rs : List (List Entry)) → ((i : ℕ) → i < length rs → CleanRow c.modulus c.ncols (get_or rs i [])) → Goal rs
  unfolding take_rows then_row is_over run_in
  rows_end [] clean x w ts k = record { ts = ts; kept = k; first = front ts [] }
  rows_end (es ∷ rs) clean (Taken r) w ts k = next_end es rs (clean 0 (omega arith)) (rows_end rs (λ i h. clean (suc i) (omega arith))) r w ts k
  rows_end (es ∷ rs) clean (Dependent r) w ts k = over_end (es ∷ rs) (es ∷ rs) (Dependent r) w ts refl k
  rows_end (es ∷ rs) clean (Stopped s) w ts k = over_end (es ∷ rs) (es ∷ rs) (Stopped s) w ts refl k
  rows_end (es ∷ rs) clean (Refused why) w ts k = over_end (es ∷ rs) (es ∷ rs) (Refused why) w ts refl k
