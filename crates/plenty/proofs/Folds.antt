-- A fold of rows from a fresh start: lists keep their lengths, no more is filled than the rows taken can fill, and with plenty of room every row is taken.
-- Assumes nothing.
use Rattle.std.specs.Prelude.{Err, Ok}
use mathlib.Core.Path.{◌≡◌, refl, sym, ◌∙◌}
use mathlib.Core.Bool.{Bool, true, false, ◌&&◌, cond}
use mathlib.Core.List.{List, [], ◌∷◌, ◌++◌}
use Prim.Native.Nat.{ℕ, suc, ◌+◌, ◌<◌}
use native.Mathlib.Omega.{arith}
use lib.ListN.{length, get_or, set, length-set}
use Rattle.sparse.specs.Refusals.{Tested}
use Rattle.sparse.specs.Lent.{Outcome, outcome, unless}
use Rattle.sparse.specs.Rows.{Entry}
use Rattle.state.specs.Memory.{Memory}
use Rattle.state.specs.declared.Counts.{Counts}
use Rattle.walk.specs.Step.{is_none, Answer}
use Rattle.steps.specs.History.{Told, told}
use Rattle.steps.specs.Rows.{CleanRow}
use Rattle.stepping.specs.Take.{Lists, lists, room_asked, row_step, step_row}
use Rattle.telling.specs.Answers.{number}
use Rattle.telling.specs.Runs.{run, stop, ended}
use Rattle.telling.specs.declared.Reduced.{Reduced}
use Rattle.telling.specs.declared.Reduced.TheVariants.{Taken, Dependent, Stopped, Refused}
use Rattle.telling.specs.declared.Run.{Run}
use Rattle.running.specs.Rows.{Written, written, counted, next_row, then_row, take_rows}
use Rattle.running.proofs.Folds.{is_over, rows_over}
use Rattle.nights.proofs.Folds.{run_in}
use Rattle.nights.proofs.Rows.{Kept, kept_more}
use Rattle.plenty.specs.Plenty.{Plenty, Whole, all, none, SameLists}
use Rattle.plenty.proofs.Fills.{OneMore, step_more, one_row_more}
use Rattle.plenty.proofs.Lengths.{same_then, step_long}
use Rattle.plenty.proofs.Rooms.{Filled, room_enough, plenty_same}

-- so it stands after rows, from counts c, lists m and answer memory b
pub record Fed (c : Counts) (m : Memory) (b : List ℕ) (r : Run) (w : Written) : Type 0 where
  pub ts : List Told
  pub kept : Kept c b ts r w
  pub filled : Filled r.taken r.counts
  pub lists : SameLists w.memory m
  pub answers : length w.answers ≡ length b

-- a call ends at a None only where it checks
checks : (check is_none : Bool) → check && is_none ≡ true → check ≡ true
checks true x e = refl
checks false x e = e

-- a row more, where there is room
module _ (on : Bool) {c : Counts} {m : Memory} {b : List ℕ} {r : Run} {w : Written} (f : Fed c m b r w) (es : List Entry) (row : CleanRow c.modulus c.ncols es) (room : room_asked r.counts es w.memory ≡ Ok tt) where
  abbrev o : Lists
  o = lists w.memory []

  abbrev after : Counts
  after = (row_step on r.counts es w.memory).answer.counts

  clean : CleanRow r.counts.modulus r.counts.ncols es
  clean = rw (f.kept.modulus, f.kept.ncols) row

  more : OneMore r.counts.ncols r.counts after
  unfolding step_row
  more = step_more on r.counts es o f.kept.stands clean

  long : SameLists (row_step on r.counts es w.memory).memory w.memory
  unfolding step_row
  long = step_long on r.counts es o f.kept.stands clean room

  abbrev a : Answer
  a = (row_step on r.counts es w.memory).answer.answer

  abbrev next : Run
  next = run (r.taken + 1) after

  abbrev left : Written
  left = written (row_step on r.counts es w.memory).memory (set w.answers r.taken (number a))

  now_kept : Kept c b (f.ts ++ (told es a ∷ [])) next left
  now_kept = kept_more on f.kept es row room

  same_columns : after.ncols ≡ r.counts.ncols
  same_columns = now_kept.ncols ∙ sym f.kept.ncols

  now_filled : Filled (r.taken + 1) after
  now_filled = record {
    u_fill = rw same_columns (more.u_fill f.filled.u_fill);
    l_rows = omega (arith, more.l_rows, f.filled.l_rows);
    l_fill = rw same_columns (omega (arith, more.l_fill, f.filled.l_fill, one_row_more r.taken r.counts.ncols));
  }

  pub fed_more : Fed c m b next left
  fed_more = record {
    ts = f.ts ++ (told es a ∷ []);
    kept = now_kept;
    filled = now_filled;
    lists = same_then long f.lists;
    answers = length-set w.answers r.taken (number a) ∙ f.answers;
  }

module _ (on check : Bool) (d : Run) (c : Counts) (m : Memory) (b : List ℕ) where
  -- whatever ends the fold
  abbrev Goal : List (List Entry) → Type 0
  Goal rs = (x : Reduced) (w : Written) → Fed c m b (run_in d x) w → Fed c m b (run_in d (take_rows on check rs (outcome x w)).answer) (take_rows on check rs (outcome x w)).memory

  over_fed : (rs : List (List Entry)) (x : Reduced) (w : Written) → is_over x ≡ true → Fed c m b (run_in d x) w → Fed c m b (run_in d (take_rows on check rs (outcome x w)).answer) (take_rows on check rs (outcome x w)).memory
  over_fed rs x w e f = rw (rows_over on check rs (outcome x w) e) f

  run_ended : (a : Answer) (r : Run) → run_in d (ended check a r) ≡ r
  unfolding ended run_in
  run_ended a r = go (check && is_none a)
    where
      go : (e : Bool) → run_in d (cond e (Dependent r) (Taken r)) ≡ r
      go true = refl
      go false = refl

  next_fed : (es : List Entry) (rs : List (List Entry)) → CleanRow c.modulus c.ncols es → Goal rs → (r : Run) (w : Written) → Fed c m b r w
      → Fed c m b (run_in d (take_rows on check rs (next_row on check es r w)).answer) (take_rows on check rs (next_row on check es r w)).memory
  unfolding next_row unless counted run_in is_over
  next_fed es rs row rest r w f = go (room_asked r.counts es w.memory) refl
    where
      then : Outcome Reduced Written
      then = counted check r.taken (row_step on r.counts es w.memory) w.answers

      go : (t : Tested) → room_asked r.counts es w.memory ≡ t
          → Fed c m b (run_in d (take_rows on check rs (unless (λ why. Stopped (stop why r)) t w then)).answer) (take_rows on check rs (unless (λ why. Stopped (stop why r)) t w then)).memory
      go (Err why) e = over_fed rs (Stopped (stop why r)) w refl f
      go (Ok _) e = rest then.answer then.memory (rw (run_ended _ _) (fed_more on f es row e))

  pub rows_fed : (rs : List (List Entry)) → ((i : ℕ) → i < length rs → CleanRow c.modulus c.ncols (get_or rs i [])) → Goal rs
  unfolding take_rows then_row is_over run_in
  rows_fed [] clean x w f = f
  rows_fed (es ∷ rs) clean (Taken r) w f = next_fed es rs (clean 0 (omega arith)) (rows_fed rs (λ i h. clean (suc i) (omega arith))) r w f
  rows_fed (es ∷ rs) clean (Dependent r) w f = over_fed (es ∷ rs) (Dependent r) w refl f
  rows_fed (es ∷ rs) clean (Stopped s) w f = over_fed (es ∷ rs) (Stopped s) w refl f
  rows_fed (es ∷ rs) clean (Refused why) w f = over_fed (es ∷ rs) (Refused why) w refl f

  -- with plenty of room, of rows in all
  module _ (rows : ℕ) (plenty : Plenty c.mode rows c.ncols m) where
    fed_room : (r : Run) (w : Written) → Fed c m b r w → (es : List Entry) → r.taken < rows → room_asked r.counts es w.memory ≡ Ok tt
    fed_room r w f es low =
        room_enough r.taken rows r.counts es (lists w.memory []) f.kept.stands f.filled low
        (rw (f.kept.mode, f.kept.ncols) (plenty_same f.lists plenty))

    abbrev GoalWhole : List (List Entry) → Type 0
    GoalWhole rs = (r : Run) (w : Written) → Fed c m b r w → r.taken + length rs ≡ rows → Whole check rows (take_rows on check rs (outcome (Taken r) w)).answer

    next_whole : (es : List Entry) (rs : List (List Entry)) → CleanRow c.modulus c.ncols es → GoalWhole rs → (r : Run) (w : Written) → Fed c m b r w → r.taken + suc (length rs) ≡ rows
        → Whole check rows (take_rows on check rs (next_row on check es r w)).answer
    unfolding next_row unless counted ended is_over
    next_whole es rs row rest r w f many = rw room (go (check && is_none a) refl)
      where
        room : room_asked r.counts es w.memory ≡ Ok tt
        room = fed_room r w f es (omega arith)

        a : Answer
        a = (row_step on r.counts es w.memory).answer.answer

        next : Run
        next = run (r.taken + 1) (row_step on r.counts es w.memory).answer.counts

        left : Written
        left = written (row_step on r.counts es w.memory).memory (set w.answers r.taken (number a))

        go : (e : Bool) → check && is_none a ≡ e → Whole check rows (take_rows on check rs (outcome (cond e (Dependent next) (Taken next)) left)).answer
        go true e = rw (rows_over on check rs (outcome (Dependent next) left) refl) (none (checks check (is_none a) e) next)
        go false e = rest next left (fed_more on f es row room) (omega arith)

    pub rows_whole : (rs : List (List Entry)) → ((i : ℕ) → i < length rs → CleanRow c.modulus c.ncols (get_or rs i [])) → GoalWhole rs
    unfolding take_rows then_row
    rows_whole [] clean r w f many = all r (omega arith)
    rows_whole (es ∷ rs) clean r w f many = next_whole es rs (clean 0 (omega arith)) (rows_whole rs (λ i h. clean (suc i) (omega arith))) r w f many
