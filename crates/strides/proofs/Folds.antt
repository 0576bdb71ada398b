-- A fold of rows is a run of single steps over the first of them; a check for dependence that goes on has accepted them all.
-- Assumes nothing.
use Rattle.std.specs.Prelude.{Err, None, Ok, Some}
use mathlib.Core.Path.{◌≡◌, refl, sym, ap, subst, ◌∙◌}
use mathlib.Core.Bool.{Bool, true, false, not, cond}
use mathlib.Core.List.{List, [], ◌∷◌, ◌++◌, map-append}
use Prim.Native.Nat.{ℕ, suc, ◌+◌, ◌≤◌, ◌<◌}
use native.Mathlib.Omega.{arith}
use lib.ListN.{length, get_or, set, length-append, length-map}
use lib.Seq.{append_snoc}
use Rattle.sparse.specs.Refusals.{Tested}
use Rattle.lists.specs.Find.{keep}
use Rattle.lists.specs.Onto.{◌onto◌}
use Rattle.lists.proofs.Ontos.{onto_nil, onto_more}
use Rattle.sparse.specs.Lent.{Outcome, outcome, unless}
use Rattle.sparse.specs.Rows.{Entry}
use Rattle.state.specs.Memory.{Memory}
use Rattle.state.specs.declared.Counts.{Counts}
use Rattle.walk.specs.Step.{is_none, Answer}
use Rattle.steps.specs.History.{Told, told, accepted}
use Rattle.steps.specs.Rows.{CleanRow}
use Rattle.steps.proofs.Histories.{accepted_same, accepted_more}
use Rattle.stepping.specs.Take.{room_asked, row_step}
use Rattle.telling.specs.Answers.{number}
use Rattle.telling.specs.Runs.{run, stop, ended}
use Rattle.telling.specs.declared.Reduced.{Reduced}
use Rattle.telling.specs.declared.Reduced.TheVariants.{Taken, Dependent, Stopped, Refused}
use Rattle.telling.specs.declared.Run.{Run}
use Rattle.running.specs.Rows.{Written, written, counted, next_row, then_row, take_rows}
use Rattle.running.proofs.Folds.{is_over, rows_over}
use Rattle.nights.proofs.Folds.{run_in, front, run_ended}
use Rattle.strides.specs.Strides.{Strides, still, stride, rows_of_told, numbers_of, Appended}

-- no more are accepted than are taken
accepted_few : (ts : List Told) → length (accepted ts) ≤ length ts
unfolding accepted keep
accepted_few [] = omega arith
accepted_few (t ∷ ts) = go (not (is_none t.answer)) (accepted_few ts)
  where
    rest : List Told
    rest = keep (λ r. not (is_none r.answer)) ts

    go : (e : Bool) → length (rows_of_told rest) ≤ length ts → length (rows_of_told (cond e (t ∷ rest) rest)) ≤ suc (length ts)
    go true l = omega arith
    go false l = omega arith

accepted_goes : (check : Bool) (g : ℕ) (s : Run) → ended check (Some g) s ≡ Taken s
unfolding ended is_none
accepted_goes true g s = refl
accepted_goes false g s = refl

-- going on and ending at a None are two things
pub apart : {r q : Run} → Taken r ≡ Dependent q → ⊥
apart e = let z : ◌≡◌ {A = ℕ} 0 1 = cc in omega arith

module _ (on check : Bool) (d : Run) (p n : ℕ) (c : Counts) (m : Memory) (b : List ℕ) where
  -- so it stands within the call, after the rows ts of it
  record Held (ts : List Told) (x : Reduced) (w : Written) : Type 0 where
    strides : Strides p n c m ts (run_in d x).counts w.memory
    many : length ts ≡ (run_in d x).taken
    numbers : length ts ≤ length b → w.answers ≡ numbers_of ts onto b
    all : check ≡ true → ((r : Run) → x ≡ Dependent r → ⊥) → length (accepted ts) ≡ length ts
    some : (r : Run) → x ≡ Dependent r → length (accepted ts) < length ts

  -- the end of a fold over all these rows
  pub record Ends (all : List (List Entry)) (o : Outcome Reduced Written) : Type 0 where
    pub appended : Appended p n c m all b (run_in d o.answer) o.memory
    pub accepts : check ≡ true → ((r : Run) → o.answer ≡ Dependent r → ⊥) → length (accepted appended.new) ≡ length appended.new
    pub meets : (r : Run) → o.answer ≡ Dependent r → length (accepted appended.new) < length appended.new

  abbrev Goal : List (List Entry) → Type 0
  Goal rs = (x : Reduced) (w : Written) (ts : List Told) → Held ts x w → Ends (rows_of_told ts ++ rs) (take_rows on check rs (outcome x w))

  held_ends : (ts : List Told) (rs : List (List Entry)) (x : Reduced) (w : Written) → Held ts x w → Ends (rows_of_told ts ++ rs) (outcome x w)
  held_ends ts rs x w h = record { appended = record { new = ts; strides = h.strides; many = h.many; first = front ts rs; numbers = h.numbers }; accepts = h.all; meets = h.some }

  over_end : (rs later : List (List Entry)) (x : Reduced) (w : Written) (ts : List Told) → is_over x ≡ true → Held ts x w → Ends (rows_of_told ts ++ later) (take_rows on check rs (outcome x w))
  over_end rs later x w ts e h = rw (rows_over on check rs (outcome x w) e) (held_ends ts later x w h)

  -- one row more
  module _ (es : List Entry) (row : CleanRow p n es) (r : Run) (w : Written) (ts : List Told) (h : Held ts (Taken r) w) (room : room_asked r.counts es w.memory ≡ Ok tt) where
    abbrev a : Answer
    a = (row_step on r.counts es w.memory).answer.answer

    abbrev t : Told
    t = told es a

    abbrev after : Outcome Reduced Written
    after = counted check r.taken (row_step on r.counts es w.memory) w.answers

    next_strides : Strides p n c m (ts ++ (t ∷ [])) (row_step on r.counts es w.memory).answer.counts (row_step on r.counts es w.memory).memory
    unfolding run_in
    next_strides = stride ts r.counts w.memory h.strides on es row room

    next_numbers : length (ts ++ (t ∷ [])) ≤ length b → set w.answers r.taken (number a) ≡ numbers_of (ts ++ (t ∷ [])) onto b
    unfolding run_in
    next_numbers few =
        let low : length ts < length b = omega (arith, length-append ts (t ∷ [])) in
        ap (λ (xs : List ℕ). set xs r.taken (number a)) (h.numbers (omega arith))
        ∙ onto_more (numbers_of ts) b r.taken (number a) (length-map ts _ ∙ h.many) (omega (arith, h.many))
        ∙ ap (λ (xs : List ℕ). xs onto b) (sym (map-append _ ts (t ∷ [])))

    next_all : (v : Answer) → check ≡ true → (s : Run) → ((q : Run) → ended check v s ≡ Dependent q → ⊥) → length (accepted ts) ≡ length ts → length (accepted (ts ++ (told es v ∷ []))) ≡ length (ts ++ (told es v ∷ []))
    unfolding ended is_none
    next_all None e s goes l = absurd (goes s (rw e))
    next_all (Some g) e s goes l = ap length (accepted_more ts es g) ∙ length-append (accepted ts) (es ∷ []) ∙ ap (λ (k : ℕ). k + 1) l ∙ sym (length-append ts (told es (Some g) ∷ []))

    next_some : (v : Answer) (s q : Run) → ended check v s ≡ Dependent q → length (accepted (ts ++ (told es v ∷ []))) < length (ts ++ (told es v ∷ []))
    next_some None s q e = omega (arith, ap length (accepted_same ts es), accepted_few ts, length-append ts (told es None ∷ []))
    next_some (Some g) s q e = absurd (apart (sym (accepted_goes check g s) ∙ e))

    next_held : Held (ts ++ (t ∷ [])) after.answer after.memory
    unfolding counted run_in
    next_held =
        let s : Run = run (r.taken + 1) (row_step on r.counts es w.memory).answer.counts in
        record {
          strides = rw (run_ended check d a s) next_strides;
          many = rw (run_ended check d a s) (length-append ts (t ∷ []) ∙ ap (λ (k : ℕ). k + 1) h.many);
          numbers = next_numbers;
          all = λ e goes. next_all a e s goes (h.all e (λ q. apart));
          some = λ q e. next_some a s q e;
        }

  next_end : (es : List Entry) (rs : List (List Entry)) → CleanRow p n es → Goal rs → (r : Run) (w : Written) (ts : List Told) → Held ts (Taken r) w → Ends (rows_of_told ts ++ (es ∷ rs)) (take_rows on check rs (next_row on check es r w))
  unfolding next_row unless run_in is_over
  next_end es rs row rest r w ts h = go (room_asked r.counts es w.memory) refl
    where
      after : Outcome Reduced Written
      after = counted check r.taken (row_step on r.counts es w.memory) w.answers

      more_rows : List Told
      more_rows = ts ++ (told es (row_step on r.counts es w.memory).answer.answer ∷ [])

      go : (f : Tested) → room_asked r.counts es w.memory ≡ f → Ends (rows_of_told ts ++ (es ∷ rs)) (take_rows on check rs (unless (λ why. Stopped (stop why r)) f w after))
      go (Err why) e = over_end rs (es ∷ rs) (Stopped (stop why r)) w ts refl (record { strides = h.strides; many = h.many; numbers = h.numbers; all = λ e goes. h.all e (λ q. apart); some = λ q z. let y : ◌≡◌ {A = ℕ} 0 1 = cc in absurd (omega arith) })
      go (Ok _) e =
          subst (λ (all : List (List Entry)). Ends all (take_rows on check rs after)) (ap (λ (xs : List (List Entry)). xs ++ rs) (map-append _ ts _) ∙ append_snoc (rows_of_told ts) es rs)
          (rest after.answer after.memory more_rows (next_held es row r w ts h e))

  rows_end : (rs : List (List Entry)) → ((i : ℕ) → i < length rs → CleanRow p n (get_or rs i [])) → Goal rs
  unfolding take_rows then_row is_over
  rows_end [] clean x w ts h = held_ends ts [] x w h
  rows_end (es ∷ rs) clean (Taken r) w ts h = next_end es rs (clean 0 (omega arith)) (rows_end rs (λ i l. clean (suc i) (omega arith))) r w ts h
  rows_end (es ∷ rs) clean (Dependent r) w ts h = over_end (es ∷ rs) (es ∷ rs) (Dependent r) w ts refl h
  rows_end (es ∷ rs) clean (Stopped s) w ts h = over_end (es ∷ rs) (es ∷ rs) (Stopped s) w ts refl h
  rows_end (es ∷ rs) clean (Refused why) w ts h = over_end (es ∷ rs) (es ∷ rs) (Refused why) w ts refl h

-- all rows of a call, from these counts and lists
pub rows_strides : (on check : Bool) (d : Run) {p n : ℕ} (c : Counts) (m : Memory) (rs : List (List Entry)) → ((i : ℕ) → i < length rs → CleanRow p n (get_or rs i [])) → (answers : List ℕ)
    → Ends on check d p n c m answers rs (take_rows on check rs (outcome (Taken (run 0 c)) (written m answers)))
unfolding accepted keep run_in
rows_strides on check d {p} {n} c m rs clean answers =
    rows_end on check d p n c m answers rs clean (Taken (run 0 c)) (written m answers) []
    (record { strides = still; many = refl; numbers = λ h. sym (onto_nil answers); all = λ e goes. refl; some = λ r q. absurd (apart q) })
