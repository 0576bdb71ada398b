-- The fold of rows, as a loop sees it: what is left of it, while the call goes on.
-- Assumes nothing.
use Rattle.std.specs.Prelude.{Err, Ok}
use mathlib.Core.Path.{◌≡◌, refl, sym, ap, subst, ◌∙◌}
use mathlib.Core.Bool.{Bool, true, false, ◌&&◌, cond}
use mathlib.Core.List.{List, [], ◌∷◌}
use Prim.Native.Nat.{ℕ, suc, ◌+◌, ◌≤◌, ◌<◌}
use native.Mathlib.Omega.{arith}
use native.Mathlib.Numerals.{add-one}
use lib.ListN.{length, drop}
use lib.Seq.{drop-cons, drop-length}
use Rattle.sparse.specs.Refusals.{Tested}
use Rattle.lists.proofs.Tables.{length-table}
use Rattle.sparse.specs.Lent.{Outcome, outcome, unless}
use Rattle.sparse.specs.Matrix.{Matrix, row}
use Rattle.sparse.specs.Rows.{Entry, entries, rows_of, row_at}
use Rattle.state.specs.Memory.{Memory}
use Rattle.state.specs.declared.Counts.{Counts}
use Rattle.walk.specs.Step.{is_none, Answer}
use Rattle.stepping.specs.Asks.{Stands}
use Rattle.stepping.specs.Take.{lists, room_asked, row_step, step_row}
use Rattle.keeping.proofs.Keeps.{step_stands}
use Rattle.keeping.proofs.Pasts.{Counted, step_counted}
use Rattle.running.specs.Asks.{Goes, GoesOn}
use Rattle.running.specs.Rows.{Night, night, Written, written, counted, next_row, then_row, take_rows}
use Rattle.telling.specs.Runs.{run, stop, ended}
use Rattle.telling.specs.declared.Reduced.{Reduced}
use Rattle.telling.specs.declared.Reduced.TheVariants.{Taken, Dependent, Stopped, Refused}
use Rattle.telling.specs.declared.Run.{Run}
use Rattle.stepping.proofs.MatrixRows.{row_here}
use Rattle.running.proofs.Nexts.{next_offered}

-- the call has ended
unfoldable pub is_over : Reduced → Bool
is_over (Taken r) = false
is_over (Dependent r) = true
is_over (Stopped s) = true
is_over (Refused why) = true

-- so says a `match` that finds another variant than Taken
pub over_told : (x : Reduced) → ((r : Run) → x ≡ Taken r → ⊥) → is_over x ≡ true
unfolding is_over
over_told (Taken r) e = absurd (e r refl)
over_told (Dependent r) e = refl
over_told (Stopped s) e = refl
over_told (Refused why) e = refl

-- then no row is taken any more
then_over : (on check : Bool) (es : List Entry) (x : Reduced) (w : Written) → is_over x ≡ true → then_row on check es x w ≡ outcome x w
unfolding is_over then_row
then_over on check es (Taken r) w e = let z : ◌≡◌ {A = ℕ} 0 1 = cc in absurd (omega arith)
then_over on check es (Dependent r) w e = refl
then_over on check es (Stopped s) w e = refl
then_over on check es (Refused why) w e = refl

pub rows_over : (on check : Bool) (rs : List (List Entry)) (o : Outcome Reduced Written) → is_over o.answer ≡ true → take_rows on check rs o ≡ o
unfolding take_rows
rows_over on check [] o e = refl
rows_over on check (es ∷ rs) o e = ap (take_rows on check rs) (then_over on check es o.answer o.memory e) ∙ rows_over on check rs o e

-- the counts and lists after a row, where the call goes on
pub record More (on : Bool) (es : List Entry) (r : Run) (w : Written) (more : Run) (v : Written) : Type 0 where
  pub room : room_asked r.counts es w.memory ≡ Ok tt
  pub taken : more.taken ≡ r.taken + 1
  pub counts : more.counts ≡ (row_step on r.counts es w.memory).answer.counts
  pub memory : v.memory ≡ (row_step on r.counts es w.memory).memory

unfoldable run_of : Run → Reduced → Run
run_of d (Taken r) = r
run_of d (Dependent r) = d
run_of d (Stopped s) = d
run_of d (Refused why) = d

went_on : (check : Bool) (a : Answer) (r more : Run) → ended check a r ≡ Taken more → r ≡ more
unfolding ended is_over run_of
went_on check a r more e = go (check && is_none a) e
  where
    go : (b : Bool) → cond b (Dependent r) (Taken r) ≡ Taken more → r ≡ more
    go true q = let z : true ≡ false = ap is_over q in let y : ◌≡◌ {A = ℕ} 0 1 = cc in absurd (omega arith)
    go false q = ap (run_of r) q

pub next_more : (on check : Bool) (es : List Entry) (r : Run) (w : Written) (more : Run) (v : Written) → outcome (Taken more) v ≡ next_row on check es r w → More on es r w more v
unfolding next_row unless counted is_over
next_more on check es r w more v e = go (room_asked r.counts es w.memory) refl e
  where
    go : (f : Tested) → room_asked r.counts es w.memory ≡ f → outcome (Taken more) v ≡ unless (λ why. Stopped (stop why r)) f w (counted check r.taken (row_step on r.counts es w.memory) w.answers) → More on es r w more v
    go (Err why) f q = let z : false ≡ true = ap (λ (o : Outcome Reduced Written). is_over o.answer) q in let y : ◌≡◌ {A = ℕ} 0 1 = cc in absurd (omega arith)
    go (Ok _) f q =
        let on_it = went_on check _ (run (r.taken + 1) (row_step on r.counts es w.memory).answer.counts) more (sym (ap (λ (o : Outcome Reduced Written). o.answer) q)) in
        record { room = f; taken = sym (ap (λ (x : Run). x.taken) on_it); counts = sym (ap (λ (x : Run). x.counts) on_it); memory = ap (λ (o : Outcome Reduced Written). o.memory.memory) q }

-- what is left of the fold, before a row
pub record Going (on check : Bool) (a : Matrix) (c : Counts) (v : Night) (r : Run) (w : Night) : Type 0 where
  pub goes : Goes r.counts a w
  pub within : r.taken ≤ a.nrows
  pub left : take_rows on check (drop r.taken (rows_of a)) (outcome (Taken r) (written w.memory w.answers)) ≡ take_rows on check (rows_of a) (outcome (Taken (run 0 c)) (written v.memory v.answers))
  pub dense : w.dense ≡ v.dense

pub going_start : (on check : Bool) {a : Matrix} {c : Counts} {v : Night} → Goes c a v → Going on check a c v (run 0 c) v
going_start on check s = record {
  goes = s;
  within = omega arith;
  left = refl;
  dense = refl;
}

-- as many rows as are counted
pub rows_many : (a : Matrix) → length (rows_of a) ≡ a.nrows
unfolding rows_of
rows_many a = length-table a.nrows (row a.row_ptrs (entries a.col_idcs a.values))

module _ {on check : Bool} {a : Matrix} {c : Counts} {v : Night} {r : Run} {w : Night} (g : Going on check a c v r w) where
  pub going_on : r.taken < a.nrows → GoesOn r a w
  going_on h = record { goes = g.goes; within = h }

  -- all rows are taken
  pub going_end : a.nrows ≤ r.taken → outcome (outcome (Taken r) (written w.memory w.answers)) w.dense ≡ outcome (take_rows on check (rows_of a) (outcome (Taken (run 0 c)) (written v.memory v.answers))) v.dense
  unfolding take_rows
  going_end h =
      let last : length (rows_of a) ≡ r.taken = omega (arith, rows_many a, g.within) in
      let none : drop r.taken (rows_of a) ≡ [] = ap (λ (k : ℕ). drop k (rows_of a)) (sym last) ∙ drop-length (rows_of a) in
      rw (← g.left, none, g.dense)

  -- one more
  module _ (h : r.taken < a.nrows) {x : Reduced} {m : Memory} {answers d : List ℕ} (next : outcome (outcome x (written m answers)) d ≡ outcome (next_row on check (row_at a r.taken) r (written w.memory w.answers)) w.dense) where
    here : outcome x (written m answers) ≡ next_row on check (row_at a r.taken) r (written w.memory w.answers)
    here = ap (λ (o : Outcome (Outcome Reduced Written) (List ℕ)). o.answer) next

    same_dense : d ≡ w.dense
    same_dense = ap (λ (o : Outcome (Outcome Reduced Written) (List ℕ)). o.memory) next

    rest : take_rows on check (drop (suc r.taken) (rows_of a)) (outcome x (written m answers)) ≡ take_rows on check (rows_of a) (outcome (Taken (run 0 c)) (written v.memory v.answers))
    unfolding take_rows then_row row_at
    rest =
        ap (take_rows on check (drop (suc r.taken) (rows_of a))) here
        ∙ sym (ap (λ (rs : List (List Entry)). take_rows on check rs (outcome (Taken r) (written w.memory w.answers))) (drop-cons (rows_of a) r.taken [] (omega (arith, rows_many a))))
        ∙ g.left

    pub going_over : is_over x ≡ true → outcome (outcome x (written m answers)) d ≡ outcome (take_rows on check (rows_of a) (outcome (Taken (run 0 c)) (written v.memory v.answers))) v.dense
    going_over e = rw (← rest, rows_over on check (drop (suc r.taken) (rows_of a)) (outcome x (written m answers)) e, same_dense ∙ g.dense)

    -- and on
    module _ {more : Run} (e : x ≡ Taken more) where
      abbrev es : List Entry
      es = row_at a r.taken

      abbrev cols : List ℕ
      cols = row a.row_ptrs a.col_idcs r.taken

      abbrev vals : List ℕ
      vals = row a.row_ptrs a.values r.taken

      row_is : entries cols vals ≡ es
      row_is = row_here r.counts.modulus a g.goes.fits.rows r.taken h

      mores : More on es r (written w.memory w.answers) more (written m answers)
      mores = next_more on check es r (written w.memory w.answers) more (written m answers) (ap (λ (y : Reduced). outcome y (written m answers)) (sym e) ∙ here)

      counts_same : Counted r.counts (row_step on r.counts es w.memory).answer
      unfolding step_row
      counts_same = step_counted on r.counts es (lists w.memory w.dense)

      stands : Stands more.counts (lists m d)
      unfolding step_row
      stands =
          let s = step_stands on r.counts cols vals (lists w.memory w.dense) g.goes.stands (next_offered (going_on h)) (rw row_is mores.room) in
          let q : Stands (row_step on r.counts es w.memory).answer.counts (lists (row_step on r.counts es w.memory).memory d) = subst (λ (xs : List Entry). Stands (row_step on r.counts xs w.memory).answer.counts (lists (row_step on r.counts xs w.memory).memory d)) row_is (record { opened = s.opened; state = s.state }) in
          rw (mores.counts, mores.memory) q

      pub going_taken : more.taken ≡ r.taken + 1
      going_taken = mores.taken

      pub going_more : Going on check a c v more (night m answers d)
      going_more = record {
        goes = record {
          stands = stands;
          fits = record {
            rows = rw (mores.counts, counts_same.modulus) g.goes.fits.rows;
            columns = rw (mores.counts, counts_same.ncols) g.goes.fits.columns;
          };
          zero = rw (mores.counts, counts_same.ncols) (same_dense ∙ g.goes.zero);
        };
        within = omega (arith, mores.taken);
        left =
            ap (λ (k : ℕ). take_rows on check (drop k (rows_of a)) (outcome (Taken more) (written m answers))) (mores.taken ∙ add-one r.taken)
            ∙ ap (λ (y : Reduced). take_rows on check (drop (suc r.taken) (rows_of a)) (outcome y (written m answers))) (sym e)
            ∙ rest;
        dense = same_dense ∙ g.dense;
      }
