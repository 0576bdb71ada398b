-- A row that is added: what its tests give, and each outcome.
-- Assumes nothing.
use Rattle.std.specs.Prelude.{Err, Ok}
use mathlib.Core.Path.{◌≡◌, sym, ap, ◌∙◌}
use mathlib.Core.Bool.{Bool}
use mathlib.Core.List.{List, ◌++◌}
use Prim.Native.Nat.{ℕ}
use borrow.Author.Tests.{ltb-false, eqb-true, not-false}
use lib.Dec.{ltb}
use lib.ListN.{length, take, drop}
use Rattle.lists.specs.Table.{table}
use Rattle.sparse.specs.Lent.{Outcome, outcome, unless}
use Rattle.sparse.specs.Refusals.{lowest, Tested}
use Rattle.sparse.specs.Rows.{entries}
use Rattle.sparse.specs.declared.Refusal.{Refusal}
use Rattle.sparse.specs.declared.Refusal.TheVariants.{Shape, Mismatch}
use Rattle.sparse.proofs.Firsts.{neither, refuse_good, lowest_good}
use Rattle.meaning.proofs.Values.{columns_climb}
use Rattle.state.specs.Memory.{Memory}
use Rattle.state.specs.declared.Counts.{Counts}
use Rattle.walk.specs.Dense.{wiped}
use Rattle.stepping.specs.Asks.{Offered, Ready}
use Rattle.stepping.specs.Take.{Lists, lists, room_asked, row_step, step_row}
use Rattle.stepping.specs.declared.Stepped.{Stepped}
use Rattle.stepping.proofs.Clears.{cleared_zero, front_zero, front_cleared}
use Rattle.stepping.proofs.Offers.{offered}
use Rattle.adding.specs.AddRow.{answered_with, take_row, add_row}
use Rattle.adding.specs.Asks.{Takeable}
use Rattle.adding.specs.RowTests.{row_tests, short_test, add_row_test}
use Rattle.adding.proofs.RowsTested.{tested_opened}

-- the same number of columns and values
pub tested_same : (p n : ℕ) (cols vals : List ℕ) → lowest (row_tests p n cols vals) ≡ Ok tt → length cols ≡ length vals
unfolding row_tests
tested_same p n cols vals e = eqb-true (length cols) (length vals) (not-false _ (refuse_good _ Shape (lowest_good _ _ (lowest_good _ _ (lowest_good _ _ e).1).1).0))

tested_offered : (c : Counts) (cols vals : List ℕ) → lowest (row_tests c.modulus c.ncols cols vals) ≡ Ok tt → Offered c cols vals
unfolding row_tests
tested_offered c cols vals e =
    let columns = lowest_good _ _ (lowest_good _ _ (lowest_good _ _ (lowest_good _ _ e).1).1).1 in
    let low = lowest_good _ _ columns.1 in
    offered c cols vals (tested_same c.modulus c.ncols cols vals e) (columns_climb c.ncols cols columns.0) low.0 (lowest_good _ _ low.1).0

module _ (c : Counts) (cols vals : List ℕ) (o : Lists) where
  -- the tests, part by part
  module _ (e : add_row_test c cols vals o.dense o.memory ≡ Ok tt) where
    pub add_same : length cols ≡ length vals
    unfolding add_row_test
    add_same = tested_same c.modulus c.ncols cols vals (lowest_good _ _ e).0

    pub add_takeable : room_asked c (entries cols vals) o.memory ≡ Ok tt → Takeable c cols vals o
    unfolding add_row_test short_test
    add_takeable room =
        let row = lowest_good _ _ e in
        let rest = lowest_good _ _ row.1 in
        record {
          stands = record { opened = tested_opened c.modulus c.ncols cols vals o.dense o.memory.pivots row.0 rest.0; state = (lowest_good _ _ rest.1).0 };
          row = tested_offered c cols vals row.0;
          room = room;
          long = ltb-false (length o.dense) c.ncols (neither (ltb (length o.dense) c.ncols) (ltb (length o.memory.pivots) c.ncols) (refuse_good _ Mismatch rest.0)).0;
        }

  -- the outcomes
  module _ (on : Bool) {s : Tested} (tested : s ≡ add_row_test c cols vals o.dense o.memory) where
    pub add_refused : {why : Refusal} → s ≡ Err why → outcome (Err why) o ≡ add_row on c cols vals o
    unfolding add_row take_row unless
    add_refused e = rw (sym tested ∙ e)

    module _ (good : s ≡ Ok tt) {r : Tested} (asked : r ≡ room_asked c (entries cols vals) o.memory) where
      pub add_no_room : {why : Refusal} → r ≡ Err why → outcome (Err why) o ≡ add_row on c cols vals o
      unfolding add_row take_row unless
      add_no_room e = rw (sym tested ∙ good, sym asked ∙ e)

      pub add_answered : r ≡ Ok tt → {x : Stepped} {after : Lists} → outcome x after ≡ step_row on c (entries cols vals) o → outcome (Ok x) after ≡ add_row on c cols vals o
      unfolding add_row take_row unless answered_with
      add_answered e took = rw (sym tested ∙ good, sym asked ∙ e) (ap answered_with took)

  -- dense memory is cleared, and its front lent
  module _ (t : Takeable c cols vals o) {front : List ℕ} (wipe : front ≡ wiped 0 (take c.ncols o.dense)) where
    zero : front ≡ table c.ncols (λ j. 0)
    zero = front_zero c.ncols o.dense front t.long wipe

    pub take-ready : Ready c cols vals (lists o.memory front)
    take-ready = record { stands = record { opened = t.stands.opened; state = t.stands.state }; row = t.row; room = t.room; zero = zero }

    pub take-returns : (on : Bool) {x : Stepped} {m : Memory} {d : List ℕ} → outcome x (lists m d) ≡ step_row on c (entries cols vals) (lists o.memory front) → outcome x (lists m (d ++ drop c.ncols o.dense)) ≡ step_row on c (entries cols vals) o
    unfolding step_row
    take-returns on {d = d} e =
        ap (λ (y : Outcome Stepped Lists). outcome y.answer (lists y.memory.memory (d ++ drop c.ncols o.dense))) e
        ∙ ap (λ (y : List ℕ). outcome (row_step on c (entries cols vals) o.memory).answer (lists (row_step on c (entries cols vals) o.memory).memory y))
        (front_cleared c.ncols o.dense d (ap (λ (y : Outcome Stepped Lists). y.memory.dense) e ∙ cleared_zero c.ncols front zero ∙ zero))
