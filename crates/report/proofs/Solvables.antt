-- What a text says, loaded into memory that isn't too short, can be solved.
-- Assumes nothing.
use Rattle.std.specs.Prelude.{Ok}
use mathlib.Core.Path.{◌≡◌, refl}
use mathlib.Core.List.{List}
use Prim.Native.Nat.{◌-◌, ◌≤◌}
use native.Mathlib.Omega.{arith}
use lib.ListN.{length, length-map}
use Rattle.lists.proofs.Ontos.{length-onto}
use Rattle.state.specs.Memory.{Memory}
use Rattle.triplets.specs.Triplets.{Triplet}
use Rattle.market.specs.Asks.{rows_in, cols_in, values_in}
use Rattle.market.specs.Parse.{Market}
use Rattle.market.specs.Tests.{modulus, entries_test}
use Rattle.plenty.specs.Plenty.{SameLists}
use Rattle.plenty.proofs.Rooms.{plenty_same}
use Rattle.solving.proofs.Wholes.{Solvable}
use Rattle.reporting.specs.Said.{matrix_said}
use Rattle.reporting.proofs.Entries.{Small, small}
use Rattle.reporting.proofs.Saids.{said_clean}
use Rattle.report.specs.Report.{waiting, loaded}
use Rattle.report.specs.Work.{Work, work_test}
use Rattle.report.proofs.Lengths.{Places, places, plenty_within}

module _ (m : Market) (w : Work) (good : entries_test m.nrows m.ncols m.entries ≡ Ok tt) (room : work_test w ≡ Ok tt) where
  abbrev ts : List Triplet
  ts = m.entries

  abbrev here : Memory
  here = w.night.memory

  within : Small m.nrows m.ncols ts
  within = small m.nrows m.ncols ts good

  have : Places w
  have = places w room

  -- the entries that wait leave the lists as long
  waiting_long : SameLists (waiting m here) here
  unfolding waiting rows_in cols_in values_in
  waiting_long =
      let few : length ts ≤ 1024 = within.few in
      record {
        u_cols = length-onto (rows_in ts) here.u_cols (omega (arith, have.u_cols, length-map ts (λ t. t.row - 1)));
        u_vals = length-onto (values_in ts) here.u_vals (omega (arith, have.u_vals, length-map ts (λ t. t.value)));
        u_ptrs = refl;
        l_cols = length-onto (cols_in ts) here.l_cols (omega (arith, have.l_cols, length-map ts (λ t. t.col - 1)));
        l_vals = refl;
        l_ptrs = refl;
        pivots = refl;
      }

  pub solvable : Solvable modulus (matrix_said m) (loaded m w).night
  unfolding matrix_said loaded waiting
  solvable = record {
    rows = said_clean m.nrows m.ncols ts good;
    dense = omega (arith, have.dense, within.wide);
    table = omega (arith, have.pivots, within.wide);
    answers = omega (arith, have.answers, within.high);
    plenty = plenty_same waiting_long (plenty_within w m.nrows m.ncols have within.high within.wide);
  }
