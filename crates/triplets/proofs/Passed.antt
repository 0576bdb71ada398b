-- What tests that are passed have shown of triplets and of lent memory, and what the writer leaves, by the parts.
-- Assumes nothing.
use Rattle.std.specs.Prelude.{Ok}
use mathlib.Core.Path.{◌≡◌}
use mathlib.Core.Bool.{not}
use mathlib.Core.List.{List}
use Prim.Native.Nat.{ℕ, ◌+◌}
use lib.Dec.{ltb, eqb}
use lib.ListN.{length}
use borrow.Author.Tests.{ltb-false, eqb-true, not-false}
use Rattle.lists.specs.Onto.{◌onto◌}
use Rattle.lists.specs.Table.{table}
use Rattle.triplets.specs.Asks.{Parts, Writable}
use Rattle.sparse.specs.Lent.{Lent, lent, room_test}
use Rattle.sparse.specs.Tests.{values_test}
use Rattle.triplets.specs.Triplets.{triplets, parts_test, places_test, order_test, start_of, written, triplets_test}
use Rattle.sparse.specs.declared.Refusal.TheVariants.{Shape, Room}
use Rattle.sparse.specs.declared.inside.Clause.TheVariants.{Residue}
use Rattle.sparse.proofs.Firsts.{refuse_good, neither, lowest_good}
use Rattle.triplets.proofs.Orders.{rising}
use Rattle.triplets.proofs.TripletLists.{rows_back, cols_back, vals_back}

pub parts_of : (rows cols vals : List ℕ) → parts_test rows cols vals ≡ Ok tt → Parts rows cols vals
unfolding parts_test
parts_of rows cols vals good =
    let none = neither (not (eqb (length rows) (length vals))) _ (refuse_good _ Shape good) in
    record { row_each = eqb-true _ _ (not-false _ none.0); col_each = eqb-true _ _ (not-false _ none.1) }

-- what the tests of triplets leave: 3, 6, 8 and 9 don't apply
pub record Accepted (p nrows ncols : ℕ) (rows cols vals : List ℕ) : Type 0 where
  pub parts : parts_test rows cols vals ≡ Ok tt
  pub residues : values_test Residue p vals ≡ Ok tt
  pub places : places_test nrows ncols (triplets rows cols vals) ≡ Ok tt
  pub order : order_test (triplets rows cols vals) ≡ Ok tt

pub accepted : (p nrows ncols : ℕ) (rows cols vals : List ℕ) → triplets_test p nrows ncols rows cols vals ≡ Ok tt → Accepted p nrows ncols rows cols vals
unfolding triplets_test
accepted p nrows ncols rows cols vals good =
    let from_parts = lowest_good _ _ (lowest_good _ _ (lowest_good _ _ good).1).1 in
    let from_values = lowest_good _ _ from_parts.1 in
    let from_Places = lowest_good _ _ from_values.1 in
    record { parts = from_parts.0; residues = from_values.0; places = from_Places.0; order = (lowest_good _ _ from_Places.1).0 }

-- tested triplets and tested room are what the writer asks
pub writable : (p nrows ncols : ℕ) (rows cols vals : List ℕ) (l : Lent) → triplets_test p nrows ncols rows cols vals ≡ Ok tt → room_test nrows (length vals) l ≡ Ok tt → Writable nrows rows cols vals l
unfolding room_test
writable p nrows ncols rows cols vals l good room =
    let ok = accepted p nrows ncols rows cols vals good in
    let parts = parts_of rows cols vals ok.parts in
    let long = neither _ (ltb (length l.values) (length vals)) (refuse_good _ Room room) in
    let front = neither (ltb (length l.row_ptrs) (nrows + 1)) (ltb (length l.col_idcs) (length vals)) long.0 in
    record {
      parts = parts;
      rising = rising rows cols vals ok.order parts;
      pointers = ltb-false _ _ front.0;
      columns = ltb-false _ _ front.1;
      numbers = ltb-false _ _ long.1;
    }

-- what the writer leaves
pub written_parts : (nrows : ℕ) (rows cols vals : List ℕ) (l : Lent) → Parts rows cols vals → written nrows (triplets rows cols vals) l ≡ lent (table (nrows + 1) (start_of rows) onto l.row_ptrs) (cols onto l.col_idcs) (vals onto l.values)
unfolding written
written_parts nrows rows cols vals l p = rw (rows_back rows cols vals p, cols_back rows cols vals p, vals_back rows cols vals)
