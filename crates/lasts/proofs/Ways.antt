-- What is gathered by each order is what its call's definition says.
-- Assumes nothing.
use Rattle.std.specs.Prelude.{Ok}
use mathlib.Core.Path.{◌≡◌, refl, sym, ap, ◌∙◌}
use mathlib.Core.List.{List, flatten}
use Prim.Native.Nat.{ℕ, ◌≤◌, ◌<◌}
use native.Mathlib.Omega.{arith}
use Rattle.lists.specs.Table.{table}
use Rattle.lists.proofs.Tables.{table_ext}
use Rattle.sparse.specs.Matrix.{Matrix}
use Rattle.sparse.specs.Pivots.{mark}
use Rattle.sparse.specs.Tests.{well_formed}
use Rattle.sparse.proofs.Cuts.{small}
use Rattle.sparse.proofs.Firsts.{lowest_good, lowest_skip, lowest_last}
use Rattle.readers.specs.Asks.{Readable}
use Rattle.readers.proofs.Identities.{formed_readable}
use Rattle.lasts.specs.Asks.{Sourced, AllRows}
use Rattle.lasts.specs.Gathers.{size_of, source_of, taken_at, taken, gathered}
use Rattle.pivots.specs.Tables.{table_test}
use Rattle.lasts.specs.Lasts.{last_of, by_row, by_row_rev, by_pivot}
use Rattle.lasts.specs.declared.gather.Order.{Order}
use Rattle.lasts.specs.declared.gather.Order.TheVariants.{ByRow, Reversed, ByPivot}
use Rattle.lasts.proofs.Sources.{taken_last}

-- no row has the mark's number
rows_taken : (o : Order) (m : Matrix) (pivots : List ℕ) → m.nrows ≤ mark → ((k : ℕ) → k < size_of o m.nrows pivots → source_of o m.nrows pivots k < m.nrows) → gathered o m pivots ≡ flatten (table (size_of o m.nrows pivots) (λ k. last_of m (source_of o m.nrows pivots k) k))
unfolding gathered taken mark
rows_taken o m pivots few each =
    ap flatten (table_ext (size_of o m.nrows pivots) (taken_at o m pivots) (λ k. last_of m (source_of o m.nrows pivots k) k) (λ k h. taken_last o m pivots k (λ e. omega (arith, each k h))))

module _ (m : Matrix) (pivots : List ℕ) where
  pub by_row_lem : m.nrows ≤ mark → gathered ByRow m pivots ≡ by_row m
  unfolding by_row size_of source_of
  by_row_lem few = rows_taken ByRow m pivots few (λ k h. h)

  pub by_row_rev_lem : m.nrows ≤ mark → gathered Reversed m pivots ≡ by_row_rev m
  unfolding by_row_rev size_of source_of
  by_row_rev_lem few = rows_taken Reversed m pivots few (λ k h. omega arith)

  pub by_pivot_lem : gathered ByPivot m pivots ≡ by_pivot m pivots
  unfolding gathered taken taken_at by_pivot size_of source_of
  by_pivot_lem = refl

-- the orders of all rows
pub rows_in_order : AllRows ByRow
rows_in_order = record { no_table = λ e. let z : ◌≡◌ {A = ℕ} 0 1 = cc in omega arith }

pub rows_reversed : AllRows Reversed
rows_reversed = record { no_table = λ e. let z : ◌≡◌ {A = ℕ} 0 1 = cc in omega arith }

rows_each : (o : Order) (rows : ℕ) (pivots : List ℕ) → AllRows o → size_of o rows pivots ≡ rows
unfolding size_of
rows_each ByRow rows pivots a = refl
rows_each Reversed rows pivots a = refl
rows_each ByPivot rows pivots a = absurd (a.no_table refl)

-- past the tests: all indices have a source
pub rows_sourced : (o : Order) (p : ℕ) (m : Matrix) (pivots : List ℕ) → well_formed 65536 p m ≡ Ok tt → AllRows o → Sourced o m pivots
rows_sourced o p m pivots good rows =
    let r : Readable m = formed_readable 65536 p m good in
    record { whole = r; few = omega (arith, r.few, rows_each o m.nrows pivots rows); table = λ e. absurd (rows.no_table e) }

-- the tests of the table leave those of the matrix
pub pivot_formed : (p : ℕ) (m : Matrix) (pivots : List ℕ) → table_test p m pivots ≡ Ok tt → well_formed 65536 p m ≡ Ok tt
unfolding table_test well_formed
pivot_formed p m pivots good =
    let a = lowest_good _ _ good in
    let b = lowest_good _ _ a.1 in
    lowest_skip _ a.0 ∙ lowest_skip _ b.0 ∙ sym (lowest_last (sym (lowest_good _ _ (lowest_good _ _ b.1).1).0))

pub pivots_sourced : (p : ℕ) (m : Matrix) (pivots : List ℕ) → table_test p m pivots ≡ Ok tt → Sourced ByPivot m pivots
unfolding table_test size_of
pivots_sourced p m pivots good =
    let b = lowest_good _ _ (lowest_good _ _ (lowest_good _ _ good).1).1 in
    record {
      whole = formed_readable 65536 p m (pivot_formed p m pivots good);
      few = (small _ _ _ _ b.0).wide;
      table = λ e. (lowest_good _ _ (lowest_good _ _ b.1).1).0;
    }
