-- What good tests leave for inserting columns in a reducer: a state, positions among its columns, and a place for each
-- column.
-- Assumes nothing.
use Rattle.std.specs.Prelude.{Ok}
use mathlib.Core.Path.{◌≡◌}
use mathlib.Core.List.{List, []}
use Prim.Native.Nat.{ℕ, ◌+◌, ◌≤◌, ◌<◌}
use native.Mathlib.Omega.{arith}
use borrow.Author.Tests.{ltb-false}
use lib.ListN.{length, get_or, take}
use Rattle.sparse.specs.Tests.{modulus_test, clean}
use Rattle.sparse.specs.declared.Refusal.TheVariants.{Mismatch}
use Rattle.sparse.proofs.Cuts.{formed_laid, formed_rows}
use Rattle.sparse.proofs.Firsts.{refuse_good, lowest_good}
use Rattle.meaning.proofs.RowColumns.{column_low}
use Rattle.columns.specs.Asks.{Movable}
use Rattle.columns.proofs.Passed.{few_cols, not_falling, position_low}
use Rattle.state.specs.Asks.{Opened}
use Rattle.state.specs.Memory.{Memory}
use Rattle.state.specs.declared.Counts.{Counts}
use Rattle.state.proofs.Faults.{Held, lost_none}
use Rattle.states.proofs.Echelons.{state_clean}
use Rattle.stepping.specs.Asks.{Stands}
use Rattle.stepping.specs.Take.{lists}
use Rattle.stepping.proofs.Walks.{parts}
use Rattle.widening.specs.AddCols.{width_test, add_cols_test}
use Rattle.widening.specs.Asks.{Spreads}

-- 2 and 11 find nothing
record Roomy (n more places : ℕ) : Type 0 where
  pub wide : n + more ≤ 1024
  pub table : n + more ≤ places

roomy : (n more places : ℕ) → width_test n more places ≡ Ok tt → Roomy n more places
unfolding width_test
roomy n more places e =
    let wider = lowest_good _ _ (lowest_good _ _ e).1 in
    record { wide = few_cols 65536 0 (n + more) 0 wider.0; table = ltb-false places (n + more) (refuse_good _ Mismatch (lowest_good _ _ wider.1).0) }

-- 1 neither: the record is that of an open reducer
pub width_opened : (p n more : ℕ) (pivots : List ℕ) → modulus_test p ≡ Ok tt → width_test n more (length pivots) ≡ Ok tt → Opened p n pivots
width_opened p n more pivots m e =
    let r = roomy n more (length pivots) e in
    record { modulus = m; wide = omega (arith, r.wide); table = omega (arith, r.table) }

-- all tests find nothing
pub record Widenable (c : Counts) (positions : List ℕ) (m : Memory) : Type 0 where
  pub stands : Stands c (lists m [])
  pub spreads : Spreads c.ncols positions m.pivots

pub widenable : (c : Counts) (ps : List ℕ) (m : Memory) → add_cols_test c ps m ≡ Ok tt → Widenable c ps m
unfolding add_cols_test
widenable c ps m e =
    let width = lowest_good _ _ (lowest_good _ _ e).1 in
    let order = lowest_good _ _ width.1 in
    let r = roomy c.ncols (length ps) (length m.pivots) width.0 in
    record {
      stands = record { opened = width_opened c.modulus c.ncols (length ps) m.pivots (lowest_good _ _ e).0 width.0; state = (lowest_good _ _ order.1).0 };
      spreads = record { sorted = not_falling c.ncols ps order.0; low = position_low c.ncols ps order.0; wide = r.wide; table = r.table };
    }

module _ {c : Counts} {ps : List ℕ} {m : Memory} (w : Widenable c ps m) where
  pub held : Held c.rank c.u_fill m.u_cols m.u_vals m.u_ptrs
  held = lost_none c.rank c.u_fill m.u_cols m.u_vals m.u_ptrs (parts c (lists m []) w.stands).lost

  -- U's columns are those of a clean matrix, below the column count
  column_below : (k : ℕ) → k < length (take c.u_fill m.u_cols) → get_or (take c.u_fill m.u_cols) k 0 < c.ncols
  unfolding clean
  column_below k h =
      let p = parts c (lists m []) w.stands in
      let tidy = (lowest_good _ _ (state_clean c.modulus c.ncols c.rank c.u_fill m.u_cols m.u_vals m.u_ptrs m.pivots w.stands.opened p.lost p.fault)).0 in
      column_low _ (formed_rows 1048576 c.modulus _ tidy) (formed_laid 1048576 c.modulus _ tidy) k h

  pub columns_movable : Movable ps (take c.u_fill m.u_cols)
  columns_movable = record {
    sorted = w.spreads.sorted;
    few = omega (arith, w.spreads.wide);
    low = λ k h. omega (arith, column_below k h, w.stands.opened.wide);
  }
