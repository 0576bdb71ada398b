-- U in a state, its rows from the highest pivot column down: where each stands in memory, and that each is accepted.
-- Assumes nothing.
use mathlib.Core.Path.{◌≡◌, sym, ap, ap₂, subst, ◌∙◌}
use mathlib.Core.Bool.{true, false}
use mathlib.Core.List.{List}
use Prim.Native.Nat.{ℕ, ◌+◌, ◌≤◌, ◌<◌}
use native.Mathlib.Omega.{arith}
use borrow.Author.Tests.{not-false}
use lib.ListN.{length, get_or, take}
use lib.Seq.{length-take-le}
use Rattle.field.specs.Prime.{is_modulus}
use Rattle.field.proofs.Primes.{modulus_iff}
use Rattle.meaning.proofs.Parts.{length_part}
use Rattle.meaning.proofs.RowLists.{entry_cols, entry_values, part_entries}
use Rattle.sparse.specs.Matrix.{row, part, value_in}
use Rattle.sparse.specs.Put.{cols_of, values_of}
use Rattle.sparse.specs.Rows.{Entry, entries, row_at}
use Rattle.sparse.specs.Tests.{modulus_test}
use Rattle.sparse.specs.declared.Refusal.TheVariants.{Modulus}
use Rattle.sparse.proofs.Firsts.{refuse_good}
use Rattle.state.specs.Asks.{Opened}
use Rattle.state.specs.Memory.{Memory}
use Rattle.state.specs.State.{u_fault, u_lost, u_rows, u_of}
use Rattle.state.specs.declared.Counts.{Counts}
use Rattle.state.proofs.Faults.{Held, lost_none}
use Rattle.states.proofs.Echelons.{part_front, ptr, head_at, state_echelon}
use Rattle.steps.specs.Rows.{value_of, CleanRow}
use Rattle.steps.specs.Setting.{Inverts, Echelon}
use Rattle.steps.proofs.Nones.{rows_few}
use Rattle.steps.proofs.Steps.{prime_inverts}
use Rattle.stepping.proofs.Offers.{offered}
use Rattle.walk.specs.Asks.{PivotRow}
use Rattle.walk.specs.Step as S
use Rattle.writing.proofs.RowPuts.{row_at_lem}
use Rattle.keeping.proofs.Settings.{rows_in}
use Rattle.keeping.proofs.Storables.{storables_pass}
use Rattle.keeping.proofs.Uppers.{Upright, state_upright}
use Rattle.reduced.specs.Building.{Falling}
use Rattle.reduced.specs.Order.{pivot_columns, column_down}
use Rattle.reduced.proofs.Orders.{columns_many, down_falling}
use Rattle.sparse.specs.declared.inside.Clause.TheVariants.{Residue, Nonzero}
use Rattle.backing.specs.Back.{down_row}

module _ (c : Counts) (m : Memory) (o : Opened c.modulus c.ncols m.pivots)
    (lost : u_lost c.rank c.u_fill m.u_cols m.u_vals m.u_ptrs ≡ false)
    (fault : u_fault c.modulus (u_rows c.ncols c.rank c.u_fill m.u_cols m.u_vals m.u_ptrs) m.pivots ≡ false) where
  held : Held c.rank c.u_fill m.u_cols m.u_vals m.u_ptrs
  held = lost_none c.rank c.u_fill m.u_cols m.u_vals m.u_ptrs lost

  pub heads : ℕ → ℕ
  heads = head_at c.modulus c.ncols c.rank c.u_fill m.u_cols m.u_vals m.u_ptrs m.pivots o lost fault

  pub echelon : Echelon c.modulus c.ncols c.rank (rows_in m) heads
  unfolding heads
  echelon = state_echelon c.modulus c.ncols c.rank c.u_fill m.u_cols m.u_vals m.u_ptrs m.pivots o lost fault

  upright : Upright c.modulus c.ncols c.rank c.u_fill m.u_cols m.u_vals m.u_ptrs heads
  unfolding heads
  upright = state_upright c.modulus c.ncols c.rank c.u_fill m.u_cols m.u_vals m.u_ptrs m.pivots o lost fault

  pub modulus : is_modulus c.modulus ≡ true
  unfolding modulus_test
  modulus = not-false _ (refuse_good _ Modulus o.modulus)

  pub inverts : Inverts c.modulus
  inverts = prime_inverts ((modulus_iff c.modulus).0 modulus).0

  pub rank_low : c.rank ≤ c.ncols
  rank_low = rows_few echelon

  -- row r in memory
  module _ (r : ℕ) (l : r < c.rank) where
    pub here : PivotRow c.ncols (heads r) m.u_cols m.u_vals m.u_ptrs r
    here = (upright.rows r l).pivot

    front : (xs : List ℕ) → c.u_fill ≤ length xs → row (take (c.rank + 1) m.u_ptrs) (take c.u_fill xs) r ≡ row m.u_ptrs xs r
    unfolding row
    front xs fits =
        ap₂ (λ (a b : ℕ). part a b (take c.u_fill xs)) (pointer r (omega arith)) (pointer (r + 1) (omega arith))
        ∙ part_front (get_or m.u_ptrs r 0) (get_or m.u_ptrs (r + 1) 0) c.u_fill xs (upright.rows r l).fits fits
      where
        pointer : (i : ℕ) → i ≤ c.rank → get_or (take (c.rank + 1) m.u_ptrs) i 0 ≡ get_or m.u_ptrs i 0
        pointer = ptr c.modulus c.ncols c.rank c.u_fill m.u_cols m.u_vals m.u_ptrs m.pivots o lost fault

    pub long : length (row m.u_ptrs m.u_cols r) ≡ length (row m.u_ptrs m.u_vals r)
    unfolding row
    long = length_part (get_or m.u_ptrs r 0) (get_or m.u_ptrs (r + 1) 0) m.u_cols here.columns ∙ sym (length_part (get_or m.u_ptrs r 0) (get_or m.u_ptrs (r + 1) 0) m.u_vals here.numbers)

    -- its columns and values, side by side
    pub stored : entries (row m.u_ptrs m.u_cols r) (row m.u_ptrs m.u_vals r) ≡ row_at (u_of c m) r
    unfolding u_of u_rows row
    stored =
        ap₂ entries (sym (front m.u_cols held.columns)) (sym (front m.u_vals held.numbers))
        ∙ part_entries (get_or (take (c.rank + 1) m.u_ptrs) r 0) (get_or (take (c.rank + 1) m.u_ptrs) (r + 1) 0) (take c.u_fill m.u_cols) (take c.u_fill m.u_vals) (length-take-le c.u_fill m.u_cols held.columns ∙ sym (length-take-le c.u_fill m.u_vals held.numbers)) ends
        ∙ sym (row_at_lem (u_of c m) r l)
      where
        ends : get_or (take (c.rank + 1) m.u_ptrs) (r + 1) 0 ≤ length (take c.u_fill m.u_vals)
        ends = omega (arith, ptr c.modulus c.ncols c.rank c.u_fill m.u_cols m.u_vals m.u_ptrs m.pivots o lost fault (r + 1) (omega arith), length-take-le c.u_fill m.u_vals held.numbers, (upright.rows r l).fits)

    -- a clean row of U's values
    clean_here : CleanRow c.modulus c.ncols (entries (row m.u_ptrs m.u_cols r) (row m.u_ptrs m.u_vals r))
    clean_here = (offered c (row m.u_ptrs m.u_cols r) (row m.u_ptrs m.u_vals r) long here.climbs (storables_pass (upright.rows r l).values Residue) (storables_pass (upright.rows r l).values Nonzero)).clean

    pub clean : CleanRow c.modulus c.ncols (row_at (u_of c m) r)
    clean = subst (CleanRow c.modulus c.ncols) stored clean_here

    pub means : (j : ℕ) → j < c.ncols → value_of (row_at (u_of c m) r) j ≡ (rows_in m).value r j
    unfolding S.upper cols_of values_of
    means j b = ap (λ (es : List Entry). value_of es j) (sym stored) ∙ ap₂ (λ (x y : List ℕ). value_in x y j) (entry_cols (row m.u_ptrs m.u_cols r) (row m.u_ptrs m.u_vals r) long) (entry_values (row m.u_ptrs m.u_cols r) (row m.u_ptrs m.u_vals r))

    pub short : get_or m.u_ptrs (r + 1) 0 ≤ 1048576
    short = omega (arith, (upright.rows r l).fits, held.few)

  -- by falling head
  pub falling : Falling c.modulus c.ncols c.rank (down_row c m) (column_down m.pivots c.ncols)
  unfolding down_row S.upper
  falling = down_falling echelon (row_at (u_of c m)) means inverts clean

  -- one for each row of U
  pub many_down : length (pivot_columns m.pivots c.ncols) ≡ c.rank
  unfolding S.upper
  many_down = columns_many echelon
