-- Inserting columns in a reducer leaves a state, whose rows of U are the old ones with inserted columns as zeros: what was a
-- combination of them is one, and nothing else.
-- Assumes nothing.
use Rattle.std.specs.Prelude.{Ok}
use mathlib.Core.Path.{◌≡◌, refl, ◌∙◌}
use mathlib.Core.Bool.{false}
use mathlib.Core.List.{List, []}
use Prim.Native.Nat.{ℕ, ◌+◌, ◌≤◌, ◌<◌}
use native.Mathlib.Omega.{arith}
use lib.ListN.{length}
use Rattle.linear.specs.Combination.{Combination}
use Rattle.state.specs.Memory.{Memory, places}
use Rattle.state.specs.State.{u_fault, u_lost, u_rows, l_fault}
use Rattle.state.specs.declared.Counts.{Counts}
use Rattle.state.specs.declared.Mode.{Mode}
use Rattle.state.specs.declared.Mode.TheVariants.{Full, Pattern, None}
use Rattle.walk.specs.Step as S
use Rattle.stepping.specs.Asks.{Stands}
use Rattle.stepping.specs.Take.{Lists, lists}
use Rattle.stepping.proofs.Walks.{parts, stands_echelon, rank_low}
use Rattle.keeping.proofs.Settings.{rows_in, parts_state, stands_upright}
use Rattle.keeping.proofs.Uppers.{upright_sound}
use Rattle.widening.specs.AddCols.{wider_counts, add_cols_test, widened}
use Rattle.widening.specs.Inserted.{Inserted}
use Rattle.widening.proofs.Combinations.{combination_old, combination_new}
use Rattle.widening.proofs.Passed.{Widenable, widenable, held}
use Rattle.widening.proofs.Spreads.{length-spread}
use Rattle.widening.proofs.Stretches.{long_moved, upright_moved, row_inserted, table_spread}

-- L doesn't know of columns
same_multipliers : (mode : Mode) (c : Counts) (more : ℕ) (cols vals ptrs : List ℕ) → l_fault mode (wider_counts c more) cols vals ptrs ≡ l_fault mode c cols vals ptrs
unfolding l_fault wider_counts
same_multipliers Full c more cols vals ptrs = refl
same_multipliers Pattern c more cols vals ptrs = refl
same_multipliers None c more cols vals ptrs = refl

module _ (c : Counts) (ps : List ℕ) (m : Memory) (w : Widenable c ps m) where
  abbrev before : Lists
  before = lists m []

  abbrev fits : c.u_fill ≤ length m.u_cols
  fits = (held w).columns

  found : u_lost c.rank c.u_fill (widened c ps m).u_cols m.u_vals m.u_ptrs ≡ false
  unfolding widened u_lost places
  found = rw (long_moved ps c.u_fill m.u_cols fits) (parts c before w.stands).lost

  sound : u_fault c.modulus (u_rows (c.ncols + length ps) c.rank c.u_fill (widened c ps m).u_cols m.u_vals m.u_ptrs) (widened c ps m).pivots ≡ false
  unfolding widened S.upper
  sound =
      upright_sound
      (record { pointers = (held w).pointers; columns = omega (arith, long_moved ps c.u_fill m.u_cols fits, fits); numbers = (held w).numbers; few = (held w).few })
      (upright_moved ps c.u_fill m.u_cols fits (stands_upright c before w.stands))
      w.stands.opened.modulus
      (omega (arith, rank_low c before w.stands, w.stands.opened.wide))
      w.spreads.wide
      (table_spread (stands_echelon c before w.stands).table w.spreads (stands_echelon c before w.stands).heads.within)

  after_stands : (dense : List ℕ) → Stands (wider_counts c (length ps)) (lists (widened c ps m) dense)
  unfolding wider_counts widened
  after_stands dense = record {
    opened = record { modulus = w.stands.opened.modulus; wide = w.spreads.wide; table = omega (arith, w.spreads.table, length-spread c.ncols ps m.pivots w.spreads.table) };
    state = parts_state (record { lost = found; fault = sound; multipliers = same_multipliers c.mode c (length ps) m.l_cols m.l_vals m.l_ptrs ∙ (parts c before w.stands).multipliers });
  }

module _ (c : Counts) (ps : List ℕ) (m : Memory) (good : add_cols_test c ps m ≡ Ok tt) where
  -- a state again
  pub add_cols_stands : (dense : List ℕ) → Stands (wider_counts c (length ps)) (lists (widened c ps m) dense)
  add_cols_stands = after_stands c ps m (widenable c ps m good)

  -- each row of U is the old one with inserted columns as zeros
  pub add_cols_rows : (r : ℕ) → r < c.rank → Inserted c.ncols ps ((rows_in m).value r) ((rows_in (widened c ps m)).value r)
  unfolding widened S.upper
  add_cols_rows r l =
      let w : Widenable c ps m = widenable c ps m good in
      row_inserted ps c.u_fill m.u_cols (held w).columns (stands_upright c (lists m []) w.stands) w.spreads.sorted r l

  -- what was a combination of U's rows is one, and what is one was
  pub add_cols_combination : {x y : ℕ → ℕ} → Inserted c.ncols ps x y
      → (Combination c.modulus c.ncols c.rank (rows_in m).value x → Combination c.modulus (c.ncols + length ps) c.rank (rows_in (widened c ps m)).value y)
      × (Combination c.modulus (c.ncols + length ps) c.rank (rows_in (widened c ps m)).value y → Combination c.modulus c.ncols c.rank (rows_in m).value x)
  add_cols_combination row =
      let s = (widenable c ps m good).spreads in
      (combination_new c.modulus add_cols_rows row s.sorted s.low, combination_old c.modulus add_cols_rows row)

  -- with a new column there is room for a pivot
  pub add_cols_open : 0 < length ps → c.rank < c.ncols + length ps
  add_cols_open h = omega (arith, rank_low c (lists m []) (widenable c ps m good).stands)
